-- A unit that is read is one by its bytes, and one by its bytes is read.
use Rattle.std.proofs.Common.{◌≡◌, ◌≢◌, ℕ, ◌<◌, ◌≤◌, Bool, eqb, ltb, leb, cond, List, ◌∷◌, ◌++◌, length, drop, Option, Some, None, Result, Ok, Err, inl, inr, ◌⊎◌, refl, ap, subst, ◌∙◌, sym, arith}
use Rattle.std.specs.Prelude.{◌&&◌}
use Rattle.std.proofs.lemmas.Bool.{and_parts}
use borrow.Author.Tests.{eqb-true, eqb-false, eq-eqb, apart_eqb, ltb-true, lt-ltb, leb-true, le-leb}
use Rattle.mac_base.specs.declared.value.Sizes.{Sizes}
use Rattle.mac_base.specs.Input.{Input, rest, ◌>>=◌}
use Rattle.mac_base.specs.SectionBytes.{SectionBytes}
use Rattle.mac_base.specs.Spelling.{IsFixed}
use Rattle.mac_base.specs.Fields.{number_at, uleb_at}
use Rattle.mac_base.specs.Values.{offset_at, offset_width}
use Rattle.mac_base.proofs.Choices.{bind_ok, same_ok, chosen, guarded}
use Rattle.info_roots.specs.declared.fault.InfoFault.{InfoFault}
use Rattle.info_roots.specs.declared.fault.InfoKind.TheVariants.{Version, AbbrevRange}
use Rattle.info_roots.specs.declared.root.Root.{Root}
use Rattle.info_roots.specs.Faults.{field, fault_at}
use Rattle.info_roots.specs.Abbreviations.{Abbreviation, abbreviation_in}
use Rattle.info_roots.specs.AbbreviationSpelling.{IsUnsigned}
use Rattle.info_roots.specs.Entries.{Entry, no_entry, entry_at}
use Rattle.info_roots.specs.EntrySpelling.{AttributeValue, IsTextOrNone, text_named, IsRoot, IsRootOrNone}
use Rattle.info_roots.specs.Texts.{texts_by, root_by}
use Rattle.info_roots.specs.Units.{root_in, entry_root, first_at, compile_at, fields_at, unit_at}
use Rattle.info_roots.specs.UnitSpelling.{IsFirstEntry, NoEntry, OtherTag, CompileUnit, IsUnitBody, Older, OtherType, Compile}
use Rattle.info_roots.proofs.PrefixLemmas.{field_ok, uleb_takes, uleb_again, number_takes, number_again, byte_takes, byte_again, offset_takes, offset_again}
use Rattle.info_roots.proofs.AbbreviationSpellingLemmas.{abbreviation_takes, abbreviation_again}
use Rattle.info_roots.proofs.EntryLemmas.{after_values, values_takes, values_again}
use Rattle.info_roots.proofs.NamedLemmas.{name_said, line_said, dir_said, str_base_said, macros_said, fit_takes, fit_again}
use Rattle.info_roots.proofs.TextLemmas.{texts_takes, texts_again}

-- the entry that was read of these values
abbrev read_of : List AttributeValue → Entry
read_of values = after_values no_entry values

some_root : (s : SectionBytes) (at : ℕ) (wide : Bool) (values : List AttributeValue) (macros : ℕ) (root : Root) → (read_of values).macros ≡ Some macros → root_by s at wide (read_of values) macros ≡ Ok root → IsRoot s wide values root
some_root s at wide values macros root known is =
    let e = read_of values in
    let texts = bind_ok (texts_by s at wide e) _ root is in
    let same = same_ok {E = InfoFault} (record { name = texts.0.0; dir = texts.0.1; macros = macros; line = e.line; str_base = e.str_base; wide = wide }) root texts.2 in
    let both = texts_takes s at wide e texts.0.0 texts.0.1 texts.1 in
    subst (IsRoot s wide values) same (record {
      name = subst (λ o. IsTextOrNone s wide e.str_base o texts.0.0) (name_said values) both.0;
      dir = subst (λ o. IsTextOrNone s wide e.str_base o texts.0.1) (dir_said values) both.1;
      macros = sym (macros_said values) ∙ known;
      line = sym (line_said values);
      str_base = sym (str_base_said values);
      is_wide = refl;
    })

root_takes : (s : SectionBytes) (at : ℕ) (wide : Bool) (values : List AttributeValue) (macros : Option ℕ) (root : Option Root) → (read_of values).macros ≡ macros → root_in s at wide (read_of values) macros ≡ Ok root → IsRootOrNone s wide values root
root_takes s at wide values None root known is =
    subst (IsRootOrNone s wide values) (same_ok {E = InfoFault} None root is) (sym (macros_said values) ∙ known)
root_takes s at wide values (Some macros) root known is =
    let read = bind_ok (root_by s at wide (read_of values) macros) _ root is in
    subst (IsRootOrNone s wide values) (same_ok {E = InfoFault} (Some read.0) root read.2) (some_root s at wide values macros read.0 known read.1)

root_again : (s : SectionBytes) (at : ℕ) (wide : Bool) (values : List AttributeValue) (root : Option Root) → IsRootOrNone s wide values root → root_in s at wide (read_of values) (read_of values).macros ≡ Ok root
root_again s at wide values None is = ap (root_in s at wide (read_of values)) (macros_said values ∙ is)
root_again s at wide values (Some root) is =
    let e = read_of values in
    let base : root.str_base ≡ e.str_base = sym (str_base_said values ∙ is.str_base) in
    let name : IsTextOrNone s wide e.str_base e.name root.name = subst (λ o. IsTextOrNone s wide e.str_base o root.name) (sym (name_said values)) (subst (λ b. IsTextOrNone s wide b (text_named 0x03 values) root.name) base is.name) in
    let dir : IsTextOrNone s wide e.str_base e.dir root.dir = subst (λ o. IsTextOrNone s wide e.str_base o root.dir) (sym (dir_said values)) (subst (λ b. IsTextOrNone s wide b (text_named 0x1b values) root.dir) base is.dir) in
    let texts = texts_again s at wide e root.name root.dir name dir in
    let line : e.line ≡ root.line = line_said values ∙ is.line in
    ap (root_in s at wide e) (macros_said values ∙ is.macros)
    ∙ ap (λ (r : Result (List ℕ × List ℕ) InfoFault). (r >>= λ t. Ok (record { name = t.0; dir = t.1; macros = root.macros; line = e.line; str_base = e.str_base; wide = wide })) >>= λ x. Ok (Some x)) texts
    ∙ (λ i. Ok (Some (record { name = root.name; dir = root.dir; macros = root.macros; line = line i; str_base = sym base i; wide = is.is_wide i })))

entry_takes : (s : SectionBytes) (at : ℕ) (sizes : Sizes) (place table n : ℕ) (code bytes : List ℕ) (p : Input) (o : Option Abbreviation) (root : Option Root) → abbreviation_in s.abbrevs table n ≡ o → bytes ≡ code ++ rest p → IsUnsigned code n → n ≢ 0 →
    entry_root s at sizes place p o ≡ Ok root → IsFirstEntry s sizes (drop table s.abbrevs) bytes root
entry_takes s at sizes place table n code bytes p None root known spelled is_code some is = cc
entry_takes s at sizes place table n code bytes p (Some a) root known spelled is_code some is =
    let declared = abbreviation_takes s.abbrevs table n a known in
    elim (chosen (eqb a.tag 0x11) (entry_at sizes a.attributes no_entry p >>= λ e. root_in s at sizes.wide e.0 e.0.macros) (Ok None) (Ok root) is) [
      | inl unit ↦
          let read = bind_ok (entry_at sizes a.attributes no_entry p) _ root unit.1 in
          let values = values_takes sizes a.attributes no_entry read.0.0 p read.0.1 read.1 in
          let said = root_takes s at sizes.wide values.0 (read_of values.0).macros root refl (subst (λ (e : Entry). root_in s at sizes.wide e e.macros ≡ Ok root) (sym values.6) read.2) in
          CompileUnit code values.1 (rest read.0.1) n a values.0 root (spelled ∙ ap (λ (xs : List ℕ). code ++ xs) values.2) is_code some declared (eqb-true a.tag 0x11 unit.0) values.3 values.4 (fit_takes values.0 values.5) said
      | inr other ↦
          subst (IsFirstEntry s sizes (drop table s.abbrevs) bytes) (same_ok {E = InfoFault} None root other.1)
          (OtherTag code (rest p) n a spelled is_code some declared (eqb-false a.tag 0x11 other.0))
    ]

first_takes : (s : SectionBytes) (at : ℕ) (sizes : Sizes) (table : ℕ) (p : Input) (root : Option Root) → first_at s at sizes table p ≡ Ok root → IsFirstEntry s sizes (drop table s.abbrevs) (rest p) root
unfolding first_at
first_takes s at sizes table p root is =
    let code = bind_ok (field (uleb_at p)) _ root is in
    let x = uleb_takes p code.0.1 code.0.0 (field_ok (uleb_at p) code.0 code.1) in
    elim (chosen (eqb code.0.0 0) (Ok None) (entry_root s at sizes p.at code.0.1 (abbreviation_in s.abbrevs table code.0.0)) (Ok root) code.2) [
      | inl none ↦
          subst (IsFirstEntry s sizes (drop table s.abbrevs) (rest p)) (same_ok {E = InfoFault} None root none.1)
          (NoEntry x.0 (rest code.0.1) x.1 (subst (IsUnsigned x.0) (eqb-true code.0.0 0 none.0) x.2))
      | inr some ↦ entry_takes s at sizes p.at table code.0.0 x.0 (rest p) code.0.1 (abbreviation_in s.abbrevs table code.0.0) root refl x.1 x.2 (eqb-false code.0.0 0 some.0) some.1
    ]

first_again : (s : SectionBytes) (at : ℕ) (sizes : Sizes) (table : ℕ) (bytes : List ℕ) (p : Input) (root : Option Root) → rest p ≡ bytes → IsFirstEntry s sizes (drop table s.abbrevs) bytes root → first_at s at sizes table p ≡ Ok root
unfolding first_at
first_again s at sizes table bytes p _ is (NoEntry code after spelled is_code) =
    let read = uleb_again p code after 0 (is ∙ spelled) is_code in
    rw read.1 refl
first_again s at sizes table bytes p _ is (OtherTag code after n a spelled is_code some declared other) =
    let read = uleb_again p code after n (is ∙ spelled) is_code in
    rw (read.1, apart_eqb n 0 some, abbreviation_again s.abbrevs table n a declared, apart_eqb a.tag 0x11 other) refl
first_again s at sizes table bytes p _ is (CompileUnit code body after n a values root spelled is_code some declared unit listed are fit said) =
    let read = uleb_again p code (body ++ after) n (is ∙ spelled) is_code in
    let found = values_again sizes values no_entry read.0 body after read.2 are (fit_again values fit) in
    let entry : entry_at sizes a.attributes no_entry read.0 ≡ Ok (read_of values, found.0) = ap (λ l. entry_at sizes l no_entry read.0) (sym listed) ∙ found.1 in
    rw (read.1, apart_eqb n 0 some, abbreviation_again s.abbrevs table n a declared, eq-eqb a.tag 0x11 unit, entry) (root_again s at sizes.wide values root said)

compile_takes : (s : SectionBytes) (at : ℕ) (wide : Bool) (version bytes : List ℕ) (p : Input) (root : Option Root) → bytes ≡ version ++ (0x01 ∷ rest p) → IsFixed 2 version 5 → compile_at s at wide p ≡ Ok root → IsUnitBody s wide bytes root
compile_takes s at wide version bytes p root spelled five is =
    let address = bind_ok (field (number_at 1 p)) _ root is in
    let x = byte_takes p address.0.1 address.0.0 (field_ok (number_at 1 p) address.0 address.1) in
    let table = bind_ok (field (offset_at wide address.0.1)) _ root address.2 in
    let y = offset_takes wide address.0.1 table.0.1 table.0.0 (field_ok (offset_at wide address.0.1) table.0 table.1) in
    let inside = guarded (ltb table.0.0 (length s.abbrevs)) (first_at s at (record { wide = wide; address = address.0.0 }) table.0.0 table.0.1) root (fault_at address.0.1.at AbbrevRange) table.2 in
    let first = first_takes s at (record { wide = wide; address = address.0.0 }) table.0.0 table.0.1 root inside.1 in
    Compile version y.0 (rest table.0.1) address.0.0 table.0.0 root (spelled ∙ ap (λ (xs : List ℕ). version ++ (0x01 ∷ xs)) (x ∙ ap (λ (xs : List ℕ). address.0.0 ∷ xs) y.1)) five y.2 (ltb-true table.0.0 (length s.abbrevs) inside.0) first

fields_takes : (s : SectionBytes) (at : ℕ) (wide : Bool) (version bytes : List ℕ) (p : Input) (root : Option Root) → bytes ≡ version ++ rest p → IsFixed 2 version 5 → fields_at s at wide p ≡ Ok root → IsUnitBody s wide bytes root
unfolding fields_at
fields_takes s at wide version bytes p root spelled five is =
    let kind = bind_ok (field (number_at 1 p)) _ root is in
    let x = byte_takes p kind.0.1 kind.0.0 (field_ok (number_at 1 p) kind.0 kind.1) in
    let whole = spelled ∙ ap (λ (xs : List ℕ). version ++ xs) x in
    elim (chosen (eqb kind.0.0 1) (compile_at s at wide kind.0.1) (Ok None) (Ok root) kind.2) [
      | inl compile ↦ compile_takes s at wide version bytes kind.0.1 root (whole ∙ ap (λ k. version ++ (k ∷ rest kind.0.1)) (eqb-true kind.0.0 1 compile.0)) five compile.1
      | inr other ↦
          subst (IsUnitBody s wide bytes) (same_ok {E = InfoFault} None root other.1) (OtherType version (rest kind.0.1) kind.0.0 whole five (eqb-false kind.0.0 1 other.0))
    ]

pub body_takes : (s : SectionBytes) (at : ℕ) (wide : Bool) (p : Input) (root : Option Root) → unit_at s at wide p ≡ Ok root → IsUnitBody s wide (rest p) root
body_takes s at wide p root is =
    let version = bind_ok (field (number_at 2 p)) _ root is in
    let x = number_takes 2 p version.0.1 version.0.0 (field_ok (number_at 2 p) version.0 version.1) in
    let older = leb 2 version.0.0 && leb version.0.0 4 in
    elim (chosen (eqb version.0.0 5) (fields_at s at wide version.0.1) (cond older (Ok None) (Err (fault_at p.at Version))) (Ok root) version.2) [
      | inl five ↦ fields_takes s at wide x.0 (rest p) version.0.1 root x.1 (subst (IsFixed 2 x.0) (eqb-true version.0.0 5 five.0) x.2) five.1
      | inr other ↦
          let old = guarded older (Ok None) root (fault_at p.at Version) other.1 in
          let both = and_parts (leb 2 version.0.0) (leb version.0.0 4) old.0 in
          subst (IsUnitBody s wide (rest p)) (same_ok {E = InfoFault} None root old.1) (Older x.0 (rest version.0.1) version.0.0 x.1 x.2 (leb-true 2 version.0.0 both.0) (leb-true version.0.0 4 both.1))
    ]

not_five : (n : ℕ) → n ≤ 4 → n ≢ 5
not_five n low same = absurd (omega (arith, low, same))

compile_again : (s : SectionBytes) (at : ℕ) (wide : Bool) (p : Input) (offset entries : List ℕ) (address table : ℕ) (root : Option Root) → rest p ≡ address ∷ (offset ++ entries) → IsFixed (offset_width wide) offset table → table < length s.abbrevs →
    IsFirstEntry s (record { wide = wide; address = address }) (drop table s.abbrevs) entries root → compile_at s at wide p ≡ Ok root
compile_again s at wide p offset entries address table root spelled is_offset inside first =
    let x = byte_again p address (offset ++ entries) spelled in
    let y = offset_again wide x.0 offset entries table x.2 is_offset in
    rw (x.1, y.1, lt-ltb table (length s.abbrevs) inside) (first_again s at (record { wide = wide; address = address }) table entries y.0 root y.2 first)

fields_again : (s : SectionBytes) (at : ℕ) (wide : Bool) (p : Input) (type : ℕ) (more : List ℕ) (root : Option Root) → rest p ≡ type ∷ more → ((q : Input) → rest q ≡ more → type ≡ 1 → compile_at s at wide q ≡ Ok root) → (type ≢ 1 → None ≡ root) → (type ≡ 1) ⊎ (type ≢ 1) → fields_at s at wide p ≡ Ok root
unfolding fields_at
fields_again s at wide p type more root spelled compile other (inl is) =
    let x = byte_again p type more spelled in rw (x.1, eq-eqb type 1 is) (compile x.0 x.2 is)
fields_again s at wide p type more root spelled compile other (inr is) =
    let x = byte_again p type more spelled in rw (x.1, apart_eqb type 1 is) (ap (λ (r : Option Root). Ok r) (other is))

pub body_again : (s : SectionBytes) (at : ℕ) (wide : Bool) (bytes : List ℕ) (p : Input) (root : Option Root) → rest p ≡ bytes → IsUnitBody s wide bytes root → unit_at s at wide p ≡ Ok root
body_again s at wide bytes p _ is (Older version after n spelled fixed low high) =
    let read = number_again 2 p version after n (is ∙ spelled) fixed in
    rw (read.1, apart_eqb n 5 (not_five n high), le-leb 2 n low, le-leb n 4 high) refl
body_again s at wide bytes p _ is (OtherType version after type spelled five other) =
    let read = number_again 2 p version (type ∷ after) 5 (is ∙ spelled) five in
    rw read.1 (fields_again s at wide read.0 type after None read.2 (λ q left same. absurd (other same)) (λ apart. refl) (inr other))
body_again s at wide bytes p _ is (Compile version offset entries address table root spelled five is_offset inside first) =
    let read = number_again 2 p version (1 ∷ address ∷ (offset ++ entries)) 5 (is ∙ spelled) five in
    rw read.1 (fields_again s at wide read.0 1 (address ∷ (offset ++ entries)) root read.2
    (λ q left same. compile_again s at wide q offset entries address table root left is_offset inside first) (λ apart. absurd (apart refl)) (inl refl))
