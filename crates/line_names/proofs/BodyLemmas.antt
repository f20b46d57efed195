-- What follows the length of a line table is spelled by its bytes where it is read, and read where it is spelled.
use Rattle.std.proofs.Common.{◌≡◌, ◌⊎◌, ℕ, zero, suc, ◌-◌, ◌<◌, Bool, false, eqb, List, [], ◌∷◌, ◌++◌, length, map, None, Some, Ok, refl, ap, subst, ◌∙◌, sym, arith, append_assoc}
use borrow.Author.Tests.{eqb-true, eqb-false, apart_eqb}
use Rattle.std.proofs.lemmas.List.{length-map}
use Rattle.mac_base.specs.Input.{Input, rest, ahead}
use Rattle.mac_base.specs.Fields.{number_at, little_endian}
use Rattle.mac_base.specs.Spelling.{Between}
use Rattle.mac_base.specs.Values.{offset_at, offset_width}
use Rattle.mac_base.specs.declared.cursor.CursorFault.{CursorFault}
use Rattle.mac_base.specs.declared.value.Sizes.{Sizes}
use Rattle.mac_base.proofs.Choices.{bind_ok, same_ok, guarded, guarded_not}
use Rattle.mac_base.proofs.InputLemmas.{between_both, between_cut, between_front, byte_at-takes, byte_at-again, number_at-takes, number_at-again}
use Rattle.mac_base.proofs.ValueLemmas.{offset_at-is}
use Rattle.line_names.specs.declared.fault.LineFault.{LineFault}
use Rattle.line_names.specs.declared.fault.LineKind.TheVariants.{OpcodeBase}
use Rattle.line_names.specs.declared.entry.Measures.{Measures}
use Rattle.line_names.specs.Faults.{field, fault_at}
use Rattle.line_names.specs.Header.{bytes_passed, opcodes_at, fields_at, header_at}
use Rattle.line_names.specs.Entries.{Tables, Entry}
use Rattle.line_names.specs.Files.{for_directories, path_in, directories_at, paths_at, unit_at}
use Rattle.line_names.specs.Spelling.{IsEntryList, IsHeader, HaveDirectories, IsBody}
use Rattle.line_names.specs.Laws.{strings_in}
use Rattle.line_names.proofs.Steps.{field_ok, between_same, none_between}
use Rattle.line_names.proofs.ListLemmas.{AreInRange, TookList, list_takes, list_again}

passed_takes : (n : ℕ) (p q : Input) → bytes_passed n p ≡ Ok q → (bytes : List ℕ) × Between p q bytes × (length bytes ≡ n)
passed_takes zero p q is = ([], between_same p q (same_ok {E = CursorFault} p q is), refl)
passed_takes (suc n) p q is =
    let byte = bind_ok (number_at 1 p) _ q is in
    let more = passed_takes n byte.0.1 q byte.2 in
    (byte.0.0 ∷ more.0, between_both p byte.0.1 q (byte.0.0 ∷ []) more.0 (byte_at-takes p byte.0.1 byte.0.0 byte.1) more.1, ap suc more.2)

passed_again : (bytes : List ℕ) (p q : Input) → Between p q bytes → bytes_passed (length bytes) p ≡ Ok q
passed_again [] p q between = ap (λ (z : Input). Ok z) (none_between p q [] between refl)
passed_again (b ∷ bs) p q between =
    let cut = between_cut p q (b ∷ []) bs between in
    rw (byte_at-again p (ahead p 1) b cut.0) (passed_again bs (ahead p 1) q cut.1)

two_bytes : (bytes : List ℕ) → length bytes ≡ 2 → 5 ≡ little_endian bytes → bytes ≡ 5 ∷ 0 ∷ []
two_bytes [] long is = absurd (omega arith)
two_bytes (a ∷ []) long is = absurd (omega arith)
two_bytes (a ∷ b ∷ []) long is =
    let high : b ≡ 0 = omega arith in
    let low : a ≡ 5 = omega arith in
    λ i. low i ∷ high i ∷ []
two_bytes (a ∷ b ∷ c ∷ bytes) long is = absurd (omega arith)

five_bytes : (bytes : List ℕ) → length bytes ≡ 5 → (a b c d e : ℕ) × (bytes ≡ a ∷ b ∷ c ∷ d ∷ e ∷ [])
five_bytes [] long = absurd (omega arith)
five_bytes (a ∷ []) long = absurd (omega arith)
five_bytes (a ∷ b ∷ []) long = absurd (omega arith)
five_bytes (a ∷ b ∷ c ∷ []) long = absurd (omega arith)
five_bytes (a ∷ b ∷ c ∷ d ∷ []) long = absurd (omega arith)
five_bytes (a ∷ b ∷ c ∷ d ∷ e ∷ []) long = (a, b, c, d, e, refl)
five_bytes (a ∷ b ∷ c ∷ d ∷ e ∷ f ∷ bytes) long = absurd (omega arith)

one_more : (base n : ℕ) → (base ≡ 0 → ⊥) → n ≡ base - 1 → base ≡ suc n
one_more base n some is = omega arith

opcodes_take : (p q : Input) → opcodes_at p ≡ Ok q → (lengths : List ℕ) × Between p q (suc (length lengths) ∷ lengths)
unfolding opcodes_at
opcodes_take p q is =
    let base = bind_ok (field (number_at 1 p)) _ q is in
    let a = base.0.1 in
    let some = guarded_not (eqb base.0.0 0) (field (bytes_passed (base.0.0 - 1) a)) q (fault_at p.at OpcodeBase) base.2 in
    let lengths = passed_takes (base.0.0 - 1) a q (field_ok (bytes_passed (base.0.0 - 1) a) q some.1) in
    let byte = byte_at-takes p a base.0.0 (field_ok (number_at 1 p) base.0 base.1) in
    let is_base : base.0.0 ≡ suc (length lengths.0) = one_more base.0.0 (length lengths.0) (eqb-false base.0.0 0 some.0) lengths.2 in
    (lengths.0, between_both p a q (suc (length lengths.0) ∷ []) lengths.0 (subst (λ n. Between p a (n ∷ [])) is_base byte) lengths.1)

opcodes_again : (p q : Input) (lengths : List ℕ) → Between p q (suc (length lengths) ∷ lengths) → opcodes_at p ≡ Ok q
unfolding opcodes_at
opcodes_again p q lengths between =
    let cut = between_cut p q (suc (length lengths) ∷ []) lengths between in
    let a = ahead p 1 in
    let some : eqb (suc (length lengths)) 0 ≡ false = apart_eqb (suc (length lengths)) 0 (λ none. absurd (omega arith)) in
    let less : suc (length lengths) - 1 ≡ length lengths = omega arith in
    rw (byte_at-again p a (suc (length lengths)) cut.0, some, less, passed_again lengths a q cut.1) refl

-- the fields after the version
fields_take : (wide : Bool) (p q : Input) (address : ℕ) → fields_at wide p ≡ Ok (address, q) → (selector : ℕ) × (header_length : List ℕ) × (a b c d e : ℕ) × (lengths : List ℕ) × Between p q (address ∷ selector ∷ (header_length ++ a ∷ b ∷ c ∷ d ∷ e ∷ suc (length lengths) ∷ lengths)) × (length header_length ≡ offset_width wide)
fields_take wide p q address is =
    let one = bind_ok (field (number_at 1 p)) _ (address, q) is in
    let p1 = one.0.1 in
    let two = bind_ok (field (number_at 1 p1)) _ (address, q) one.2 in
    let p2 = two.0.1 in
    let three = bind_ok (field (offset_at wide p2)) _ (address, q) two.2 in
    let p3 = three.0.1 in
    let four = bind_ok (field (bytes_passed 5 p3)) _ (address, q) three.2 in
    let p4 = four.0 in
    let last = bind_ok (opcodes_at p4) _ (address, q) four.2 in
    let same = same_ok {E = LineFault} (one.0.0, last.0) (address, q) last.2 in
    let byte = byte_at-takes p p1 one.0.0 (field_ok (number_at 1 p) one.0 one.1) in
    let selector = byte_at-takes p1 p2 two.0.0 (field_ok (number_at 1 p1) two.0 two.1) in
    let offset = number_at-takes (offset_width wide) p2 p3 three.0.0 (sym (offset_at-is wide p2) ∙ field_ok (offset_at wide p2) three.0 three.1) in
    let passed = passed_takes 5 p3 p4 (field_ok (bytes_passed 5 p3) p4 four.1) in
    let five = five_bytes passed.0 passed.2 in
    let opcodes = opcodes_take p4 last.0 last.1 in
    let base : List ℕ = suc (length opcodes.0) ∷ opcodes.0 in
    let tail = between_both p3 p4 last.0 (five.0 ∷ five.1 ∷ five.2 ∷ five.3 ∷ five.4 ∷ []) base (subst (Between p3 p4) five.5 passed.1) opcodes.1 in
    let behind = between_both p2 p3 last.0 offset.0 (five.0 ∷ five.1 ∷ five.2 ∷ five.3 ∷ five.4 ∷ base) offset.1 tail in
    let whole = between_both p p1 last.0 (one.0.0 ∷ []) (two.0.0 ∷ (offset.0 ++ five.0 ∷ five.1 ∷ five.2 ∷ five.3 ∷ five.4 ∷ base)) byte (between_both p1 p2 last.0 (two.0.0 ∷ []) (offset.0 ++ five.0 ∷ five.1 ∷ five.2 ∷ five.3 ∷ five.4 ∷ base) selector behind) in
    let P : ℕ × Input → Type 0 = λ x. Between p x.1 (x.0 ∷ two.0.0 ∷ (offset.0 ++ five.0 ∷ five.1 ∷ five.2 ∷ five.3 ∷ five.4 ∷ base)) in
    (two.0.0, offset.0, five.0, five.1, five.2, five.3, five.4, opcodes.0, subst P same whole, offset.2.long)

fields_again : (wide : Bool) (p q : Input) (address selector : ℕ) (header_length : List ℕ) (a b c d e : ℕ) (lengths : List ℕ) → Between p q (address ∷ selector ∷ (header_length ++ a ∷ b ∷ c ∷ d ∷ e ∷ suc (length lengths) ∷ lengths)) → length header_length ≡ offset_width wide → fields_at wide p ≡ Ok (address, q)
fields_again wide p q address selector header_length a b c d e lengths between long =
    let base : List ℕ = suc (length lengths) ∷ lengths in
    let five : List ℕ = a ∷ b ∷ c ∷ d ∷ e ∷ [] in
    let one = between_cut p q (address ∷ []) (selector ∷ (header_length ++ (five ++ base))) between in
    let p1 = ahead p 1 in
    let two = between_cut p1 q (selector ∷ []) (header_length ++ (five ++ base)) one.1 in
    let p2 = ahead p1 1 in
    let three = between_cut p2 q header_length (five ++ base) two.1 in
    let p3 = ahead p2 (length header_length) in
    let four = between_cut p3 q five base three.1 in
    let p4 = ahead p3 5 in
    rw (byte_at-again p p1 address one.0, byte_at-again p1 p2 selector two.0, offset_at-is wide p2, number_at-again (offset_width wide) p2 p3 header_length (little_endian header_length) three.0 (record { long = long; number = refl }), passed_again five p3 p4 four.0, opcodes_again p4 q lengths four.1) refl

header_takes : (wide : Bool) (p q : Input) (address : ℕ) → header_at wide p ≡ Ok (address, q) → (bytes : List ℕ) × Between p q bytes × IsHeader wide bytes address
unfolding header_at
header_takes wide p q address is =
    let version = bind_ok (field (number_at 2 p)) _ (address, q) is in
    let a = version.0.1 in
    let five = guarded (eqb version.0.0 5) (fields_at wide a) (address, q) _ version.2 in
    let number = number_at-takes 2 p a version.0.0 (field_ok (number_at 2 p) version.0 version.1) in
    let first = two_bytes number.0 number.2.long (sym (eqb-true version.0.0 5 five.0) ∙ number.2.number) in
    let more = fields_take wide a q address five.1 in
    let fields : List ℕ = address ∷ more.0 ∷ (more.1 ++ more.2 ∷ more.3 ∷ more.4 ∷ more.5 ∷ more.6 ∷ suc (length more.7) ∷ more.7) in (
      5 ∷ 0 ∷ fields,
      between_both p a q (5 ∷ 0 ∷ []) fields (subst (Between p a) first number.1) more.8,
      record {
        segment_selector_size = more.0;
        header_length = more.1;
        minimum_instruction_length = more.2;
        maximum_operations_per_instruction = more.3;
        default_is_stmt = more.4;
        line_base = more.5;
        line_range = more.6;
        standard_opcode_lengths = more.7;
        spelled = refl {a = 5 ∷ 0 ∷ fields};
        is_offset = more.9;
      },
    )

header_again : (wide : Bool) (p q : Input) (bytes : List ℕ) (address : ℕ) → Between p q bytes → IsHeader wide bytes address → header_at wide p ≡ Ok (address, q)
unfolding header_at
header_again wide p q bytes address between is =
    let fields : List ℕ = address ∷ is.segment_selector_size ∷ (is.header_length ++ is.minimum_instruction_length ∷ is.maximum_operations_per_instruction ∷ is.default_is_stmt ∷ is.line_base ∷ is.line_range ∷ suc (length is.standard_opcode_lengths) ∷ is.standard_opcode_lengths) in
    let cut = between_cut p q (5 ∷ 0 ∷ []) fields (subst (Between p q) is.spelled between) in
    let a = ahead p 2 in
    let more = fields_again wide a q address is.segment_selector_size is.header_length is.minimum_instruction_length is.maximum_operations_per_instruction is.default_is_stmt is.line_base is.line_range is.standard_opcode_lengths cut.1 is.is_offset in
    rw (number_at-again 2 p a (5 ∷ 0 ∷ []) 5 cut.0 (record { long = refl; number = refl })) more

any_range : (entries : List Entry) → AreInRange None entries
any_range [] = tt
any_range (entry ∷ entries) = (tt, any_range entries)

have_directories : (n : ℕ) (directories files : List Entry) → n ≡ length directories → AreInRange (Some n) files → HaveDirectories directories files
have_directories n directories [] long range = tt
have_directories n directories (file ∷ files) long range =
    let P : ℕ → Type 0 = λ k. (file.directory ≡ 0) ⊎ (file.directory < k) in
    (subst P long range.0, have_directories n directories files long range.1)

in_range : (n : ℕ) (directories files : List Entry) → n ≡ length directories → HaveDirectories directories files → AreInRange (Some n) files
in_range n directories [] long have = tt
in_range n directories (file ∷ files) long have =
    let P : ℕ → Type 0 = λ k. (file.directory ≡ 0) ⊎ (file.directory < k) in
    (subst P (sym long) have.0, in_range n directories files long have.1)

abbrev path_of : Entry → List ℕ
path_of entry = entry.path

directories_take : (t : Tables) (sizes : Sizes) (p q : Input) (directories : List (List ℕ)) → directories_at t sizes p ≡ Ok (directories, q) → TookList t (for_directories sizes) path_of p q directories
unfolding directories_at
directories_take t sizes p q directories is = list_takes t (for_directories sizes) path_of p q directories is

directories_again : (t : Tables) (sizes : Sizes) (p q : Input) (bytes : List ℕ) (directories : List Entry) → Between p q bytes → IsEntryList (strings_in t) sizes bytes directories → directories_at t sizes p ≡ Ok (map path_of directories, q)
unfolding directories_at
directories_again t sizes p q bytes directories between is = list_again t (for_directories sizes) path_of p q bytes directories between is (any_range directories)

abbrev for_files : Sizes → List (List ℕ) → Measures
for_files sizes directories = record { sizes = sizes; directories = Some (length directories) }

paths_take : (t : Tables) (sizes : Sizes) (directories : List (List ℕ)) (p q : Input) (paths : List (List ℕ)) → paths_at t sizes directories p ≡ Ok (paths, q) → TookList t (for_files sizes directories) (path_in directories) p q paths
unfolding paths_at
paths_take t sizes directories p q paths is = list_takes t (for_files sizes directories) (path_in directories) p q paths is

paths_again : (t : Tables) (sizes : Sizes) (directories : List (List ℕ)) (p q : Input) (bytes : List ℕ) (files : List Entry) → Between p q bytes → IsEntryList (strings_in t) sizes bytes files → AreInRange (Some (length directories)) files → paths_at t sizes directories p ≡ Ok (map (path_in directories) files, q)
unfolding paths_at
paths_again t sizes directories p q bytes files between is range = list_again t (for_files sizes directories) (path_in directories) p q bytes files between is range

-- what is read of a unit spells its files
pub body_takes : (t : Tables) (wide : Bool) (p q : Input) (paths : List (List ℕ)) → unit_at t wide p ≡ Ok (paths, q) → IsBody (strings_in t) wide (rest p) paths
unfolding unit_at
body_takes t wide p q paths is =
    let header = bind_ok (header_at wide p) _ (paths, q) is in
    let a = header.0.1 in
    let sizes : Sizes = record { wide = wide; address = header.0.0 } in
    let dirs = bind_ok (directories_at t sizes a) _ (paths, q) header.2 in
    let b = dirs.0.1 in
    let first = header_takes wide p a header.0.0 header.1 in
    let second = directories_take t sizes a b dirs.0.0 dirs.1 in
    let third = paths_take t sizes dirs.0.0 b q paths dirs.2 in
    let between = between_both p a q first.0 (second.bytes ++ third.bytes) first.1 (between_both a b q second.bytes third.bytes second.between third.between) in
    let long : length dirs.0.0 ≡ length second.entries = ap length (sym second.are_values) ∙ length-map second.entries path_of in
    record {
      address_size = header.0.0;
      header = first.0;
      directory_list = second.bytes;
      file_list = third.bytes;
      program = rest q;
      directories = second.entries;
      files = third.entries;
      spelled = between.front ∙ append_assoc first.0 (second.bytes ++ third.bytes) (rest q) ∙ ap (λ (xs : List ℕ). first.0 ++ xs) (append_assoc second.bytes third.bytes (rest q));
      is_header = first.2;
      are_directories = second.is_list;
      are_files = third.is_list;
      within = have_directories (length dirs.0.0) second.entries third.entries long third.range;
      are_paths = sym third.are_values ∙ ap (λ (ds : List (List ℕ)). map (path_in ds) third.entries) (sym second.are_values);
    }

pub body_again : (t : Tables) (wide : Bool) (p : Input) (paths : List (List ℕ)) → IsBody (strings_in t) wide (rest p) paths → (q : Input) × (unit_at t wide p ≡ Ok (paths, q))
unfolding unit_at
body_again t wide p paths is =
    let front : List ℕ = is.header ++ (is.directory_list ++ is.file_list) in
    let whole : rest p ≡ front ++ is.program = is.spelled ∙ sym (append_assoc is.header (is.directory_list ++ is.file_list) is.program ∙ ap (λ (xs : List ℕ). is.header ++ xs) (append_assoc is.directory_list is.file_list is.program)) in
    let q = ahead p (length front) in
    let first = between_cut p q is.header (is.directory_list ++ is.file_list) (between_front p front is.program whole) in
    let a = ahead p (length is.header) in
    let second = between_cut a q is.directory_list is.file_list first.1 in
    let b = ahead a (length is.directory_list) in
    let sizes : Sizes = record { wide = wide; address = is.address_size } in
    let dirs = directories_again t sizes a b is.directory_list is.directories second.0 is.are_directories in
    let range = in_range (length (map path_of is.directories)) is.directories is.files (length-map is.directories path_of) is.within in
    let files = paths_again t sizes (map path_of is.directories) b q is.file_list is.files second.1 is.are_files range in
    (q, rw (header_again wide p a is.header is.address_size first.0 is.is_header, dirs) (files ∙ ap (λ (ps : List (List ℕ)). Ok (ps, q)) (sym is.are_paths)))
