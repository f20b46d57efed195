-- Of a file that isn't refused, the section of a name is the only one.
use Rattle.std.proofs.Common.{◌≡◌, ℕ, ◌+◌, ◌<◌, ◌≤◌, Bool, true, false, not, ◌&&◌, cond, List, length, get_or, Option, Some, None, refl, ap, sym, ◌∙◌, subst, inl, inr}
use Rattle.std.specs.Option.{option_map, option_or, is_some}
use Rattle.std.specs.Str.{bytes_eq}
use Rattle.std.proofs.lemmas.Bool.{cases_Bool, both_ways, and_parts}
use Rattle.std.proofs.lemmas.List.Folds.{Any-from_list_any, list_any_at}
use Rattle.std.proofs.lemmas.Slice.Eq.{bytes_eq-Decides}
use Rattle.section_views.specs.declared.fault.ElfFault.TheVariants.{Twice}
use Rattle.section_views.specs.declared.header.SectionHeader.{SectionHeader}
use Rattle.section_views.specs.SectionTable.{section_count, header_at, names_of, has_contents, is_grouped}
use Rattle.section_views.specs.Family.{family_names, is_member, is_named, is_second, first_member}
use Rattle.section_views.specs.Faults.{first_fault, header_fault, table_fault, range_fault, name_fault, compression_fault, second_fault}
use Rattle.section_views.specs.View.{is_family_name, number_of}
use Rattle.section_views.specs.Laws.{IsOfName}
use Rattle.section_views.proofs.Finding.{find_hit, find_found}
use Rattle.section_views.proofs.Firsts.{header_at-number, at_first-miss, range_fault-inside}
use Rattle.mac_base.proofs.Choices.{none_there}

-- neither is a fault
neither : {A : Type 0} (o u : Option A) → option_or o u ≡ None → (o ≡ None) × (u ≡ None)
neither None u none = (refl, none)
neither (Some x) u none = cc

behind_table : (file : List ℕ) → first_fault file ≡ None → option_or (range_fault file) (option_or (name_fault file) (option_or (compression_fault file) (option_or (second_fault file) None))) ≡ None
behind_table file none = (neither (table_fault file) _ (neither (header_fault file) _ none).1).1

no_range_fault : (file : List ℕ) → first_fault file ≡ None → range_fault file ≡ None
no_range_fault file none = (neither (range_fault file) _ (behind_table file none)).0

no_second_fault : (file : List ℕ) → first_fault file ≡ None → second_fault file ≡ None
no_second_fault file none = (neither (second_fault file) None (neither (compression_fault file) _ (neither (name_fault file) _ (neither (range_fault file) _ (behind_table file none)).1).1).1).0

none_twice : (file : List ℕ) (n : ℕ) → second_fault file ≡ None → 1 ≤ n → n < section_count file → is_second file (header_at file n) ≡ false
unfolding second_fault
none_twice file n none low less = at_first-miss file (is_second file) (λ k. Twice k) n low less none

member_contents : (names name : List ℕ) (s : SectionHeader) → is_member names name s ≡ true → has_contents s ≡ true
member_contents names name s holds = (and_parts (has_contents s) (not (is_grouped s)) (and_parts (has_contents s && not (is_grouped s)) (is_named names name s) holds).0).0

numbered : (file name : List ℕ) (n : ℕ) (t : Bool) (o : Option SectionHeader) → option_map (λ (s : SectionHeader). s.number) (cond t o None) ≡ Some n → (s : SectionHeader) × (o ≡ Some s) × (s.number ≡ n)
numbered file name n true None is = cc
numbered file name n true (Some s) is = (s, refl, cc)
numbered file name n false o is = cc

pub given_is_there : (file name : List ℕ) (n : ℕ) → first_fault file ≡ None → number_of file name ≡ Some n → IsOfName file name n × ((header_at file n).offset + (header_at file n).size ≤ length file)
given_is_there file name n none is =
    let parts = numbered file name n (is_family_name name) (first_member file (section_count file) name) is in
    let here = find_found (header_at file) (is_member (names_of file) name) (section_count file) parts.0 parts.1 in
    let same : here.0 ≡ n = sym (header_at-number file here.0) ∙ ap (λ (s : SectionHeader). s.number) here.3 ∙ parts.2 in
    let named : is_member (names_of file) name (header_at file here.0) ≡ true = ap (is_member (names_of file) name) here.3 ∙ here.4 in
    let inside = range_fault-inside file here.0 (no_range_fault file none) here.1 here.2 (member_contents (names_of file) name (header_at file here.0) named) in
    subst (λ (k : ℕ). IsOfName file name k × ((header_at file k).offset + (header_at file k).size ≤ length file)) same (record { low = here.1; high = here.2; named = named }, inside)

-- a name that an earlier section has makes a section the second of it
second_of_name : (file name : List ℕ) (n : ℕ) → is_family_name name ≡ true → is_member (names_of file) name (header_at file n) ≡ true → is_some (first_member file n name) ≡ true → is_second file (header_at file n) ≡ true
second_of_name file name n family named earlier =
    let test : List ℕ → Bool = λ text. is_member (names_of file) text (header_at file n) && is_some (first_member file (header_at file n).number text) in
    let place = Any-from_list_any (bytes_eq name) family_names family in
    let same : name ≡ get_or family_names place.0 place.1 = (bytes_eq-Decides name place.1).0 place.4 ∙ sym place.3 in
    let holds : test name ≡ true = ap (λ (m : ℕ). is_member (names_of file) name (header_at file n) && is_some (first_member file m name)) (header_at-number file n) ∙ rw named earlier in
    list_any_at test family_names place.0 place.1 place.2 (subst (λ (text : List ℕ). test text ≡ true) same holds)

pub there_is_given : (file name : List ℕ) (n : ℕ) → first_fault file ≡ None → is_family_name name ≡ true → IsOfName file name n → number_of file name ≡ Some n
there_is_given file name n none family there =
    elim (cases_Bool (is_some (first_member file n name))) [
      | inl earlier ↦
          absurd (both_ways (is_second file (header_at file n)) (none_twice file n (no_second_fault file none) there.low there.high) (second_of_name file name n family there.named earlier))
      | inr first ↦
          let hit = find_hit (header_at file) (is_member (names_of file) name) n (section_count file) there.low there.high (none_there (first_member file n name) first) there.named in
          rw (family, hit) (ap (λ (k : ℕ). Some k) (header_at-number file n))
    ]
