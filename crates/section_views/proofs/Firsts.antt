-- A fault at the first section for which a test holds.
use Rattle.std.proofs.Common.{◌≡◌, ℕ, ◌+◌, ◌-◌, ◌<◌, ◌≤◌, Bool, true, false, ltb, length, List, map, Some, None, refl, ap, sym, ◌∙◌}
use Rattle.std.specs.List.{find, range_with_len}
use Rattle.section_views.specs.declared.fault.ElfFault.{ElfFault}
use Rattle.section_views.specs.declared.fault.ElfFault.TheVariants.{Range}
use Rattle.section_views.specs.declared.header.SectionHeader.{SectionHeader}
use Rattle.std.proofs.lemmas.Bool.{ltb-false}
use Rattle.section_views.specs.SectionTable.{section_count, header_at, sections_before, sections_of, has_contents, is_outside}
use Rattle.section_views.specs.Faults.{at_first, range_fault}
use Rattle.section_views.proofs.Finding.{find_hit, find_miss}
use Rattle.mac_base.proofs.TestLemmas.{and_rest}
use Rattle.mac_base.proofs.Choices.{none_mapped}

pub header_at-number : (file : List ℕ) (n : ℕ) → (header_at file n).number ≡ n
unfolding header_at
header_at-number file n = refl

-- the walk stops at the first
pub at_first-hit : (file : List ℕ) (test : SectionHeader → Bool) (fault : ℕ → ElfFault) (n : ℕ) → 1 ≤ n → n < section_count file → find test (sections_before file n) ≡ None → test (header_at file n) ≡ true → at_first test fault (sections_of file) ≡ Some (fault n)
at_first-hit file test fault n low less none holds =
    rw (find_hit (header_at file) test n (section_count file) low less none holds) (ap (λ k. Some (fault k)) (header_at-number file n))

-- the walk has come to the end
pub find-whole : (file : List ℕ) (test : SectionHeader → Bool) (n : ℕ) → n - 1 ≡ section_count file - 1 → find test (sections_before file n) ≡ None → find test (sections_of file) ≡ None
find-whole file test n last none = ap (λ k. find test (map (header_at file) (range_with_len 1 k))) (sym last) ∙ none

-- no fault comes, so the test holds for no section
pub at_first-miss : (file : List ℕ) (test : SectionHeader → Bool) (fault : ℕ → ElfFault) (n : ℕ) → 1 ≤ n → n < section_count file → at_first test fault (sections_of file) ≡ None → test (header_at file n) ≡ false
at_first-miss file test fault n low less none =
    find_miss (header_at file) test n (section_count file) low less (none_mapped (λ (s : SectionHeader). fault s.number) (find test (sections_of file)) none)

-- the contents of a section are inside the file
pub range_fault-inside : (file : List ℕ) (n : ℕ) → range_fault file ≡ None → 1 ≤ n → n < section_count file → has_contents (header_at file n) ≡ true → (header_at file n).offset + (header_at file n).size ≤ length file
unfolding range_fault
range_fault-inside file n none low less has =
    let s = header_at file n in
    let inside = at_first-miss file (is_outside (length file)) (λ n. Range n) n low less none in
    ltb-false (length file) (s.offset + s.size) (and_rest (has_contents s) (ltb (length file) (s.offset + s.size)) has inside)
