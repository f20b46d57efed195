-- The entries of a contribution are found, and what is written of one is spelled.
use Rattle.std.proofs.Common.{◌≡◌, ℕ, zero, suc, ◌+◌, ◌*◌, ◌<◌, ◌≤◌, Bool, true, false, List, [], ◌∷◌, ◌++◌, length, take, drop, Some, refl, ap, subst, ◌∙◌, sym, arith, append_assoc, length-append}
use Rattle.std.specs.Prelude.{replicate, slice_get}
use Rattle.std.proofs.lemmas.List.{take_at, drop_at, drop-drop, length-replicate, replicate-append-replicate}
use Rattle.std.proofs.Math.Nat.{suc-mul}
use borrow.Author.Tests.{le-leb}
use Rattle.mac_base.specs.Fields.{little_endian}
use Rattle.mac_base.specs.LengthSpelling.{IsLength}
use Rattle.mac_base.specs.Writing.{length_bytes}
use Rattle.mac_base.proofs.Choices.{same_some}
use Rattle.mac_base.proofs.WritingLemmas.{length_spelled}
use Rattle.string_sections.specs.Offsets.{entry_width, number_of, offset_of}
use Rattle.string_sections.specs.Contributions.{AreEntries, IsContribution, header_size, header_bytes, offsets_bytes}

-- an entry of these, whatever follows them
record EntryThere (width : ℕ) (entries after : List ℕ) (place offset : ℕ) : Type 0 where
  within : place + width ≤ length entries
  number : little_endian (take width (drop place (entries ++ after))) ≡ offset

no_entry : (index offset : ℕ) → slice_get [] index ≡ Some offset → ⊥
no_entry zero offset is = cc
no_entry (suc index) offset is = cc

entry_there : (width : ℕ) (offsets entries after : List ℕ) (index offset place : ℕ) → place ≡ index * width → AreEntries width entries offsets → slice_get offsets index ≡ Some offset → EntryThere width entries after place offset
entry_there width [] entries after index offset place here are is = absurd (no_entry index offset is)
entry_there width (first ∷ offsets) entries after zero offset place here are is =
    let front = are.0 in
    let back = are.1 in
    let nothing : 0 * width ≡ 0 = omega arith in
    let none : place ≡ 0 = here ∙ nothing in
    let whole : entries ++ after ≡ front ++ (back ++ after) = ap (λ (xs : List ℕ). xs ++ after) are.2 ∙ append_assoc front back after in
    let same = same_some first offset is in
    record {
      within = omega (arith, ap length are.2, length-append front back, are.3.long);
      number = ap (λ n. little_endian (take width (drop n (entries ++ after)))) none ∙ ap (λ (xs : List ℕ). little_endian (take width xs)) whole ∙ ap little_endian (take_at front (back ++ after) width are.3.long) ∙ sym are.3.number ∙ same;
    }
entry_there width (first ∷ offsets) entries after (suc index) offset place here are is =
    let front = are.0 in
    let back = are.1 in
    let more = entry_there width offsets back after index offset (index * width) refl are.4 is in
    let swap : index * width + width ≡ width + index * width = omega arith in
    let far : place ≡ width + index * width = here ∙ suc-mul index width ∙ swap in
    let whole : entries ++ after ≡ front ++ (back ++ after) = ap (λ (xs : List ℕ). xs ++ after) are.2 ∙ append_assoc front back after in
    let passed : drop place (entries ++ after) ≡ drop (index * width) (back ++ after) =
    ap (λ n. drop n (entries ++ after)) far ∙ sym (drop-drop (index * width) width (entries ++ after)) ∙ ap (λ (xs : List ℕ). drop (index * width) (drop width xs)) whole ∙ ap (drop (index * width)) (drop_at front (back ++ after) width are.3.long) in
    record {
      within = omega (arith, more.within, ap length are.2, length-append front back, are.3.long);
      number = ap (λ (xs : List ℕ). little_endian (take width xs)) passed ∙ more.number;
    }

length_long : (wide : Bool) (bytes : List ℕ) (n : ℕ) → IsLength wide bytes n → length bytes + 4 ≡ header_size wide
length_long false bytes n is = omega (arith, is.0.long)
length_long true bytes n is = omega (arith, ap length is.2, length-append is.0 is.1, is.3.long, is.4.long)

found_by : (section : List ℕ) (width place offset : ℕ) → place + width ≤ length section → little_endian (take width (drop place section)) ≡ offset → number_of section width place ≡ Some offset
found_by section width place offset within is = rw (le-leb (place + width) (length section) within) (ap (λ n. Some n) is)

pub spelled_found : (wide : Bool) (section before bytes after offsets : List ℕ) → section ≡ before ++ (bytes ++ after) → IsContribution wide bytes offsets → (index offset : ℕ) → slice_get offsets index ≡ Some offset → offset_of (record { section = section; wide = wide }) (length before + header_size wide) index ≡ Some offset
spelled_found wide section before bytes after offsets parts is index offset there =
    let width = entry_width wide in
    let header : List ℕ = is.unit_length ++ 5 ∷ 0 ∷ 0 ∷ 0 ∷ [] in
    let front : List ℕ = before ++ header in
    let base = length before + header_size wide in
    let header_long : length header ≡ header_size wide = length-append is.unit_length (5 ∷ 0 ∷ 0 ∷ 0 ∷ []) ∙ length_long wide is.unit_length (4 + length is.entries) is.is_length in
    let front_long : length front ≡ base = length-append before header ∙ ap (λ n. length before + n) header_long in
    let inner : bytes ++ after ≡ header ++ (is.entries ++ after) =
    ap (λ (xs : List ℕ). xs ++ after) (is.spelled ∙ sym (append_assoc is.unit_length (5 ∷ 0 ∷ 0 ∷ 0 ∷ []) is.entries)) ∙ append_assoc header is.entries after in
    let whole : section ≡ front ++ (is.entries ++ after) = parts ∙ ap (λ (xs : List ℕ). before ++ xs) inner ∙ sym (append_assoc before header (is.entries ++ after)) in
    let entry = entry_there width offsets is.entries after index offset (index * width) refl is.are_entries there in
    let passed : drop (base + index * width) section ≡ drop (index * width) (is.entries ++ after) =
    sym (drop-drop (index * width) base section) ∙ ap (λ (xs : List ℕ). drop (index * width) (drop base xs)) whole ∙ ap (drop (index * width)) (drop_at front (is.entries ++ after) base front_long) in
    let within : base + index * width + width ≤ length section = omega (arith, entry.within, ap length whole, length-append front (is.entries ++ after), length-append is.entries after, front_long) in
    found_by section width (base + index * width) offset within (ap (λ (xs : List ℕ). little_endian (take width xs)) passed ∙ entry.number)

zeros : (n : ℕ) → little_endian (replicate n 0) ≡ 0
zeros zero = refl
zeros (suc n) = omega (arith, zeros n)

zero_entries : (width count : ℕ) → AreEntries width (replicate (count * width) 0) (replicate count 0)
zero_entries width zero = let none : 0 * width ≡ 0 = omega arith in ap (λ n. replicate n 0) none
zero_entries width (suc count) =
    let swap : count * width + width ≡ width + count * width = omega arith in
    let more : suc count * width ≡ width + count * width = suc-mul count width ∙ swap in (
      replicate width 0,
      replicate (count * width) 0,
      ap (λ n. replicate n 0) more ∙ sym (replicate-append-replicate width (count * width) 0),
      record { long = length-replicate width 0; number = sym (zeros width) },
      zero_entries width count,
    )

size_small : (wide : Bool) (count : ℕ) → count ≤ 268_435_454 → 4 + count * entry_width wide < 0xffff_fff0
size_small true count small = omega arith
size_small false count small = omega arith

pub written_spelled : (wide : Bool) (count : ℕ) → count ≤ 268_435_454 → IsContribution wide (offsets_bytes wide count) (replicate count 0)
unfolding header_bytes
written_spelled wide count small =
    let size = count * entry_width wide in
    let long : 4 + size ≡ 4 + length (replicate size 0) = ap (λ n. 4 + n) (sym (length-replicate size 0)) in
    record {
      unit_length = length_bytes wide (4 + size);
      entries = replicate size 0;
      spelled = append_assoc (length_bytes wide (4 + size)) (5 ∷ 0 ∷ 0 ∷ 0 ∷ []) (replicate size 0);
      is_length = subst (IsLength wide (length_bytes wide (4 + size))) long (length_spelled wide (4 + size) (size_small wide count small));
      are_entries = zero_entries (entry_width wide) count;
    }
