-- What is written of string offsets is spelled, and what is spelled is found.
use Rattle.std.specs.Prelude.{◌≡◌, ℕ, ◌+◌, ◌≤◌, Bool, List, ◌++◌, length, replicate, slice_get, Some}
use Rattle.string_sections.specs.Offsets.{offset_of}
use Rattle.string_sections.specs.Contributions.{IsContribution, header_size, offsets_bytes}

-- each offset of a contribution is found by its index from the base, whatever is before and after the contribution
abbrev pub SpelledIsFound : Type 0
SpelledIsFound = (wide : Bool) (section before bytes after offsets : List ℕ) → section ≡ before ++ (bytes ++ after) → IsContribution wide bytes offsets
    → (index offset : ℕ) → slice_get offsets index ≡ Some offset → offset_of (record { section = section; wide = wide }) (length before + header_size wide) index ≡ Some offset

-- what is written is a contribution whose offsets are 0
abbrev pub WrittenIsSpelled : Type 0
WrittenIsSpelled = (wide : Bool) (count : ℕ) → count ≤ 268_435_454 → IsContribution wide (offsets_bytes wide count) (replicate count 0)
