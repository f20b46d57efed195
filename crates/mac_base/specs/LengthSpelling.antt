-- Which bytes spell the length of a unit (DWARF 5, 7.2.2 and 7.4), apart from how it is read.
use Rattle.std.specs.Prelude.{◌≡◌, ℕ, ◌<◌, Bool, true, false, List, ◌++◌}
use Rattle.mac_base.specs.Spelling.{IsFixed}

-- in the 32-bit format four bytes, below fffffff0; in the 64-bit format ffffffff, and then eight bytes
abbrev pub IsLength : Bool → List ℕ → ℕ → Type 0
IsLength false bytes n = IsFixed 4 bytes n × (n < 0xffff_fff0)
IsLength true bytes n = (mark : List ℕ) × (long : List ℕ) × (bytes ≡ mark ++ long) × IsFixed 4 mark 0xffff_ffff × IsFixed 8 long n
