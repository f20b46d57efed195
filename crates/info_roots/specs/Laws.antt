-- Reading the roots of a file and the relation between its bytes and its roots agree.
use Rattle.std.specs.Prelude.{◌≡◌, ℕ, ◌<◌, ◌≤◌, List, ◌++◌, length, All, Option, Some, Ok}
use Rattle.mac_base.specs.SectionBytes.{SectionBytes}
use Rattle.info_roots.specs.declared.root.Root.{Root}
use Rattle.info_roots.specs.Roots.{roots_in}
use Rattle.info_roots.specs.UnitSpelling.{IsUnit, AreUnits, AreRoots}
use Rattle.info_roots.specs.Written.{abbrev_bytes, body_bytes, unit_bytes, info_bytes, IsWritable}

-- what is read are the file's roots
abbrev pub ReadAreRoots : Type 0
ReadAreRoots = (s : SectionBytes) (roots : List Root) → roots_in s ≡ Ok roots → AreRoots s roots

-- and a file's roots are read
abbrev pub RootsAreRead : Type 0
RootsAreRead = (s : SectionBytes) (roots : List Root) → AreRoots s roots → roots_in s ≡ Ok roots

-- a file has at most one list of roots
abbrev pub OneList : Type 0
OneList = (s : SectionBytes) (roots others : List Root) → AreRoots s roots → AreRoots s others → roots ≡ others

-- units after units are units: each has the root that it has by itself
abbrev pub UnitsFollowUnits : Type 0
UnitsFollowUnits = (s : SectionBytes) (front back : List ℕ) (units more : List (Option Root)) → AreUnits s front units → AreUnits s back more → AreUnits s (front ++ back) (units ++ more)

-- what is written of a root is a unit that has this root, whatever follows the table of abbreviations
abbrev pub WrittenIsUnit : Type 0
WrittenIsUnit = (s : SectionBytes) (more : List ℕ) (root : Root) → s.abbrevs ≡ abbrev_bytes ++ more → IsWritable root → length (body_bytes root) < 0xffff_fff0 → IsUnit s (unit_bytes root) (Some root)

-- so a file with what is written of roots has exactly these, and they are read again
pub record WrittenAreRoots : Type 0 where
  pub roots : (s : SectionBytes) (more : List ℕ) (roots : List Root) → s.info ≡ info_bytes roots → s.abbrevs ≡ abbrev_bytes ++ more → All IsWritable roots → length roots ≤ 65536 → length (info_bytes roots) ≤ 1073741824 → AreRoots s roots
  pub read : (s : SectionBytes) (roots : List Root) → s.info ≡ info_bytes roots → s.abbrevs ≡ abbrev_bytes → All IsWritable roots → length roots ≤ 65536 → length (info_bytes roots) ≤ 1073741824 → roots_in s ≡ Ok roots
