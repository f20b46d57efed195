-- Reading the roots of a file: .debug_info is units, one after another (DWARF 5, 7.5.1).
use Rattle.std.specs.Prelude.{ℕ, zero, suc, ◌==◌, if◌then◌else◌, List, [], ◌∷◌, ◌++◌, length, take, Option, Some, None, Result, Ok, Err}
use Rattle.mac_base.specs.Input.{Input, ◌>>=◌}
use Rattle.mac_base.specs.SectionBytes.{SectionBytes}
use Rattle.mac_base.specs.declared.extent.Extent.{Extent}
use Rattle.mac_base.specs.Extents.{extent_of}
use Rattle.info_roots.specs.declared.fault.InfoFault.{InfoFault}
use Rattle.info_roots.specs.declared.fault.InfoKind.TheVariants.{TooManyRoots}
use Rattle.info_roots.specs.declared.root.Root.{Root}
use Rattle.info_roots.specs.Faults.{extent_field, fault_at}
use Rattle.info_roots.specs.Units.{unit_at}

-- the fields of a unit, cut off at its end
abbrev pub fields_of : List ℕ → Extent → Input
fields_of section e = record { bytes = take e.end section; at = e.start }

-- the root of the unit in this extent
abbrev pub root_at : SectionBytes → ℕ → Extent → Result (Option Root) InfoFault
root_at s at extent = unit_at s at extent.wide (fields_of s.info extent)

-- one more root, of the unit at this place; a file has 65,536 at most
abbrev pub with_root : ℕ → List Root → Option Root → Result (List Root) InfoFault
with_root at roots None = Ok roots
with_root at roots (Some root) = if length roots == 65536 then Err (fault_at at TooManyRoots) else Ok (roots ++ root ∷ [])

-- where the unit at this place ends, and these roots with its own
abbrev pub unit_read : SectionBytes → ℕ → List Root → Result (ℕ × List Root) InfoFault
unit_read s at roots = do
  extent ← extent_field (extent_of s.info at)
  root ← root_at s at extent
  more ← with_root at roots root
  Ok (extent.end, more)

-- these roots, and those of the units from this place on, which are so many at most
abbrev pub roots_from : SectionBytes → ℕ → ℕ → List Root → Result (List Root) InfoFault
roots_from s zero at roots = Ok roots
roots_from s (suc n) at roots = if at == length s.info then Ok roots else (unit_read s at roots >>= λ next. roots_from s n next.0 next.1)

-- the roots of a file, which has fewer units than bytes
abbrev pub roots_in : SectionBytes → Result (List Root) InfoFault
roots_in s = roots_from s (length s.info) 0 []
