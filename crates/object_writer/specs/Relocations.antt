-- Relocations with addends (gABI, "Relocation"; x86-64 supplement, "Relocation"): the offsets that a linker puts into the fields of a section.
use Rattle.std.specs.Prelude.{ℕ, ◌+◌, ◌*◌, ◌^◌, Bool, if◌then◌else◌, List, [], ◌∷◌, ◌++◌, Option, Some, None}
use Rattle.std.specs.List.{flat_map}
use Rattle.object_writer.specs.Gabi.{R_X86_64_64, R_X86_64_32}
use Rattle.object_writer.specs.Elf.{xword}
use Rattle.object_writer.specs.declared.relocation.Target.{Target}
use Rattle.object_writer.specs.declared.relocation.Relocation.{Relocation}

-- the type for fields of 8 bytes or of 4
abbrev pub relocation_type : Bool → ℕ
relocation_type wide = if wide then R_X86_64_64 else R_X86_64_32

-- r_offset, r_info with the symbol in its upper 32 bits and the type in its lower, and r_addend
unfoldable pub relocation_bytes : Bool → Relocation → List ℕ
relocation_bytes wide r = xword r.place ++ (xword (r.target.symbol * 2 ^ 32 + relocation_type wide) ++ xword r.target.addend)

-- relocations, one after another
abbrev pub table_of : Bool → List Relocation → List ℕ
table_of wide relocations = flat_map (relocation_bytes wide) relocations

-- the relocation of a field at a place, where it refers to something
abbrev pub field_relocations : ℕ → Option Target → List Relocation
field_relocations place None = []
field_relocations place (Some target) = record { place = place; target = target } ∷ []
