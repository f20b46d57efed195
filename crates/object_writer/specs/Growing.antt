-- How a macro unit and its relocations grow while they are written. Only private functions cite these.
use Rattle.std.specs.Prelude.{◌≡◌, ◌-◌, Bool, List, ◌++◌, length, Option}
use Rattle.mac_base.specs.Values.{offset_width}
use Rattle.object_writer.specs.declared.relocation.Target.{Target}
use Rattle.object_writer.specs.declared.unit.Relocated.{Relocated}
use Rattle.object_writer.specs.Relocations.{table_of, field_relocations}
use Rattle.object_writer.specs.Units.{Item, items_bytes, relocations_from, start_bytes, unit_bytes, unit_relocations}

-- these entries are appended
pub record Appends (wide : Bool) (old new : Relocated) (items : List Item) : Type 0 where
  pub contents : new.contents.items ≡ old.contents.items ++ items_bytes wide items
  pub relocations : new.relocations.items ≡ old.relocations.items ++ table_of wide (relocations_from wide (length old.contents.items) items)

-- the header of a unit, and its relocation
pub record IsStarted (wide : Bool) (line : Option Target) (unit : Relocated) : Type 0 where
  pub contents : unit.contents.items ≡ start_bytes wide line
  pub relocations : unit.relocations.items ≡ table_of wide (field_relocations (length (start_bytes wide line) - offset_width wide) line)

-- a whole unit, and its relocations
pub record IsUnit (wide : Bool) (line : Option Target) (unit : Relocated) (items : List Item) : Type 0 where
  pub contents : unit.contents.items ≡ unit_bytes wide line items
  pub relocations : unit.relocations.items ≡ table_of wide (unit_relocations wide line items)
