-- The macro units of an object (DWARF 5, 6.3.1 and 6.3.2). Offsets in them are zero bytes, and relocations say what they refer to.
use Rattle.std.specs.Prelude.{ℕ, ◌+◌, ◌-◌, Bool, List, [], ◌∷◌, ◌++◌, length, Option, Some, None}
use Rattle.std.specs.List.{flat_map}
use Rattle.std.specs.Option.{option_map}
use Rattle.mac_base.specs.Values.{offset_width}
use Rattle.mac_base.specs.declared.events.Event.{Event}
use Rattle.mac_base.specs.declared.events.Event.TheVariants.{Define, Undef, Start as Starts, End as Ends}
use Rattle.unit_header.specs.Writing.{header_bytes}
use Rattle.macro_opcodes.specs.declared.entry.OutEntry.{OutEntry}
use Rattle.macro_opcodes.specs.declared.entry.OutEntry.TheVariants.{Start, End, DefineStr, UndefStr, Import, DefineIndex, UndefIndex}
use Rattle.macro_opcodes.specs.Writing.{entry_bytes}
use Rattle.string_sections.specs.Pool.{offset_in}
use Rattle.unit_splitter.specs.declared.root.RootEntry.{RootEntry}
use Rattle.unit_splitter.specs.declared.root.RootEntry.TheVariants.{Own, Import as Imported}
use Rattle.object_writer.specs.declared.layout.Layout.{Layout}
use Rattle.object_writer.specs.declared.relocation.Target.{Target}
use Rattle.object_writer.specs.declared.relocation.Relocation.{Relocation}
use Rattle.object_writer.specs.declared.strings.Strings.{Strings}
use Rattle.object_writer.specs.declared.strings.StringPlace.{StringPlace}
use Rattle.object_writer.specs.declared.strings.StringPlace.TheVariants.{Offset, Index}
use Rattle.object_writer.specs.Layouts.{str_number, piece_macro_number}
use Rattle.object_writer.specs.Relocations.{field_relocations}
use Rattle.object_writer.specs.Strings.{index_in}

-- an entry as it is written, and what the offset at its end refers to, where it has one
pub record Item : Type 0 where
  pub entry : OutEntry
  pub target : Option Target

-- how a string is named that is at an offset of .debug_str: by an index where offsets are kept
abbrev pub place_by : Option (List ℕ) → ℕ → StringPlace
place_by None at = Offset at
place_by (Some offsets) at = Index (index_in offsets at)

-- the same for a string
abbrev pub string_place : Strings → List ℕ → StringPlace
string_place strings text = place_by strings.offsets (offset_in strings.pool text)

-- a definition, where .debug_str has this symbol
abbrev pub define_item : ℕ → StringPlace → ℕ → Item
define_item symbol (Offset at) line = record { entry = DefineStr line 0; target = Some (record { symbol = symbol; addend = at }) }
define_item symbol (Index index) line = record { entry = DefineIndex line index; target = None }

-- an undefinition, where .debug_str has this symbol
abbrev pub undef_item : ℕ → StringPlace → ℕ → Item
undef_item symbol (Offset at) line = record { entry = UndefStr line 0; target = Some (record { symbol = symbol; addend = at }) }
undef_item symbol (Index index) line = record { entry = UndefIndex line index; target = None }

-- an event
abbrev pub event_item : ℕ → Strings → Event → Item
event_item symbol strings (Define line text) = define_item symbol (string_place strings text) line
event_item symbol strings (Undef line name) = undef_item symbol (string_place strings name) line
event_item symbol strings (Starts line file) = record { entry = Start line file; target = None }
event_item symbol strings Ends = record { entry = End; target = None }

-- an entry of the root: an import refers to the macro unit of its piece
abbrev pub root_item : Layout → Strings → RootEntry → Item
root_item layout strings (Own event) = event_item (str_number layout) strings event
root_item layout strings (Imported number) = record { entry = Import 0; target = Some (record { symbol = piece_macro_number number; addend = 0 }) }

-- the bytes of entries
abbrev pub items_bytes : Bool → List Item → List ℕ
items_bytes wide items = flat_map (λ item. entry_bytes wide item.entry) items

-- the relocations of entries that follow each other from a place on
abbrev pub relocations_from : Bool → ℕ → List Item → List Relocation
relocations_from wide at [] = []
relocations_from wide at (item ∷ items) =
    field_relocations (at + length (entry_bytes wide item.entry) - offset_width wide) item.target
    ++ relocations_from wide (at + length (entry_bytes wide item.entry)) items

-- the header of a unit, whose line offset, where there is one, refers to a line table
abbrev pub start_bytes : Bool → Option Target → List ℕ
start_bytes wide line = header_bytes (option_map (λ _. 0) line) wide

-- a unit: its header, its entries, and the 0 that ends it
unfoldable pub unit_bytes : Bool → Option Target → List Item → List ℕ
unit_bytes wide line items = start_bytes wide line ++ (items_bytes wide items ++ 0 ∷ [])

-- the relocations of a unit, in order of place
unfoldable pub unit_relocations : Bool → Option Target → List Item → List Relocation
unit_relocations wide line items =
    field_relocations (length (start_bytes wide line) - offset_width wide) line ++ relocations_from wide (length (start_bytes wide line)) items
