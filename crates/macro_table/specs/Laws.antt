-- Laws of the definitions: a table and the last word on each name agree, and it doesn't matter how files are named.
use Rattle.std.specs.Prelude.{◌≡◌, ℕ, List, map}
use Rattle.std.specs.Option.{option_map}
use Rattle.std.specs.FinMap as finite
use Rattle.macro_table.specs.Tables.{renamed_value}
use Rattle.mac_base.specs.Items.{Item, renamed}
use Rattle.macro_table.specs.FileTable.{instance, prefix, definition, table_of}

-- the table of some entries has for each name what the last entry says of it that defines or undefines it
abbrev pub TableHasLastWord : Type 0 → Type 0
TableHasLastWord P = (items : List (Item P)) (name : List ℕ) → finite.get (table_of items) name ≡ definition items name

-- A unit whose files are named otherwise has the same instances and prefixes, and the same definitions but for the names of their files. So a reader may number the paths.
pub record FileNamesAreCarried (P Q : Type 0) : Type 0 where
  pub same_instance : (f : P → Q) (items : List (Item P)) (lines : List ℕ) → instance (map (renamed f) items) lines ≡ instance items lines
  pub same_prefix : (f : P → Q) (items : List (Item P)) (start line : ℕ) → prefix (map (renamed f) items) start line ≡ map (renamed f) (prefix items start line)
  pub same_definition : (f : P → Q) (items : List (Item P)) (name : List ℕ) → definition (map (renamed f) items) name ≡ option_map (renamed_value f) (definition items name)
