-- The strings of the macro units of an object (DWARF 5, 7.26): .debug_str has each different one once, and .debug_str_offsets, where there is one, has the offset of each one of the root.
use Rattle.std.specs.Prelude.{ℕ, Bool, if◌then◌else◌, List, [], ◌∷◌, ◌++◌, nat_eq, Some, None}
use Rattle.std.specs.List.{fold, flat_map, list_any, position_or_len}
use Rattle.std.specs.Option.{option_map}
use Rattle.mac_base.specs.declared.events.Event.{Event}
use Rattle.mac_base.specs.declared.events.Event.TheVariants.{Define, Undef, Start, End}
use Rattle.string_sections.specs.Pool.{add_string, offset_in}
use Rattle.unit_splitter.specs.declared.pieces.Piece.{Piece}
use Rattle.unit_splitter.specs.declared.pieces.Split.{Split}
use Rattle.unit_splitter.specs.declared.root.RootEntry.{RootEntry}
use Rattle.unit_splitter.specs.declared.root.RootEntry.TheVariants.{Own, Import}
use Rattle.object_writer.specs.declared.strings.Strings.{Strings}

-- the string of a definition or an undefinition
abbrev pub texts_in : Event → List (List ℕ)
texts_in (Define line text) = text ∷ []
texts_in (Undef line name) = name ∷ []
texts_in (Start line file) = []
texts_in End = []

-- those of an entry of the root, where it is no import
abbrev pub own_texts : RootEntry → List (List ℕ)
own_texts (Own event) = texts_in event
own_texts (Import number) = []

-- those of a piece
abbrev pub texts_of : Piece → List (List ℕ)
texts_of piece = flat_map texts_in piece.entries

-- those of all pieces
abbrev pub piece_texts : List Piece → List (List ℕ)
piece_texts pieces = flat_map texts_of pieces

-- those of the root
abbrev pub root_texts : List RootEntry → List (List ℕ)
root_texts entries = flat_map own_texts entries

-- offsets with this one, each once
abbrev pub add_offset : List ℕ → ℕ → List ℕ
add_offset offsets at = if list_any (nat_eq at) offsets then offsets else offsets ++ at ∷ []

-- the index of an offset
abbrev pub index_in : List ℕ → ℕ → ℕ
index_in offsets at = position_or_len (nat_eq at) offsets

-- the strings with one more, and its offset too where offsets are kept
abbrev pub note : Strings → List ℕ → Strings
note strings text = record {
  pool = add_string strings.pool text;
  offsets = option_map (λ offsets. add_offset offsets (offset_in strings.pool text)) strings.offsets;
}

-- with these, in order
abbrev pub note_all : Strings → List (List ℕ) → Strings
note_all strings texts = fold note strings texts

-- no strings
abbrev pub no_strings : Strings
no_strings = record { pool = []; offsets = None }

-- these strings, where offsets are kept from here on or not at all
abbrev pub keeping : Bool → Strings → Strings
keeping kept strings = record { pool = strings.pool; offsets = (if kept then Some [] else None) }

-- the strings of an object: those of the pieces, and then those of the root, with their offsets where these are kept
abbrev pub strings_of : Bool → Split → Strings
strings_of kept split = note_all (keeping kept (note_all no_strings (piece_texts split.pieces))) (root_texts split.root)
