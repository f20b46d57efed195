-- A relocatable object with the macro information of a translation unit (gABI, "Sections", "Section Groups", "Symbol Table"; DWARF 5, 6.3 and appendix E.1): each piece is a macro unit in a group of its own, by whose name linkers keep one.
use Rattle.std.specs.Prelude.{ℕ, ◌+◌, ◌≤◌, Bool, if◌then◌else◌, List, [], ◌∷◌, ◌++◌, length, map, replicate, Option, Some, None, Result}
use Rattle.std.specs.List.{AllByRecursion, flat_map, range_with_len}
use Rattle.mac_base.specs.Values.{offset_width}
use Rattle.string_sections.specs.Pool.{pool_bytes}
use Rattle.string_sections.specs.Contributions.{offsets_bytes, header_size}
use Rattle.line_names.specs.Written.{table_bytes}
use Rattle.info_roots.specs.declared.root.Root.{Root}
use Rattle.info_roots.specs.Written.{abbrev_bytes, info_bytes}
use Rattle.unit_splitter.specs.Names.{piece_name_of}
use Rattle.unit_splitter.specs.Split.{piece_limit}
use Rattle.unit_splitter.specs.Laws.{IsThere}
use Rattle.unit_splitter.specs.declared.pieces.Piece.{Piece}
use Rattle.unit_splitter.specs.declared.pieces.Split.{Split}
use Rattle.unit_splitter.specs.declared.root.RootEntry.{RootEntry}
use Rattle.object_writer.specs.declared.fault.WriteFault.{WriteFault}
use Rattle.object_writer.specs.declared.elf.FileType.TheVariants.{Relocatable}
use Rattle.object_writer.specs.declared.layout.Layout.{Layout}
use Rattle.object_writer.specs.declared.object.Forms.{Forms}
use Rattle.object_writer.specs.declared.object.UnitInfo.{UnitInfo}
use Rattle.object_writer.specs.declared.relocation.Target.{Target}
use Rattle.object_writer.specs.declared.relocation.Relocation.{Relocation}
use Rattle.object_writer.specs.declared.section.Section.{Section}
use Rattle.object_writer.specs.declared.section.SectionName.{SectionName}
use Rattle.object_writer.specs.declared.section.SectionName.TheVariants.{Group, Macro, RelaMacro, Str, StrOffsets, RelaStrOffsets, Line, Info, RelaInfo, Abbrev, Symtab, Strtab}
use Rattle.object_writer.specs.declared.section.SectionType.TheVariants.{Contents, Symbols, Strings as StringTable, Relocations, Members}
use Rattle.object_writer.specs.declared.strings.Strings.{Strings}
use Rattle.object_writer.specs.Gabi.{SHF_MERGE, SHF_STRINGS, SHF_INFO_LINK, SHF_GROUP, GRP_COMDAT, STT_NOTYPE, STT_SECTION}
use Rattle.object_writer.specs.Elf.{half, word, xword, name_table, written}
use Rattle.object_writer.specs.Layouts.{group_number, piece_macro_number, macro_number, str_number, offsets_number, line_number, info_number, abbrev_number, symtab_number, piece_symbol}
use Rattle.object_writer.specs.Relocations.{table_of}
use Rattle.object_writer.specs.Strings.{strings_of}
use Rattle.object_writer.specs.Units.{Item, event_item, root_item, unit_bytes, unit_relocations}

-- a section whose contents its name explains, with these flags
abbrev pub contents_section : SectionName → ℕ → List ℕ → Section
contents_section name flags contents = record { name = name; kind = Contents; flags = flags; link = 0; info = 0; entry_size = 0; contents = contents }

-- the relocations of the section of a number
abbrev pub relocation_section : Layout → SectionName → ℕ → ℕ → List ℕ → Section
relocation_section layout name flags number contents = record { name = name; kind = Relocations; flags = flags; link = symtab_number layout; info = number; entry_size = 24; contents = contents }

-- what a symbol's section has at a place
abbrev pub target : ℕ → ℕ → Target
target symbol addend = record { symbol = symbol; addend = addend }

-- the group of piece k, with its members
abbrev pub group_section : Layout → ℕ → Section
group_section layout k = record {
  name = Group;
  kind = Members;
  flags = 0;
  link = symtab_number layout;
  info = piece_symbol layout k;
  entry_size = 4;
  contents = word GRP_COMDAT ++ (word (group_number k + 1) ++ word (group_number k + 2));
}

-- the entries of a piece
abbrev pub piece_items : Layout → Strings → Piece → List Item
piece_items layout strings piece = map (event_item (str_number layout) strings) piece.entries

-- the sections of piece k
abbrev pub piece_sections : Layout → Bool → Strings → ℕ → Piece → List Section
piece_sections layout wide strings k piece =
    group_section layout k
    ∷ contents_section Macro SHF_GROUP (unit_bytes wide None (piece_items layout strings piece))
    ∷ relocation_section layout RelaMacro (SHF_INFO_LINK + SHF_GROUP) (piece_macro_number k) (table_of wide (unit_relocations wide None (piece_items layout strings piece)))
    ∷ []

-- those of all pieces from number k on
abbrev pub pieces_sections : Layout → Bool → Strings → ℕ → List Piece → List Section
pieces_sections layout wide strings k [] = []
pieces_sections layout wide strings k (piece ∷ pieces) = piece_sections layout wide strings k piece ++ pieces_sections layout wide strings (k + 1) pieces

-- the entries of the root
abbrev pub root_items : Layout → Strings → List RootEntry → List Item
root_items layout strings entries = map (root_item layout strings) entries

-- its macro unit has the line table
abbrev pub root_line : Layout → Option Target
root_line layout = Some (target (line_number layout) 0)

-- .debug_macro of the root, and its relocations
abbrev pub root_sections : Layout → Bool → Strings → List RootEntry → List Section
root_sections layout wide strings entries =
    contents_section Macro 0 (unit_bytes wide (root_line layout) (root_items layout strings entries))
    ∷ relocation_section layout RelaMacro SHF_INFO_LINK (macro_number layout) (table_of wide (unit_relocations wide (root_line layout) (root_items layout strings entries)))
    ∷ []

-- .debug_str
abbrev pub strings_section : List ℕ → Section
strings_section contents = record { name = Str; kind = Contents; flags = SHF_MERGE + SHF_STRINGS; link = 0; info = 0; entry_size = 1; contents = contents }

-- the relocations of string offsets from a place on
abbrev pub offset_relocations : Layout → Bool → ℕ → List ℕ → List Relocation
offset_relocations layout wide at [] = []
offset_relocations layout wide at (offset ∷ offsets) = record { place = at; target = target (str_number layout) offset } ∷ offset_relocations layout wide (at + offset_width wide) offsets

-- .debug_str_offsets, where offsets are kept
abbrev pub offsets_sections : Layout → Bool → Option (List ℕ) → List Section
offsets_sections layout wide None = []
offsets_sections layout wide (Some offsets) =
    contents_section StrOffsets 0 (offsets_bytes wide (length offsets))
    ∷ relocation_section layout RelaStrOffsets 0 (offsets_number layout) (table_of wide (offset_relocations layout wide (header_size wide) offsets))
    ∷ []

-- the sections of strings
abbrev pub string_sections : Layout → Bool → Strings → List Section
string_sections layout wide strings = strings_section (pool_bytes strings.pool) ∷ offsets_sections layout wide strings.offsets

-- .debug_line
abbrev pub line_sections : Bool → List (List ℕ) → List Section
line_sections wide files = contents_section Line 0 (table_bytes wide files) ∷ []

-- the compilation unit, whose offsets are zero bytes
abbrev pub object_root : Layout → Bool → UnitInfo → Root
object_root layout wide unit = record { name = unit.name; dir = unit.dir; macros = 0; line = Some 0; str_base = (if layout.indexed then Some 0 else None); wide = wide }

-- where the offset of the abbreviations is: after the length, the version, the type of the unit and the size of addresses
abbrev pub abbrev_place : Bool → ℕ
abbrev_place wide = (if wide then 12 else 4) + 4

-- and where the offsets are that follow the code of the abbreviation and the two strings
abbrev pub macros_place : Bool → UnitInfo → ℕ
macros_place wide unit = abbrev_place wide + offset_width wide + 1 + (length unit.name + 1) + (length unit.dir + 1)

-- the base of string offsets, which is where the entries of .debug_str_offsets begin (DWARF 5, 7.26)
abbrev pub base_relocations : Layout → Bool → ℕ → List Relocation
base_relocations layout wide place = if layout.indexed then record { place = place; target = target (offsets_number layout) (header_size wide) } ∷ [] else []

-- the relocations of the compilation unit
abbrev pub info_relocations : Layout → Bool → UnitInfo → List Relocation
info_relocations layout wide unit =
    record { place = abbrev_place wide; target = target (abbrev_number layout) 0 }
    ∷ record { place = macros_place wide unit; target = target (macro_number layout) 0 }
    ∷ record { place = macros_place wide unit + offset_width wide; target = target (line_number layout) 0 }
    ∷ base_relocations layout wide (macros_place wide unit + offset_width wide + offset_width wide)

-- .debug_info, its relocations, and .debug_abbrev
abbrev pub info_sections : Layout → Bool → UnitInfo → List Section
info_sections layout wide unit =
    contents_section Info 0 (info_bytes (object_root layout wide unit ∷ []))
    ∷ relocation_section layout RelaInfo 0 (info_number layout) (table_of wide (info_relocations layout wide unit))
    ∷ contents_section Abbrev 0 abbrev_bytes
    ∷ []

-- a local symbol, of value and size 0: st_name, st_info, st_other, st_shndx, st_value, st_size
unfoldable pub symbol_bytes : ℕ → ℕ → ℕ → List ℕ
symbol_bytes name kind section = word name ++ (kind ∷ 0 ∷ (half section ++ (xword 0 ++ xword 0)))

-- the symbols of pieces from number k on, whose names follow each other in the string table from a place on
abbrev pub piece_symbols : ℕ → ℕ → List (List ℕ) → List ℕ
piece_symbols k at [] = []
piece_symbols k at (name ∷ names) = symbol_bytes at STT_NOTYPE (group_number k) ++ piece_symbols (k + 1) (at + length name + 1) names

-- the null symbol, the symbols of sections, and those of pieces
unfoldable pub symbol_table : Layout → List (List ℕ) → List ℕ
symbol_table layout names = replicate 24 0 ++ (flat_map (symbol_bytes 0 STT_SECTION) (range_with_len 1 (abbrev_number layout)) ++ piece_symbols 0 1 names)

-- the names of pieces
abbrev pub piece_names : Bool → List Piece → List (List ℕ)
piece_names wide pieces = map (λ piece. piece_name_of wide piece.entries) pieces

-- .symtab, with the number of its symbols, and .strtab
abbrev pub symtab_section : Layout → List ℕ → Section
symtab_section layout contents = record { name = Symtab; kind = Symbols; flags = 0; link = symtab_number layout + 1; info = piece_symbol layout layout.pieces; entry_size = 24; contents = contents }

-- .strtab, the names of symbols
abbrev pub strtab_section : List ℕ → Section
strtab_section contents = record { name = Strtab; kind = StringTable; flags = 0; link = 0; info = 0; entry_size = 0; contents = contents }

-- both of them
abbrev pub symbol_sections : Layout → List (List ℕ) → List Section
symbol_sections layout names = symtab_section layout (symbol_table layout names) ∷ strtab_section (name_table names) ∷ []

-- how the sections of an object are numbered
abbrev pub layout_of : Split → Forms → Layout
layout_of split forms = record { pieces = length split.pieces; indexed = forms.strx }

-- the pieces' own view of the strings: they name them by their offsets
abbrev pub direct : Strings → Strings
direct strings = record { pool = strings.pool; offsets = None }

-- the sections of an object from section 1 on, but for .shstrtab
abbrev pub sections_with : Layout → Bool → Strings → Split → UnitInfo → List Section
sections_with layout wide strings split unit =
    pieces_sections layout wide (direct strings) 0 split.pieces
    ++ (root_sections layout wide strings split.root
    ++ (string_sections layout wide strings
    ++ (line_sections wide unit.files
    ++ (info_sections layout wide unit
    ++ symbol_sections layout (piece_names wide split.pieces)))))

-- the same, by the split, the unit and the forms alone
unfoldable pub sections_of : Split → UnitInfo → Forms → List Section
sections_of split unit forms = sections_with (layout_of split forms) forms.wide (strings_of forms.strx split) split unit

-- the object, or the fault where a section is too large
abbrev pub made : Split → UnitInfo → Forms → Result (List ℕ) WriteFault
made split unit forms = written Relocatable (sections_of split unit forms)

-- no more pieces than a translation unit has, and imports of pieces that are there
pub record IsWritable (split : Split) : Type 0 where
  pub few : length split.pieces ≤ piece_limit
  pub imports : AllByRecursion (IsThere (length split.pieces)) split.root
