-- The line on each fault. A fault that wraps another is told by its own name and then the inner one; its numbers and texts follow.
use Rattle.std.specs.Prelude.{ℕ, List, [], ◌∷◌, codes, decimal}
use Rattle.mac_base.specs.declared.frames.Frame.{Frame}
use Rattle.mac_base.specs.ReportText.{hex}
use Rattle.macro_query.specs.declared.fault.QueryFault.{QueryFault}
use Rattle.macro_query.specs.declared.fault.QueryFault.TheVariants.{Elf as QueryElf, Info as QueryInfo, Line as QueryLine, Unit as QueryUnit, NoSuchUnit, Position as QueryPosition, Text as QueryText, Expand as QueryExpand, ReportTooLong as QueryTooLong, NoMemory as QueryNoMemory}
use Rattle.section_views.specs.declared.fault.ElfFault.{ElfFault}
use Rattle.section_views.specs.declared.fault.ElfFault.TheVariants.{NotElf, Class, Order, Kind, Extended, Table, Range, Name, Compressed, Twice}
use Rattle.position_table.specs.declared.fault.PosFault.{PosFault}
use Rattle.position_table.specs.declared.fault.PosFault.TheVariants.{NoSuchPosition, NoMemory as PosNoMemory}
use Rattle.macro_expand.specs.declared.fault.ExpandFault.{ExpandFault}
use Rattle.macro_expand.specs.declared.fault.ExpandFault.TheVariants.{OpenCall, ArgCount, BadPaste, BadString, BadDefinition, LoneQuote, TooLong, NoMemory as ExpandNoMemory}
use Rattle.pp_unit.specs.declared.fault.PpKind.{PpKind}
use Rattle.pp_unit.specs.declared.fault.PpKind.TheVariants.{Lex, Def, Predefined, Redefined, Directive, Expr, Expand, Struct, NoSuchFile as NoSuchHeader, BadInclude, IncludeDepth, ErrorDirective, BadLine, SourceTooLong, TooManyEvents, TooMuchText, StoreFault, NoMemory as PpNoMemory}
use Rattle.pp_unit.specs.declared.fault.PpFault.{PpFault}
use Rattle.dwmac_run.specs.declared.refusal.Refusal.{Refusal}
use Rattle.dwmac_run.specs.declared.refusal.Refusal.TheVariants.{NoSuchFile, FileTooLong, Query, TranslationUnit, ReportTooLong, TooLarge}
use Rattle.dwmac_run.specs.FaultNames.{unit_name, info_name, line_name, lex_name, def_name, directive_name, expr_name, struct_name}
use Rattle.dwmac_run.specs.Pieces.{line_text, in_file, at_line}

-- the part of a file that has a fault, its kind, and where it is
abbrev pub part_words : List ℕ → List ℕ → ℕ → List (List ℕ)
part_words part kind at = part ∷ kind ∷ codes "at" ∷ hex at ∷ []

-- a fault of a section of an ELF file, by the section's number
abbrev pub section_words : List ℕ → ℕ → List (List ℕ)
section_words kind number = codes "Elf" ∷ kind ∷ codes "section" ∷ decimal number ∷ []

-- the fault of an ELF file
abbrev pub elf_words : ElfFault → List (List ℕ)
elf_words NotElf = codes "Elf" ∷ codes "NotElf" ∷ []
elf_words Class = codes "Elf" ∷ codes "Class" ∷ []
elf_words Order = codes "Elf" ∷ codes "Order" ∷ []
elf_words Kind = codes "Elf" ∷ codes "Kind" ∷ []
elf_words Extended = codes "Elf" ∷ codes "Extended" ∷ []
elf_words (Table at) = part_words (codes "Elf") (codes "Table") at
elf_words (Range number) = section_words (codes "Range") number
elf_words (Name number) = section_words (codes "Name") number
elf_words (Compressed number) = section_words (codes "Compressed") number
elf_words (Twice number) = section_words (codes "Twice") number

-- a position that is not there; no refusal has the last, here and below
abbrev pub position_words : PosFault → List (List ℕ)
position_words (NoSuchPosition depth) = codes "NoSuchPosition" ∷ codes "depth" ∷ decimal depth ∷ []
position_words PosNoMemory = codes "NoMemory" ∷ []

-- a text that has no expansion
abbrev pub expand_words : ExpandFault → List (List ℕ)
expand_words (OpenCall name) = codes "Expand" ∷ codes "OpenCall" ∷ name ∷ []
expand_words (ArgCount name got) = codes "Expand" ∷ codes "ArgCount" ∷ name ∷ decimal got ∷ []
expand_words (BadPaste left right) = codes "Expand" ∷ codes "BadPaste" ∷ left ∷ right ∷ []
expand_words (BadString name) = codes "Expand" ∷ codes "BadString" ∷ name ∷ []
expand_words (BadDefinition name) = codes "Expand" ∷ codes "BadDefinition" ∷ name ∷ []
expand_words LoneQuote = codes "Expand" ∷ codes "LoneQuote" ∷ []
expand_words TooLong = codes "Expand" ∷ codes "TooLong" ∷ []
expand_words ExpandNoMemory = codes "Expand" ∷ codes "NoMemory" ∷ []

-- the fault of a query about this file
abbrev pub query_pieces : List ℕ → QueryFault → List (List ℕ)
query_pieces file (QueryElf fault) = in_file file ∷ elf_words fault
query_pieces file (QueryInfo fault) = in_file file ∷ part_words (codes "Info") (info_name fault.what) fault.at
query_pieces file (QueryLine fault) = in_file file ∷ part_words (codes "Line") (line_name fault.what) fault.at
query_pieces file (QueryUnit fault) = in_file file ∷ part_words (codes "Unit") (unit_name fault.what) fault.at
query_pieces file NoSuchUnit = in_file file ∷ codes "NoSuchUnit" ∷ []
query_pieces file (QueryPosition fault) = in_file file ∷ position_words fault
query_pieces file (QueryText fault) = codes "Text" ∷ lex_name fault ∷ []
query_pieces file (QueryExpand fault) = expand_words fault
query_pieces file QueryTooLong = codes "ReportTooLong" ∷ []
query_pieces file QueryNoMemory = codes "no memory" ∷ []

-- the kind of a fault of a translation unit; no refusal has the last two
abbrev pub kind_words : PpKind → List (List ℕ)
kind_words (Lex fault) = codes "Lex" ∷ lex_name fault ∷ []
kind_words (Def fault) = codes "Def" ∷ def_name fault ∷ []
kind_words (Predefined name) = codes "Predefined" ∷ name ∷ []
kind_words (Redefined name) = codes "Redefined" ∷ name ∷ []
kind_words (Directive fault) = codes "Directive" ∷ directive_name fault ∷ []
kind_words (Expr fault) = codes "Expr" ∷ expr_name fault ∷ []
kind_words (Expand fault) = expand_words fault
kind_words (Struct fault) = codes "Struct" ∷ struct_name fault ∷ []
kind_words (NoSuchHeader name) = codes "NoSuchFile" ∷ name ∷ []
kind_words BadInclude = codes "BadInclude" ∷ []
kind_words IncludeDepth = codes "IncludeDepth" ∷ []
kind_words ErrorDirective = codes "ErrorDirective" ∷ []
kind_words BadLine = codes "BadLine" ∷ []
kind_words (SourceTooLong name) = codes "SourceTooLong" ∷ name ∷ []
kind_words TooManyEvents = codes "TooManyEvents" ∷ []
kind_words TooMuchText = codes "TooMuchText" ∷ []
kind_words StoreFault = codes "StoreFault" ∷ []
kind_words PpNoMemory = codes "NoMemory" ∷ []

-- the path of the file that is open innermost, or that none is open
abbrev pub file_shown : List Frame → List ℕ → List ℕ
file_shown [] path = codes "<start>"
file_shown (frame ∷ frames) path = path

-- the first fault of a translation unit
abbrev pub unit_pieces : PpFault → List (List ℕ)
unit_pieces fault = at_line (file_shown fault.place.frames fault.path) fault.place.line ∷ kind_words fault.what

-- each fault as the pieces of its line
abbrev pub refusal_pieces : Refusal → List (List ℕ)
refusal_pieces (NoSuchFile file) = in_file file ∷ codes "NoSuchFile" ∷ []
refusal_pieces (FileTooLong file) = in_file file ∷ codes "FileTooLong" ∷ []
refusal_pieces (Query file fault) = query_pieces file fault
refusal_pieces (TranslationUnit fault) = unit_pieces fault
refusal_pieces ReportTooLong = codes "ReportTooLong" ∷ []
refusal_pieces TooLarge = codes "TooLarge" ∷ []

-- the line on a fault
abbrev pub refusal_line : Refusal → List ℕ
refusal_line fault = line_text (refusal_pieces fault)

-- the line on words that fit no command, on memory that ran out, and on a shelf, a store or a sink that failed
abbrev pub usage_line : List ℕ
usage_line = line_text (codes "usage" ∷ [])

abbrev pub no_memory_line : List ℕ
no_memory_line = line_text (codes "no memory" ∷ [])

abbrev pub outside_line : List ℕ
outside_line = line_text (codes "outside fault" ∷ [])
