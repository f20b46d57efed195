-- The names of faults, as lines print them: the name of the variant.
use Rattle.std.specs.Prelude.{ℕ, List, codes}
use Rattle.info_roots.specs.declared.fault.InfoKind.{InfoKind}
use Rattle.info_roots.specs.declared.fault.InfoKind.TheVariants.{Cut as InfoCut, Leb as InfoLeb, NoNul as InfoNoNul, Length as InfoLength, Version as InfoVersion, AbbrevRange, Abbrev, Form as InfoForm, StrRange as InfoStrRange, NoStrBase as InfoNoStrBase, StrxRange as InfoStrxRange, TooManyRoots, NoMemory as InfoNoMemory}
use Rattle.line_names.specs.declared.fault.LineKind.{LineKind}
use Rattle.line_names.specs.declared.fault.LineKind.TheVariants.{Cut as LineCut, Leb as LineLeb, NoNul as LineNoNul, Length as LineLength, Version as LineVersion, OpcodeBase, NoPath, Form as LineForm, StrRange as LineStrRange, DirIndex, NoMemory as LineNoMemory}
use Rattle.unit_header.specs.declared.fault.UnitKind.{UnitKind}
use Rattle.unit_header.specs.declared.fault.UnitKind.TheVariants.{Version, Flags, Cut, Leb, NoNul, OperandTable, Form, Opcode, StrRange, ImportRange, LineRange, NoStrBase, StrxRange, NoLineTable, FileIndex, ImportCycle, EndWithoutStart, StartWithoutEnd, Supplementary, TooManyEntries}
use Rattle.pp_tokens.specs.declared.fault.LexFault.{LexFault}
use Rattle.pp_tokens.specs.declared.fault.LexFault.TheVariants.{NulByte, OpenComment, NoMemory as LexNoMemory}
use Rattle.macro_table.specs.declared.fault.DefFault.{DefFault}
use Rattle.macro_table.specs.declared.fault.DefFault.TheVariants.{NoName as DefNoName, Reserved, ParamSyntax, RepeatedParam, VaArgs, LoneQuote, EdgePaste, LoneHash, NoMemory as DefNoMemory}
use Rattle.pp_directives.specs.declared.fault.ExprFault.{ExprFault}
use Rattle.pp_directives.specs.declared.fault.ExprFault.TheVariants.{Syntax, Overflow, ZeroDivisor, BadShift, BadNumber, BadChar, DefinedFromMacro, NoMemory as ExprNoMemory}
use Rattle.pp_directives.specs.declared.fault.StructFault.{StructFault}
use Rattle.pp_directives.specs.declared.fault.StructFault.TheVariants.{StrayElse, StrayElif, StrayEndif, ElseAfterElse, ElifAfterElse, OpenIf, NoMemory as StructNoMemory}
use Rattle.pp_unit.specs.declared.fault.DirectiveFault.{DirectiveFault}
use Rattle.pp_unit.specs.declared.fault.DirectiveFault.TheVariants.{NoName, UnknownName}

-- the name of a kind of fault of a macro unit
abbrev pub unit_name : UnitKind → List ℕ
unit_name Version = codes "Version"
unit_name Flags = codes "Flags"
unit_name Cut = codes "Cut"
unit_name Leb = codes "Leb"
unit_name NoNul = codes "NoNul"
unit_name OperandTable = codes "OperandTable"
unit_name Form = codes "Form"
unit_name Opcode = codes "Opcode"
unit_name StrRange = codes "StrRange"
unit_name ImportRange = codes "ImportRange"
unit_name LineRange = codes "LineRange"
unit_name NoStrBase = codes "NoStrBase"
unit_name StrxRange = codes "StrxRange"
unit_name NoLineTable = codes "NoLineTable"
unit_name FileIndex = codes "FileIndex"
unit_name ImportCycle = codes "ImportCycle"
unit_name EndWithoutStart = codes "EndWithoutStart"
unit_name StartWithoutEnd = codes "StartWithoutEnd"
unit_name Supplementary = codes "Supplementary"
unit_name TooManyEntries = codes "TooManyEntries"

-- the name of a kind of fault of `.debug_info`; no refusal has the last
abbrev pub info_name : InfoKind → List ℕ
info_name InfoCut = codes "Cut"
info_name InfoLeb = codes "Leb"
info_name InfoNoNul = codes "NoNul"
info_name InfoLength = codes "Length"
info_name InfoVersion = codes "Version"
info_name AbbrevRange = codes "AbbrevRange"
info_name Abbrev = codes "Abbrev"
info_name InfoForm = codes "Form"
info_name InfoStrRange = codes "StrRange"
info_name InfoNoStrBase = codes "NoStrBase"
info_name InfoStrxRange = codes "StrxRange"
info_name TooManyRoots = codes "TooManyRoots"
info_name InfoNoMemory = codes "NoMemory"

-- the name of a kind of fault of a line table; no refusal has the last
abbrev pub line_name : LineKind → List ℕ
line_name LineCut = codes "Cut"
line_name LineLeb = codes "Leb"
line_name LineNoNul = codes "NoNul"
line_name LineLength = codes "Length"
line_name LineVersion = codes "Version"
line_name OpcodeBase = codes "OpcodeBase"
line_name NoPath = codes "NoPath"
line_name LineForm = codes "Form"
line_name LineStrRange = codes "StrRange"
line_name DirIndex = codes "DirIndex"
line_name LineNoMemory = codes "NoMemory"

-- the name of a fault of tokens; no refusal has the last, here and below
abbrev pub lex_name : LexFault → List ℕ
lex_name (NulByte line) = codes "NulByte"
lex_name (OpenComment line) = codes "OpenComment"
lex_name LexNoMemory = codes "NoMemory"

-- the name of a fault of a definition
abbrev pub def_name : DefFault → List ℕ
def_name DefNoName = codes "NoName"
def_name Reserved = codes "Reserved"
def_name ParamSyntax = codes "ParamSyntax"
def_name RepeatedParam = codes "RepeatedParam"
def_name VaArgs = codes "VaArgs"
def_name LoneQuote = codes "LoneQuote"
def_name EdgePaste = codes "EdgePaste"
def_name LoneHash = codes "LoneHash"
def_name DefNoMemory = codes "NoMemory"

-- the name of a fault of a directive
abbrev pub directive_name : DirectiveFault → List ℕ
directive_name NoName = codes "NoName"
directive_name UnknownName = codes "UnknownName"

-- the name of a fault of a condition
abbrev pub expr_name : ExprFault → List ℕ
expr_name Syntax = codes "Syntax"
expr_name Overflow = codes "Overflow"
expr_name ZeroDivisor = codes "ZeroDivisor"
expr_name BadShift = codes "BadShift"
expr_name BadNumber = codes "BadNumber"
expr_name BadChar = codes "BadChar"
expr_name DefinedFromMacro = codes "DefinedFromMacro"
expr_name ExprNoMemory = codes "NoMemory"

-- the name of a fault of the structure of groups
abbrev pub struct_name : StructFault → List ℕ
struct_name StrayElse = codes "StrayElse"
struct_name StrayElif = codes "StrayElif"
struct_name StrayEndif = codes "StrayEndif"
struct_name ElseAfterElse = codes "ElseAfterElse"
struct_name ElifAfterElse = codes "ElifAfterElse"
struct_name OpenIf = codes "OpenIf"
struct_name StructNoMemory = codes "NoMemory"
