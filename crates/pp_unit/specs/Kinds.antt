-- How a fault of a part is the kind of a fault of a translation unit, and where faults are.
use Rattle.std.specs.Prelude.{ℕ, [], Result, Ok, Err}
use Rattle.pp_tokens.specs.declared.fault.LexFault.{LexFault}
use Rattle.pp_tokens.specs.declared.fault.LexFault.TheVariants.{NoMemory as LexRanOut}
use Rattle.macro_table.specs.declared.fault.DefFault.{DefFault}
use Rattle.macro_table.specs.declared.fault.DefFault.TheVariants.{NoMemory as DefRanOut}
use Rattle.macro_table.specs.declared.fault.TextFault.{TextFault}
use Rattle.macro_table.specs.declared.fault.TextFault.TheVariants.{Lex as TextLex, Def as TextDef}
use Rattle.macro_table.specs.declared.fault.TextFault.TheVariants.{NoMemory as TextRanOut}
use Rattle.macro_expand.specs.declared.fault.ExpandFault.{ExpandFault}
use Rattle.macro_expand.specs.declared.fault.ExpandFault.TheVariants.{NoMemory as ExpandRanOut}
use Rattle.pp_directives.specs.declared.fault.ExprFault.{ExprFault}
use Rattle.pp_directives.specs.declared.fault.ExprFault.TheVariants.{NoMemory as ExprRanOut}
use Rattle.pp_directives.specs.declared.fault.StructFault.{StructFault}
use Rattle.pp_directives.specs.declared.fault.StructFault.TheVariants.{NoMemory as StructRanOut}
use Rattle.pp_unit.specs.declared.fault.PpKind.{PpKind}
use Rattle.pp_unit.specs.declared.fault.PpKind.TheVariants.{Lex, Def, Expr, Expand, Struct, NoMemory}
use Rattle.pp_unit.specs.declared.fault.PpFault.{PpFault}
use Rattle.pp_unit.specs.declared.open_file.OpenFile.{OpenFile}

-- a fault of tokens; want of memory stays want of memory, here and below
abbrev pub lex_kind : LexFault → PpKind
lex_kind LexRanOut = NoMemory
lex_kind fault = Lex fault

-- a fault of a definition
abbrev pub def_kind : DefFault → PpKind
def_kind DefRanOut = NoMemory
def_kind fault = Def fault

-- a fault of a text that is to be a definition
abbrev pub text_kind : TextFault → PpKind
text_kind (TextLex fault) = lex_kind fault
text_kind (TextDef fault) = def_kind fault
text_kind TextRanOut = NoMemory

-- a fault of an expansion
abbrev pub expand_kind : ExpandFault → PpKind
expand_kind ExpandRanOut = NoMemory
expand_kind fault = Expand fault

-- a fault of a condition
abbrev pub expr_kind : ExprFault → PpKind
expr_kind ExprRanOut = NoMemory
expr_kind fault = Expr fault

-- a fault of the structure of groups
abbrev pub struct_kind : StructFault → PpKind
struct_kind StructRanOut = NoMemory
struct_kind fault = Struct fault

-- a fault of this kind at a line of the file that is open innermost
abbrev pub fault_at : OpenFile → ℕ → PpKind → PpFault
fault_at open_file line kind = record { place = record { frames = open_file.frames; line = line }; path = open_file.path; what = kind }

-- what a line comes to, where its faults are there
abbrev pub placed : {A : Type 0} → OpenFile → ℕ → Result A PpKind → Result A PpFault
placed open_file line (Ok x) = Ok x
placed open_file line (Err kind) = Err (fault_at open_file line kind)

-- that memory ran out, which has no place
abbrev pub ran_out : PpFault
ran_out = record { place = record { frames = []; line = 0 }; path = []; what = NoMemory }
