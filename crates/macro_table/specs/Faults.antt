-- How a fault of tokens or of a definition is one of a text.
use Rattle.pp_tokens.specs.declared.fault.LexFault.{LexFault}
use Rattle.pp_tokens.specs.declared.fault.LexFault.TheVariants.{NulByte, OpenComment}
use Rattle.pp_tokens.specs.declared.fault.LexFault.TheVariants.{NoMemory as LexRanOut}
use Rattle.macro_table.specs.declared.fault.DefFault.{DefFault}
use Rattle.macro_table.specs.declared.fault.DefFault.TheVariants.{NoMemory as DefRanOut}
use Rattle.macro_table.specs.declared.fault.TextFault.{TextFault}
use Rattle.macro_table.specs.declared.fault.TextFault.TheVariants.{Lex, Def, NoMemory}

-- a fault of tokens; want of memory stays want of memory
abbrev pub lex_fault : LexFault → TextFault
lex_fault (NulByte line) = Lex (NulByte line)
lex_fault (OpenComment line) = Lex (OpenComment line)
lex_fault LexRanOut = NoMemory

-- a fault of a definition; want of memory stays want of memory
abbrev pub def_fault : DefFault → TextFault
def_fault DefRanOut = NoMemory
def_fault fault = Def fault
