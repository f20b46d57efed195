-- How faults of parts are faults of a query. Want of memory says nothing of the file.
use Rattle.info_roots.specs.declared.fault.InfoFault.{InfoFault}
use Rattle.info_roots.specs.declared.fault.InfoKind.{InfoKind}
use Rattle.info_roots.specs.declared.fault.InfoKind.TheVariants.{NoMemory as InfoRanOut}
use Rattle.position_table.specs.declared.fault.PosFault.{PosFault}
use Rattle.position_table.specs.declared.fault.PosFault.TheVariants.{NoSuchPosition, NoMemory as PosRanOut}
use Rattle.pp_tokens.specs.declared.fault.LexFault.{LexFault}
use Rattle.pp_tokens.specs.declared.fault.LexFault.TheVariants.{NulByte, OpenComment, NoMemory as LexRanOut}
use Rattle.macro_expand.specs.declared.fault.ExpandFault.{ExpandFault}
use Rattle.macro_expand.specs.declared.fault.ExpandFault.TheVariants.{OpenCall, ArgCount, BadPaste, BadString, BadDefinition, LoneQuote, TooLong, NoMemory as ExpandRanOut}
use Rattle.macro_query.specs.declared.fault.QueryFault.{QueryFault}
use Rattle.macro_query.specs.declared.fault.QueryFault.TheVariants.{Info, Position, Text, Expand, NoMemory as RanOut}

-- by the kind of a fault of `.debug_info`
abbrev pub info_by_kind : InfoKind → InfoFault → QueryFault
info_by_kind InfoRanOut fault = RanOut
info_by_kind _ fault = Info fault

-- a fault of `.debug_info`
abbrev pub info_fault : InfoFault → QueryFault
info_fault fault = info_by_kind fault.what fault

-- a position that is not there
abbrev pub pos_fault : PosFault → QueryFault
pos_fault PosRanOut = RanOut
pos_fault (NoSuchPosition depth) = Position (NoSuchPosition depth)

-- a text that has no tokens
abbrev pub text_fault : LexFault → QueryFault
text_fault (NulByte line) = Text (NulByte line)
text_fault (OpenComment line) = Text (OpenComment line)
text_fault LexRanOut = RanOut

-- a text that has no expansion
abbrev pub expand_fault : ExpandFault → QueryFault
expand_fault (OpenCall name) = Expand (OpenCall name)
expand_fault (ArgCount name got) = Expand (ArgCount name got)
expand_fault (BadPaste left right) = Expand (BadPaste left right)
expand_fault (BadString name) = Expand (BadString name)
expand_fault (BadDefinition name) = Expand (BadDefinition name)
expand_fault LoneQuote = Expand LoneQuote
expand_fault TooLong = Expand TooLong
expand_fault ExpandRanOut = RanOut
