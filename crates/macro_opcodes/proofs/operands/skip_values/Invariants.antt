use Rattle.std.proofs.Common.{◌≡◌, List, drop}
use Rattle.mac_base.specs.Values.{Value}
use Rattle.macro_opcodes.specs.Reading.{values_at}
use Rattle.macro_opcodes.proofs.ListedLemmas.{behind}
use Rattle.macro_opcodes.proofs.operands.skip_values.Given as goal

-- behind the values that were passed, reading the rest is reading all
abbrev pub invariant-loop-code : goal.invariant-loop-code
invariant-loop-code l = (front : List Value) × (behind front (values_at l.sizes (drop l.code-index l.codes) l.cursor) ≡ values_at l.sizes l.codes l.fn.cursor)
