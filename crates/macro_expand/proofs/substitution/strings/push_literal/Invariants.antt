use Rattle.std.proofs.Common.{◌≡◌, ◌++◌, drop}
use Rattle.std.specs.Prelude.{flat_map}
use Rattle.macro_expand.specs.Substituted.{escaped}
use Rattle.macro_expand.proofs.substitution.strings.push_literal.Given as goal

abbrev pub invariant-loop-byte : goal.invariant-loop-byte
invariant-loop-byte l = l.text.items ++ flat_map escaped (drop l.byte-index l.bytes) ≡ l.fn.text.items ++ flat_map escaped l.bytes
