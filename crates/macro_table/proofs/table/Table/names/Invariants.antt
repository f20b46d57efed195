use Rattle.std.proofs.Common.{◌≡◌, map}
use Rattle.macro_table.proofs.table.Table.names.Given as goal

abbrev pub invariant-loop-name : goal.invariant-loop-name
invariant-loop-name l = l.names ≡ map (λ k. k.now.items) l.yielded
