use Rattle.std.proofs.Common.{◌≡◌, ◌++◌, length, drop, map}
use Rattle.macro_expand.specs.Macros.{params_of}
use Rattle.macro_expand.specs.States.{argument_of}
use Rattle.macro_expand.specs.Slots.{lists}
use Rattle.macro_expand.proofs.LevelMoves.{written_rest}
use Rattle.macro_expand.proofs.rescan.once.written_arguments.Given as goal

abbrev pub invariant-loop-done : goal.invariant-loop-done
invariant-loop-done l = record {
  args : map argument_of l.done.items ++ written_rest l.call.def.value l.next l.count (lists l.slots) ≡ written_rest l.call.def.value l.call.next l.call.count (lists l.fn.slots);
  rest : drop l.count (lists l.slots) ≡ drop l.call.count (lists l.fn.slots);
}

abbrev pub decreases-loop-done : goal.decreases-loop-done
decreases-loop-done l = length (drop l.next (params_of l.call.def.value))
