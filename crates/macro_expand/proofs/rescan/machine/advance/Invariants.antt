use Rattle.std.proofs.Common.{◌≡◌, ◌≤◌, length, drop}
use Rattle.macro_expand.specs.declared.here.Here.{Here}
use Rattle.macro_expand.specs.Macros.{Macros, params_of}
use Rattle.macro_expand.specs.Expansion.{limit}
use Rattle.macro_expand.specs.Machine.{replacing, replacing_size}
use Rattle.macro_expand.proofs.rescan.machine.advance.Given as goal

abbrev pub invariant-loop-done : goal.invariant-loop-done
invariant-loop-done l = record {
  same : (macros : Macros) (here : Here) → replacing macros here l.machine l.call l.done.items ≡ replacing macros here l.fn.machine l.fn.call l.fn.done.items;
  less : replacing_size l.machine l.call ≤ replacing_size l.fn.machine l.fn.call;
  work : l.machine.work ≤ limit;
}

abbrev pub decreases-loop-done : goal.decreases-loop-done
decreases-loop-done l = length (drop l.call.next (params_of l.call.def.value))
