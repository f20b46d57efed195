use Rattle.std.proofs.Common.{◌≡◌, List, ℕ, ◌++◌, length}
use Rattle.mac_io.specs.Calls.{grown}
use Rattle.dwmac_run.proofs.printing.write_lines.Given as goal

abbrev pub invariant-loop-rest : goal.invariant-loop-rest
invariant-loop-rest g l = record {
  written : (front : List ℕ) × (l.fn.text ≡ front ++ l.rest) × (g.O.Sink.text l.out ≡ grown (g.O.Sink.text l.fn.out) front);
  kept : g.O.Sink.count l.out ≡ g.O.Sink.count l.fn.out;
}

abbrev pub decreases-loop-rest : goal.decreases-loop-rest
decreases-loop-rest g l = length l.rest
