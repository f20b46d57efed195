use Rattle.std.proofs.Common.{◌≡◌, take}
use Rattle.std.specs.List.{flat_map}
use Rattle.mac_io.specs.Calls.{grown}
use Rattle.dwmac_run.specs.Pieces.{written}
use Rattle.dwmac_run.proofs.printing.write_rest.Given as goal

-- the pieces so far were written, and no call failed
abbrev pub invariant-loop-word : goal.invariant-loop-word
invariant-loop-word g l = record {
  so_far : g.E.Sink.text l.err ≡ grown (g.E.Sink.text l.fn.err) (flat_map written (take l.word-index l.words));
  kept : g.E.Sink.count l.err ≡ g.E.Sink.count l.fn.err;
}
