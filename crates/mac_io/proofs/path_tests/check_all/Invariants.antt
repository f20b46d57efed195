use Rattle.std.proofs.Common.{◌≡◌}
use Rattle.mac_io.proofs.path_tests.check_all.Given as goal

abbrev pub invariant-loop-case : goal.invariant-loop-case
invariant-loop-case g l = g.P.Headers.stores l.path ≡ g.P.Headers.stores l.fn.path
