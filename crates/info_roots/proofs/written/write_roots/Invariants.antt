use Rattle.std.proofs.Common.{◌≡◌, ◌++◌, drop}
use Rattle.info_roots.specs.Written.{info_bytes}
use Rattle.info_roots.proofs.written.write_roots.Given as goal

abbrev pub invariant-loop-root : goal.invariant-loop-root
invariant-loop-root l = l.info.items ++ info_bytes (drop l.root-index l.roots) ≡ info_bytes l.roots
