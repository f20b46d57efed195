use Rattle.std.proofs.Common.{ap, length, arith}
use Rattle.pp_unit.proofs.KeptLemmas.{kept_with}
use Rattle.pp_unit.proofs.event_log.lexed_files.LexedFiles.keep.Goals as goal

pub invariant_of-self-then-long-self : goal.invariant_of-self-then-long-self
invariant_of-self-then-long-self c = (
  kept_with _ c.self.inside.files.entries c.insert.new.self.entries c.args.number _ c.self.inside.kept _ c.in_ok-insert.ensures.was_ordered c.in_ok-insert.ensures.entries
      (ap length c.in_ok-from_slice.ensures.items) c.self.invariant.0,
  omega arith,
)
