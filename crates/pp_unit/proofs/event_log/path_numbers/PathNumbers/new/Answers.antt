use Rattle.pp_unit.proofs.KnownLemmas.{numbered_none}
use Rattle.pp_unit.proofs.event_log.path_numbers.PathNumbers.new.Goals as goal

pub invariant_of-result : goal.invariant_of-result
invariant_of-result c = numbered_none (λ k. k.items) c.new-2.result.entries c.new.result c.new-2.ensures.empty c.new.ensures
