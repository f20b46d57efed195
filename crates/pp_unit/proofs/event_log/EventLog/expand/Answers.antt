use Rattle.std.proofs.Common.{subst, ◌∙◌, ap}
use Rattle.macro_expand.specs.Answering.{IsAnswer}
use Rattle.macro_expand.specs.Rules.{ExpandsTo}
use Rattle.macro_expand.specs.Macros.{Macros}
use Rattle.pp_unit.specs.Seen.{macros}
use Rattle.pp_unit.proofs.EventLogLemmas.{same_macros}
use Rattle.pp_unit.proofs.event_log.EventLog.expand.Goals as goal

pub returns : goal.returns
returns c =
    let same = same_macros c.self.inside.table _ c.self.invariant.texts in
    subst (λ (m : Macros). IsAnswer (ExpandsTo m c.args.here.now c.args.tokens.now) c.expand.result) (same ∙ ap macros c.self.view_is) c.expand.ensures.exact
