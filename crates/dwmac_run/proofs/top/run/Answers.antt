use Rattle.dwmac_run.specs.Outcome.{answer_of}
use Rattle.dwmac_run.proofs.AnswerLemmas.{answered, only, stays, ends_since}
use Rattle.dwmac_run.proofs.top.run.Goals as goal

pub returns-clause-answered : goal.returns-clause-answered
returns-clause-answered g c =
    answered c.args.words.now _ _ (answer_of c.perform-outcome.result) c.finish.result _ _ c.requires c.perform-outcome.ensures.answer
    (ends_since (answer_of c.perform-outcome.result) c.finish.result _ _ _ _ _ _ _ c.perform-outcome.ensures.same c.perform-outcome.ensures.cause.shelf_later c.finish.ensures.ends)

pub returns-clause-only : goal.returns-clause-only
returns-clause-only g c told =
    only c.args.words.now _ (g.P.Headers.stores c.args.path.now) (answer_of c.perform-outcome.result) c.finish.result _ _ c.requires told c.perform-outcome.ensures.answer
    (ends_since (answer_of c.perform-outcome.result) c.finish.result _ _ _ _ _ _ _ c.perform-outcome.ensures.same c.perform-outcome.ensures.cause.shelf_later c.finish.ensures.ends)

pub returns-clause-files : goal.returns-clause-files
returns-clause-files g c nothing = stays c.args.words.now _ _ c.finish.result _ _ nothing (returns-clause-answered g c)
