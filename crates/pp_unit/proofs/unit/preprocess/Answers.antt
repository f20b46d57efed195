use Rattle.std.proofs.Common.{refl, sym, ◌∙◌, Err}
use Rattle.pp_unit.specs.Definitions.{all_commanded, predefined}
use Rattle.pp_unit.proofs.CauseLemmas.{no_cause, as_failed, plain_answers}
use Rattle.pp_unit.proofs.FileLemmas.{refused_what, file_failed, stop_failed}
use Rattle.pp_unit.proofs.UnitLemmas.{begin_fails, unit_ends, unit_stops, plain_commands}
use Rattle.pp_unit.proofs.unit.preprocess.Goals as goal

pub returns-in-Err-clause-walked : goal.returns-in-Err-clause-walked
returns-in-Err-clause-walked g c = begin_fails (g.P.Headers.stores c.args.path.now) c.args.spec.now c.outside-outer.result c.in-Err.what c.refuse.result c.outside-outer.ensures c.in-Err.ensures c.refuse.ensures

pub returns-in-Err-clause-cause : goal.returns-in-Err-clause-cause
returns-in-Err-clause-cause g c =
    no_cause _ _ _ refl (λ failed. plain_answers (Err c.in-Err.what) (all_commanded predefined c.args.spec.now.commands) (plain_commands predefined c.args.spec.now.commands) c.in-Err.ensures
    (sym (refused_what c.outside-outer.result 0 c.in-Err.what c.refuse.result c.refuse.ensures) ∙ failed))

pub returns-in-Ok-walk_primary-clause-walked : goal.returns-in-Ok-walk_primary-clause-walked
returns-in-Ok-walk_primary-clause-walked g c =
    unit_ends (g.P.Headers.stores c.args.path.now) c.args.spec.now c.outside-outer.result c.in-Ok.log c.in-Ok-walk_primary.log c.into_events.result c.outside-outer.ensures c.in-Ok.ensures c.in-Ok-walk_primary.ensures.walked c.into_events.ensures

pub returns-in-Ok-walk_primary-clause-cause : goal.returns-in-Ok-walk_primary-clause-cause
returns-in-Ok-walk_primary-clause-cause g c = c.in-Ok-walk_primary.ensures.cause

pub returns-in-Err-walk_primary-clause-walked : goal.returns-in-Err-walk_primary-clause-walked
returns-in-Err-walk_primary-clause-walked g c =
    unit_stops (g.P.Headers.stores c.args.path.now) c.args.spec.now c.outside-outer.result c.in-Ok.log c.in-Err-walk_primary.stop c.stop.result c.outside-outer.ensures c.in-Ok.ensures c.in-Err-walk_primary.ensures.walked c.stop.ensures

pub returns-in-Err-walk_primary-clause-cause : goal.returns-in-Err-walk_primary-clause-cause
returns-in-Err-walk_primary-clause-cause g c =
    as_failed _ _ _ _ (file_failed c.outside-outer.result c.in-Err-walk_primary.stop c.stop.result c.stop.ensures) (stop_failed c.outside-outer.result c.in-Err-walk_primary.stop c.stop.result c.stop.ensures) c.in-Err-walk_primary.ensures.cause
