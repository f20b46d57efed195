use Rattle.std.proofs.Common.{List, Ok, reverse, subst, sym}
use Rattle.std.proofs.lemmas.Result.{err_from_is_err_and}
use Rattle.import_graph.specs.declared.unit.OpenUnit.{OpenUnit}
use Rattle.import_graph.specs.declared.unit.Turn.{Turn}
use Rattle.import_graph.specs.Turns.{TurnSays}
use Rattle.import_graph.specs.Progress.{Stands}
use Rattle.import_graph.proofs.StandLemmas.{stands_passes, stands_stops}
use Rattle.import_graph.proofs.WalkStepLemmas.{reverse_push}
use Rattle.import_graph.proofs.walk.Walk.turn.Goals as goal

pub returns-in_err-turn-clause-err : goal.returns-in_err-turn-clause-err
returns-in_err-turn-clause-err g c =
    let w = c.args.self.now in
    let p = err_from_is_err_and c.from_residual.result c.from_residual.ensures.1 in
    rw (p.1, p.2) (λ s lent root st.
    stands_stops s lent root w.files.paths w.seen w.nodes.items c.args.unit c.turn.new.self (reverse w.open.items) c.in_err-turn.field-0.0 st.2 (c.in_err-turn.ensures.turn s lent w.files.paths st.0 st.2.are_open.0.fits))

pub returns-in_err-import-in-Enters-clause-err : goal.returns-in_err-import-in-Enters-clause-err
returns-in_err-import-in-Enters-clause-err g c =
    let p = err_from_is_err_and c.from_residual-in_err-import-in-Enters.result c.from_residual-in_err-import-in-Enters.ensures.1 in
    rw (p.1, p.2) (λ s lent root st.
    c.in_err-import-in-Enters.ensures.err s lent root c.args.unit st (
      c.turn.ensures.same,
      λ paths fits. subst (λ (t : Turn). TurnSays s lent paths c.args.unit c.turn.new.self (Ok t)) c.in-Enters.is (c.in_ok-turn.ensures.turn s lent paths st.0 fits),
    ))

pub returns-in_ok-push-in-Passes-clause-ok : goal.returns-in_ok-push-in-Passes-clause-ok
returns-in_ok-push-in-Passes-clause-ok g c = λ s lent root st.
    let w = c.args.self.now in
    let says = subst (λ (t : Turn). TurnSays s lent w.files.paths c.args.unit c.turn.new.self (Ok t)) c.in-Passes.is (c.in_ok-turn.ensures.turn s lent w.files.paths st.0 st.2.are_open.0.fits) in (
      st.0,
      st.1,
      subst (λ (us : List OpenUnit). Stands s lent root w.files.paths w.seen w.nodes.items us) (sym (reverse_push w.open.items c.push.new.self.items c.turn.new.self c.in_ok-push-in-Passes.ensures.items))
          (stands_passes s lent root w.files.paths w.seen w.nodes.items c.args.unit c.turn.new.self (reverse w.open.items) st.2 c.turn.ensures.same says),
    )

pub returns-in_ok-import-in-Enters-clause-ok : goal.returns-in_ok-import-in-Enters-clause-ok
returns-in_ok-import-in-Enters-clause-ok g c = λ s lent root st.
    c.in_ok-import-in-Enters.ensures.ok s lent root c.args.unit st (
      c.turn.ensures.same,
      λ paths fits. subst (λ (t : Turn). TurnSays s lent paths c.args.unit c.turn.new.self (Ok t)) c.in-Enters.is (c.in_ok-turn.ensures.turn s lent paths st.0 fits),
    )

pub returns-in_ok-end-in-Ends-clause-ok : goal.returns-in_ok-end-in-Ends-clause-ok
returns-in_ok-end-in-Ends-clause-ok g c = λ s lent root st.
    c.in_ok-end-in-Ends.ensures.ok s lent root c.args.unit st (
      c.turn.ensures.same,
      λ paths fits. subst (λ (t : Turn). TurnSays s lent paths c.args.unit c.turn.new.self (Ok t)) c.in-Ends.is (c.in_ok-turn.ensures.turn s lent paths st.0 fits),
    )
