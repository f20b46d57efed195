use Rattle.std.proofs.Common.{List, Some, ap, inr, reverse, subst, sym, ◌∙◌}
use Rattle.std.proofs.lemmas.Result.{err_from_is_err_and}
use Rattle.import_graph.specs.declared.fault.FileFault.{FileFault}
use Rattle.import_graph.specs.declared.node.Node.{Node}
use Rattle.import_graph.specs.declared.unit.OpenUnit.{OpenUnit}
use Rattle.import_graph.specs.Nodes.{count_at}
use Rattle.import_graph.specs.Progress.{IsFaultFrom, Imported, Stands}
use Rattle.import_graph.proofs.StandLemmas.{stands_again, stands_cycle}
use Rattle.import_graph.proofs.WalkStepLemmas.{reverse_push, fault_bars, walk_enters, walk_effort}
use Rattle.import_graph.proofs.walk.Walk.import.Goals as goal

pub returns-in_err-inner-in-None-clause-err : goal.returns-in_err-inner-in-None-clause-err
returns-in_err-inner-in-None-clause-err c =
    let p = err_from_is_err_and c.from_residual-in_err-inner-in-None.result c.from_residual-in_err-inner-in-None.ensures.1 in
    rw (p.1, p.2) (λ s lent root before st turned.
    fault_bars s lent root c.args.self.now before c.args.unit (reverse c.args.self.now.open.items) c.args.at c.args.target c.in_err-inner-in-None.field-0.0 st turned (sym c.visit_at.ensures ∙ c.in-None.is) (c.in_err-inner-in-None.ensures.err s lent st.0 st.1))

pub returns-in-Some-Open-clause-err : goal.returns-in-Some-Open-clause-err
returns-in-Some-Open-clause-err c = λ s lent root before st turned.
    let w = c.args.self.now in
    let is = sym c.visit_at.ensures ∙ c.in-Some-Open.is ∙ ap Some c.in-Some-Open.field-0-is in
    subst (λ (f : FileFault). IsFaultFrom s lent root f) (sym c.fault.ensures)
    (inr (stands_cycle s lent root w.files.paths w.seen w.nodes.items before c.args.unit (reverse w.open.items) c.args.at c.args.target st.2 (turned.1 w.files.paths st.2.are_open.0.fits) is))

pub returns-in_ok-push-in-Some-Done-clause-ok : goal.returns-in_ok-push-in-Some-Done-clause-ok
returns-in_ok-push-in-Some-Done-clause-ok c = λ s lent root before st turned.
    let w = c.args.self.now in
    let id = c.in-Some-Done.id in
    let takes = c.in_ok-import-in-Some-Done.ensures in
    let is = sym c.visit_at.ensures ∙ c.in-Some-Done.is ∙ ap Some c.in-Some-Done.field-0-is in
    let counts = c.count_at.ensures ∙ ap (λ (ns : List Node). count_at ns id.index) c.as_slice.ensures.value in
    let imported : Imported id (count_at w.nodes.items id.index) c.args.unit c.import.new.self =
    subst (λ n. Imported id n c.args.unit c.import.new.self) counts (record { links = takes.links; count = takes.count; same = takes.same; place = takes.place; files = takes.files }) in (
      st.0,
      st.1,
      subst (λ (us : List OpenUnit). Stands s lent root w.files.paths w.seen w.nodes.items us) (sym (reverse_push w.open.items c.push.new.self.items c.import.new.self c.in_ok-push-in-Some-Done.ensures.items))
          (stands_again s lent root w.files.paths w.seen w.nodes.items before c.args.unit c.import.new.self (reverse w.open.items) c.args.at c.args.target id st.2 turned.0 (turned.1 w.files.paths st.2.are_open.0.fits) imported is),
    )

pub returns-in_ok-push-in-None-2-clause-ok : goal.returns-in_ok-push-in-None-2-clause-ok
returns-in_ok-push-in-None-2-clause-ok c = λ s lent root before st turned.
    walk_enters s lent root c.args.self.now c.enter.new.self before c.args.unit c.in_ok-inner-in-None.inner c.args.at c.args.target c.push-in-None.new.self.items c.push-in-None-2.new.self.items st turned
    (sym c.visit_at.ensures ∙ c.in-None.is) c.in_ok-inner-in-None.ensures.entered (c.in_ok-inner-in-None.ensures.begun s lent st.0 st.1) c.in_ok-push-in-None.ensures.items c.in_ok-push-in-None-2.ensures.items

pub returns-in_ok-push-in-None-2-clause-no_more : goal.returns-in_ok-push-in-None-2-clause-no_more
returns-in_ok-push-in-None-2-clause-no_more c =
    walk_effort c.args.self.now c.enter.new.self c.args.unit c.in_ok-inner-in-None.inner c.args.target c.push-in-None.new.self.items c.push-in-None-2.new.self.items c.requires
    (sym c.visit_at.ensures ∙ c.in-None.is) c.in_ok-inner-in-None.ensures.entered c.in_ok-inner-in-None.ensures.inside c.in_ok-push-in-None.ensures.items c.in_ok-push-in-None-2.ensures.items
