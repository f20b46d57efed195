use Rattle.std.proofs.Common.{List, length, refl, reverse, subst, sym, ◌∙◌}
use Rattle.import_graph.specs.declared.node.Node.{Node}
use Rattle.import_graph.specs.declared.walk.Visit.TheVariants.{Done}
use Rattle.import_graph.specs.Progress.{Stands}
use Rattle.import_graph.proofs.StandLemmas.{stands_ends}
use Rattle.import_graph.proofs.MeasureLemmas.{unseen_kept, effort_ended}
use Rattle.import_graph.proofs.walk.Walk.end.Goals as goal

pub returns-clause-ok : goal.returns-clause-ok
returns-clause-ok c = λ s lent root before st turned.
    let w = c.args.self.now in
    let unit = c.args.unit in (
      st.0,
      st.1,
      subst (λ (ns : List Node). Stands s lent root w.files.paths c.insert.new.self ns (reverse c.resume.new.waiting.items)) (sym c.in_ok-push.ensures.items)
          (stands_ends s lent root w.files.paths w.seen c.insert.new.self w.nodes.items (record { links = unit.links; count = unit.count }) before unit (reverse w.open.items) (reverse c.resume.new.waiting.items) (record { index = c.len.result }) st.2 turned.0 (turned.1 w.files.paths st.2.are_open.0.fits) refl refl
          (c.len.ensures ∙ w.nodes.ok.0) c.in_ok-resume.ensures.ok c.in_ok-insert.ensures.updates.0),
    )

pub returns-clause-no_more : goal.returns-clause-no_more
returns-clause-no_more c =
    let w = c.args.self.now in
    let n = length w.lookup.macros.now in
    effort_ended n w.seen c.insert.new.self w.open.items c.resume.new.waiting.items c.args.unit (unseen_kept w.seen c.insert.new.self c.args.unit.at (Done (record { index = c.len.result })) n c.in_ok-insert.ensures.updates.0) c.in_ok-resume.ensures.sum
