use Rattle.std.proofs.Common.{◌≡◌, ℕ, List, [], ◌∷◌, length, refl, ap, reverse, subst, arith}
use Rattle.std.proofs.lemmas.Result.{err_from_is_err_and}
use Rattle.import_graph.specs.declared.unit.OpenUnit.{OpenUnit}
use Rattle.import_graph.specs.Progress.{Stands}
use Rattle.import_graph.proofs.StandLemmas.{stands_last}
use Rattle.import_graph.proofs.WalkStepLemmas.{reverse_push}
use Rattle.import_graph.proofs.walk.Walk.finish.Goals as goal

none_left : (units : List OpenUnit) (n : ℕ) → n ≡ length units → n ≡ 0 → units ≡ []
none_left [] n long none = refl
none_left (u ∷ units) n long none = absurd (omega arith)

pub loop-unit-preserved : goal.loop-unit-preserved
loop-unit-preserved g c = λ s lent root st.
    let w = c.loop-unit.walk in
    let here = c.loop-unit.invariant s lent root st in
    let taken = reverse_push c.pop.new.self.items w.open.items c.in-Some.unit c.in-Some.ensures.items in
    c.in_ok-turn.ensures.ok s lent root (here.0, here.1, subst (λ (us : List OpenUnit). Stands s lent root w.files.paths w.seen w.nodes.items us) taken here.2)

pub returns-in_err-turn-clause-err : goal.returns-in_err-turn-clause-err
returns-in_err-turn-clause-err g c =
    let w = c.loop-unit.walk in
    let p = err_from_is_err_and c.from_residual.result c.from_residual.ensures.1 in
    let taken = reverse_push c.pop.new.self.items w.open.items c.in-Some.unit c.in-Some.ensures.items in
    rw (p.1, p.2) (λ s lent root st.
    let here = c.loop-unit.invariant s lent root st in
    c.in_err-turn.ensures.err s lent root (here.0, here.1, subst (λ (us : List OpenUnit). Stands s lent root w.files.paths w.seen w.nodes.items us) taken here.2))

pub returns-clause-ok : goal.returns-clause-ok
returns-clause-ok g c = λ s lent root st.
    let w = c.loop-unit.walk in
    let here = c.loop-unit.invariant s lent root st in
    stands_last s lent root w.files.paths w.seen w.nodes.items
    (subst (λ (us : List OpenUnit). Stands s lent root w.files.paths w.seen w.nodes.items us) (ap reverse (none_left w.open.items w.open.len w.open.ok.0 c.in_default.ensures.cases.0)) here.2)
