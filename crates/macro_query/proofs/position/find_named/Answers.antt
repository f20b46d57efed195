use Rattle.std.proofs.Common.{◌∷◌, List, refl, subst, sym, ◌∙◌, inr}
use Rattle.std.proofs.lemmas.List.{nil_from_length}
use Rattle.info_roots.specs.declared.root.Root.{Root}
use Rattle.mac_base.specs.SectionBytes.{bytes_of}
use Rattle.macro_query.specs.Scopes.{NamedLeads}
use Rattle.macro_query.proofs.PositionLemmas.{Fails, Passes, err_by, named_found, named_next, named_fails, named_missing}
use Rattle.macro_query.proofs.position.find_named.Goals as goal
use Rattle.macro_query.proofs.position.find_named.Goals.{In-Some}

passes : (c : In-Some) → Passes (bytes_of c.args.s.now) c.args.path.now c.args.line c.args.roots.now (c.in-Some.root.now ∷ c.in-Some.behind.now)
passes c = subst (λ (left : List Root). Passes (bytes_of c.args.s.now) c.args.path.now c.args.line c.args.roots.now left) c.in-Some.ensures.cases.0 c.loop-root.invariant

pub returns-in_err-graph-clause-err : goal.returns-in_err-graph-clause-err
returns-in_err-graph-clause-err c =
    let s = bytes_of c.args.s.now in
    err_by _ _ (Fails (NamedLeads c.args.path.now c.args.line s c.args.roots.now)) c.from_residual.ensures.1
    (named_fails s c.args.path.now c.args.line c.args.roots.now c.in-Some.root.now c.in-Some.behind.now _ (passes (goal.at.returns-in_err-graph-clause-err c).In-Some) c.in_err-graph.ensures.err)

pub returns-in-Some-2-clause-ok : goal.returns-in-Some-2-clause-ok
returns-in-Some-2-clause-ok c =
    named_found (bytes_of c.args.s.now) c.args.path.now c.args.line c.args.roots.now c.in-Some.root.now c.in-Some.behind.now c.in_ok-graph.graph c.in-Some-2.start c.in_ok-file.field-0.file c.in_ok-file.field-0.table
    (passes (goal.at.returns-in-Some-2-clause-ok c).In-Some) c.in_ok-graph.ensures.ok (sym c.in_ok-start.ensures ∙ c.in-Some-2.is) c.in_ok-file.ensures.file c.in_ok-file.ensures.table

pub loop-root-preserved : goal.loop-root-preserved
loop-root-preserved c =
    named_next (bytes_of c.args.s.now) c.args.path.now c.args.line c.args.roots.now c.in-Some.root.now c.in-Some.behind.now c.in_ok-graph.graph
    (passes (goal.at.loop-root-preserved c).In-Some) c.in_ok-graph.ensures.ok (sym c.in_ok-start.ensures ∙ c.in_default-2.is)

pub returns-clause-err : goal.returns-clause-err
returns-clause-err c =
    let s = bytes_of c.args.s.now in
    inr (named_missing s c.args.path.now c.args.line c.args.roots.now
    (subst (λ (left : List Root). Passes s c.args.path.now c.args.line c.args.roots.now left) (nil_from_length c.loop-root.left.now c.in_default.ensures.cases) c.loop-root.invariant))
