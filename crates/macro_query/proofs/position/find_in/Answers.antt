use Rattle.mac_base.specs.SectionBytes.{bytes_of}
use Rattle.macro_query.specs.Roots.{RootsSay}
use Rattle.macro_query.specs.Scopes.{PositionLeads}
use Rattle.macro_query.proofs.QueryLemmas.{roots_pass, roots_fail}
use Rattle.macro_query.proofs.PositionLemmas.{Fails, err_by, ok_more, err_more, finds_more}
use Rattle.macro_query.proofs.position.find_in.Goals as goal

pub returns-in_err-roots-clause-err : goal.returns-in_err-roots-clause-err
returns-in_err-roots-clause-err c =
    let s = bytes_of c.args.s.now in
    err_by _ _ (Fails (RootsSay (PositionLeads c.args.position.now) s)) c.from_residual.ensures.1 (roots_fail (PositionLeads c.args.position.now) s _ c.in_err-roots.ensures.err)

pub returns-clause-ok : goal.returns-clause-ok
returns-clause-ok c =
    let s = bytes_of c.args.s.now in
    let leads = PositionLeads c.args.position.now in
    ok_more c.find_among.result _ _ (λ found. finds_more found.graph found.file found.line found.table (leads s c.as_slice.result.now) (RootsSay leads s)
    (roots_pass leads s c.in_ok-roots.roots.items c.as_slice.result.now c.in_ok-roots.ensures.ok c.as_slice.ensures.value)) c.find_among.ensures.ok

pub returns-clause-err : goal.returns-clause-err
returns-clause-err c =
    let s = bytes_of c.args.s.now in
    let leads = PositionLeads c.args.position.now in
    err_more c.find_among.result (leads s c.as_slice.result.now) (RootsSay leads s)
    (roots_pass leads s c.in_ok-roots.roots.items c.as_slice.result.now c.in_ok-roots.ensures.ok c.as_slice.ensures.value) c.find_among.ensures.err
