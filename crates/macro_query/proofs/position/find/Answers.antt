use Rattle.mac_base.specs.SectionBytes.{bytes_of}
use Rattle.macro_query.specs.Roots.{RootsSay}
use Rattle.macro_query.specs.Scopes.{PositionLeads}
use Rattle.macro_query.specs.Queries.{LeadsTo}
use Rattle.macro_query.proofs.QueryLemmas.{sections_pass, sections_fail}
use Rattle.macro_query.proofs.PositionLemmas.{Fails, err_by, ok_more, err_more, finds_more}
use Rattle.macro_query.proofs.position.find.Goals as goal

pub returns-in_err-s-clause-err : goal.returns-in_err-s-clause-err
returns-in_err-s-clause-err c =
    err_by _ _ (Fails (LeadsTo c.args.position.now c.args.file.now)) c.from_residual.ensures.1 (sections_fail (RootsSay (PositionLeads c.args.position.now)) c.args.file.now _ c.in_err-s.ensures.err)

pub returns-clause-ok : goal.returns-clause-ok
returns-clause-ok c =
    let leads = RootsSay (PositionLeads c.args.position.now) in
    ok_more c.find_in.result _ _ (λ found. finds_more found.graph found.file found.line found.table (leads (bytes_of c.in_ok-s.s)) (LeadsTo c.args.position.now c.args.file.now)
    (sections_pass leads c.args.file.now (bytes_of c.in_ok-s.s) c.in_ok-s.ensures.ok)) c.find_in.ensures.ok

pub returns-clause-err : goal.returns-clause-err
returns-clause-err c =
    let leads = RootsSay (PositionLeads c.args.position.now) in
    err_more c.find_in.result (leads (bytes_of c.in_ok-s.s)) (LeadsTo c.args.position.now c.args.file.now)
    (sections_pass leads c.args.file.now (bytes_of c.in_ok-s.s) c.in_ok-s.ensures.ok) c.find_in.ensures.err
