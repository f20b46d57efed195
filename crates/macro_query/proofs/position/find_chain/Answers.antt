use Rattle.mac_base.specs.SectionBytes.{bytes_of}
use Rattle.std.specs.Prelude.{Some}
use Rattle.macro_query.specs.Faults.{pos_fault}
use Rattle.macro_query.specs.Scopes.{ChainLeads}
use Rattle.macro_query.proofs.PositionLemmas.{Fails, err_by, chain_found, chain_stops, chain_fails}
use Rattle.macro_query.proofs.position.find_chain.Goals as goal

pub returns-in_err-graph-clause-err : goal.returns-in_err-graph-clause-err
returns-in_err-graph-clause-err c =
    let s = bytes_of c.args.s.now in
    err_by _ _ (Fails (ChainLeads (Some c.args.root.now) c.args.lines.now c.args.line s)) c.from_residual.ensures.1
    (chain_fails s c.args.root.now c.args.lines.now c.args.line _ c.in_err-graph.ensures.err)

pub returns-in_err-spot-clause-err : goal.returns-in_err-spot-clause-err
returns-in_err-spot-clause-err c =
    let s = bytes_of c.args.s.now in
    err_by _ (pos_fault c.in_err-spot.field-0.0) (Fails (ChainLeads (Some c.args.root.now) c.args.lines.now c.args.line s)) c.from_residual-in_err-spot.ensures.1
    (chain_stops s c.args.root.now c.in_ok-graph.graph c.args.lines.now c.args.line c.in_err-spot.field-0.0 c.in_ok-graph.ensures.ok c.in_err-spot.ensures)

pub returns-clause-ok : goal.returns-clause-ok
returns-clause-ok c =
    chain_found (bytes_of c.args.s.now) c.args.root.now c.in_ok-graph.graph c.args.lines.now c.args.line c.in_ok-spot.spot c.in_ok-file.field-0.file c.in_ok-file.field-0.table c.in_ok-graph.ensures.ok c.in_ok-spot.ensures c.in_ok-file.ensures.file c.in_ok-file.ensures.table
