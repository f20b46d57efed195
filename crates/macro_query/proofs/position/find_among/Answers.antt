use Rattle.std.proofs.Common.{◌≡◌, Some, None, inr, sym}
use Rattle.std.specs.Prelude.{slice_get}
use Rattle.mac_base.specs.SectionBytes.{bytes_of}
use Rattle.macro_query.specs.Scopes.{ChainLeads, NamedLeads, PositionLeads}
use Rattle.macro_query.proofs.PositionLemmas.{chain_at, named_at, unit_missing, ok_more, err_more, finds_more}
use Rattle.macro_query.proofs.position.find_among.Goals as goal
use Rattle.macro_query.proofs.position.find_among.Goals.{After-find_chain, In-None}

there : (c : After-find_chain) → slice_get c.args.roots.now c.in-Chain.unit ≡ Some c.in-Some.root.now
there c = sym c.in-Some.ensures

pub returns-in-Some-clause-ok : goal.returns-in-Some-clause-ok
returns-in-Some-clause-ok c =
    let s = bytes_of c.args.s.now in
    ok_more c.find_chain.result _ _ (λ found. finds_more found.graph found.file found.line found.table (ChainLeads (Some c.in-Some.root.now) c.as_slice.result.now c.in-Chain.line s) (PositionLeads c.args.position.now s c.args.roots.now)
    (chain_at s c.args.roots.now c.in-Some.root.now c.args.position.now c.in-Chain.unit c.in-Chain.line c.in-Chain.lines c.as_slice.result.now c.in-Chain.is (there c) c.as_slice.ensures)) c.find_chain.ensures.ok

pub returns-in-Some-clause-err : goal.returns-in-Some-clause-err
returns-in-Some-clause-err c =
    let s = bytes_of c.args.s.now in
    err_more c.find_chain.result (ChainLeads (Some c.in-Some.root.now) c.as_slice.result.now c.in-Chain.line s) (PositionLeads c.args.position.now s c.args.roots.now)
    (chain_at s c.args.roots.now c.in-Some.root.now c.args.position.now c.in-Chain.unit c.in-Chain.line c.in-Chain.lines c.as_slice.result.now c.in-Chain.is (there c) c.as_slice.ensures) c.find_chain.ensures.err

missing : (c : In-None) → slice_get c.args.roots.now c.in-Chain.unit ≡ None
missing c = sym c.in-None.ensures

pub returns-in-None-clause-err : goal.returns-in-None-clause-err
returns-in-None-clause-err c = inr (unit_missing (bytes_of c.args.s.now) c.args.roots.now c.args.position.now c.in-Chain.unit c.in-Chain.line c.in-Chain.lines c.in-Chain.is (missing c))

pub returns-in-Named-clause-ok : goal.returns-in-Named-clause-ok
returns-in-Named-clause-ok c =
    let s = bytes_of c.args.s.now in
    ok_more c.find_named.result _ _ (λ found. finds_more found.graph found.file found.line found.table (NamedLeads c.as_slice-in-Named.result.now c.in-Named.line s c.args.roots.now) (PositionLeads c.args.position.now s c.args.roots.now)
    (named_at s c.args.roots.now c.args.position.now c.in-Named.line c.in-Named.path c.as_slice-in-Named.result.now c.in-Named.is c.as_slice-in-Named.ensures)) c.find_named.ensures.ok

pub returns-in-Named-clause-err : goal.returns-in-Named-clause-err
returns-in-Named-clause-err c =
    let s = bytes_of c.args.s.now in
    err_more c.find_named.result (NamedLeads c.as_slice-in-Named.result.now c.in-Named.line s c.args.roots.now) (PositionLeads c.args.position.now s c.args.roots.now)
    (named_at s c.args.roots.now c.args.position.now c.in-Named.line c.in-Named.path c.as_slice-in-Named.result.now c.in-Named.is c.as_slice-in-Named.ensures) c.find_named.ensures.err
