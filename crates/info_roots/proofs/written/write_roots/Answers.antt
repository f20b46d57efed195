use Rattle.std.proofs.Common.{◌∙◌}
use Rattle.info_roots.proofs.BodyLemmas.{unit_within, written_more, written_all}
use Rattle.info_roots.proofs.written.write_roots.Goals as goal

pub push_unit-requires-clause-small : goal.push_unit-requires-clause-small
push_unit-requires-clause-small c = unit_within c.args.roots.now c.loop-root.root-index c.root-item.result c.loop-root-test.true c.root-item.is c.requires.small

pub loop-root-preserved : goal.loop-root-preserved
loop-root-preserved c =
    written_more c.loop-root.info.items c.push_unit.new.into.items c.args.roots.now c.loop-root.root-index c.root-item.result c.loop-root-test.true c.root-item.is c.in_ok-push_unit.ensures c.loop-root.invariant

pub returns-clause-info : goal.returns-clause-info
returns-clause-info c = c.from_vec.ensures ∙ written_all c.loop-root.info.items c.args.roots.now c.loop-root.root-index c.loop-root-test.false c.loop-root.invariant
