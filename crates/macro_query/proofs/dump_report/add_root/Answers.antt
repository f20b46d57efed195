use Rattle.std.proofs.Common.{List, ℕ, subst}
use Rattle.mac_base.specs.SectionBytes.{bytes_of}
use Rattle.macro_query.proofs.DumpLemmas.{Heads, root_told}
use Rattle.macro_query.proofs.dump_report.add_root.Goals as goal

pub returns-clause-ok : goal.returns-clause-ok
returns-clause-ok c =
    let head = subst (λ (name : List ℕ). Heads c.args.number name c.args.report.now.is_long c.add_head.new.report.is_long c.args.report.now.text.items c.add_head.new.report.text.items) c.as_slice.ensures c.in_ok-add_head.ensures in
    root_told (bytes_of c.args.s.now) c.args.root.now c.args.number c.in_ok-graph.graph _ _ _ _ _ _ c.in_ok-graph.ensures.ok head c.in_ok-add_entries.ensures
