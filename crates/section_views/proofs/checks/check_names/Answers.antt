use Rattle.std.proofs.Common.{sym, ◌∙◌, arith}
use Rattle.section_views.specs.declared.fault.ElfFault.TheVariants.{Name}
use Rattle.section_views.specs.SectionTable.{header_at}
use Rattle.section_views.specs.Faults.{is_nameless}
use Rattle.section_views.proofs.Finding.{find_none_more}
use Rattle.section_views.proofs.Firsts.{at_first-hit}
use Rattle.section_views.proofs.checks.check_names.Goals as goal

pub returns-then-is_nameless : goal.returns-then-is_nameless
returns-then-is_nameless c =
    sym (at_first-hit c.args.table.now (is_nameless c.args.names.now) Name c.loop-n.n (omega arith) (omega arith) c.loop-n.invariant (sym c.is_nameless.ensures ∙ c.if-is_nameless.true))

pub loop-n-preserved : goal.loop-n-preserved
loop-n-preserved c =
    find_none_more (header_at c.args.table.now) (is_nameless c.args.names.now) c.loop-n.n (omega arith) c.loop-n.invariant (sym c.is_nameless.ensures ∙ c.if-is_nameless.false)
