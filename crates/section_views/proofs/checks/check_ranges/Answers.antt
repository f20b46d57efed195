use Rattle.std.proofs.Common.{length, sym, ◌∙◌, arith}
use Rattle.section_views.specs.declared.fault.ElfFault.TheVariants.{Range}
use Rattle.section_views.specs.SectionTable.{header_at, is_outside}
use Rattle.section_views.specs.Faults.{range_fault}
use Rattle.section_views.proofs.Finding.{find_none_more}
use Rattle.section_views.proofs.Firsts.{at_first-hit}
use Rattle.section_views.proofs.checks.check_ranges.Goals as goal

pub returns-then-is_outside : goal.returns-then-is_outside
unfolding range_fault
returns-then-is_outside c =
    sym (at_first-hit c.args.table.now (is_outside (length c.args.table.now)) (λ n. Range n) c.loop-n.n (omega arith) (omega arith) c.loop-n.invariant (sym c.is_outside.ensures ∙ c.if-is_outside.true))

pub loop-n-preserved : goal.loop-n-preserved
loop-n-preserved c =
    find_none_more (header_at c.args.table.now) (is_outside (length c.args.table.now)) c.loop-n.n (omega arith) c.loop-n.invariant (sym c.is_outside.ensures ∙ c.if-is_outside.false)
