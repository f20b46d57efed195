use Rattle.std.proofs.Common.{List, ℕ, sym, ap, ◌∙◌, arith}
use Rattle.section_views.specs.declared.fault.ElfFault.TheVariants.{Compressed}
use Rattle.section_views.specs.SectionTable.{header_at, sections_of}
use Rattle.section_views.specs.Family.{is_compressed_family}
use Rattle.section_views.specs.Faults.{compression_fault, at_first}
use Rattle.section_views.proofs.Finding.{find_none_more}
use Rattle.section_views.proofs.Firsts.{at_first-hit}
use Rattle.section_views.proofs.checks.check_compression.Goals as goal

pub returns-then-is_compressed_family : goal.returns-then-is_compressed_family
unfolding compression_fault
returns-then-is_compressed_family c =
    sym (ap (λ (names : List ℕ). at_first (is_compressed_family names) (λ n. Compressed n) (sections_of c.args.table.now)) (sym c.requires)
    ∙ at_first-hit c.args.table.now (is_compressed_family c.args.names.now) (λ n. Compressed n) c.loop-n.n (omega arith) (omega arith) c.loop-n.invariant (sym c.is_compressed_family.ensures ∙ c.if-is_compressed_family.true))

pub loop-n-preserved : goal.loop-n-preserved
loop-n-preserved c =
    find_none_more (header_at c.args.table.now) (is_compressed_family c.args.names.now) c.loop-n.n (omega arith) c.loop-n.invariant (sym c.is_compressed_family.ensures ∙ c.if-is_compressed_family.false)
