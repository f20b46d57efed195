use Rattle.std.proofs.Common.{◌≡◌, refl, ap, sym, ◌∙◌, arith}
use Rattle.section_views.specs.declared.header.SectionHeader.{SectionHeader}
use Rattle.section_views.specs.SectionTable.{header_at}
use Rattle.section_views.proofs.Firsts.{range_fault-inside}
use Rattle.section_views.proofs.checks.string_table.Goals as goal

pub contents-requires-clause-inside : goal.contents-requires-clause-inside
contents-requires-clause-inside c =
    let kind : (header_at c.args.table.now c.names_number-n.result).kind ≡ 3 = ap (λ (s : SectionHeader). s.kind) (sym c.header.ensures) ∙ c.if-header-ne-SHT_STRTAB.false in
    range_fault-inside c.args.table.now c.names_number-n.result c.requires (omega arith) (omega arith) (rw kind refl)
