use Rattle.std.proofs.Common.{List, ap, sym, ◌∙◌}
use Rattle.unit_header.specs.Rows.{Row, listed_forms}
use Rattle.unit_header.proofs.RowLemmas.{rows_from-next, listed_forms-other}
use Rattle.unit_header.proofs.operands.forms_in.Goals as goal

pub loop-preserved : goal.loop-preserved
loop-preserved c =
    let next = rows_from-next c.args.count c.loop.counter c.loop.rows c.loop-test.true in
    sym (ap (λ (rows : List Row). listed_forms rows c.args.opcode) next ∙ listed_forms-other c.args.opcode _ c.read_row.new.cursor _ _ c.in-Ok.ensures c.if-listed-opcode.false) ∙ c.loop.invariant
