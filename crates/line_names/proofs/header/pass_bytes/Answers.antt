use Rattle.std.proofs.Common.{◌≡◌, ◌+◌, ◌-◌, sym, ◌∙◌, arith}
use Rattle.line_names.proofs.RepeatLemmas.{passed_more}
use Rattle.line_names.proofs.header.pass_bytes.Goals as goal

pub loop-index-preserved : goal.loop-index-preserved
loop-index-preserved c =
    let less : c.args.count - (c.loop-index._index + 1) ≡ c.args.count - c.loop-index._index - 1 = omega arith in
    rw less (sym (passed_more _ _ _ _ (omega arith) c.in_ok-u8.ensures) ∙ c.loop-index.invariant)
