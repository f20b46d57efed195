use Rattle.std.proofs.Common.{◌≡◌, ◌++◌, ◌+◌, take, sym, ◌∙◌, ap, subst, arith}
use Rattle.pp_tokens.specs.Printing.{Prints}
use Rattle.pp_tokens.proofs.PrintLemmas.{print-next}
use Rattle.pp_tokens.proofs.printing.print_tokens.Goals as goal

pub loop-i-preserved : goal.loop-i-preserved
loop-i-preserved c =
    let tokens = c.as_slice-tokens.result.now in
    let gap = c.in_ok-put_gap.ensures in
    let text : c.extend_from_slice-in-loop-i.new.self.items ≡ c.loop-i.text.items ++ gap.0 ++ c.index-tokens-i.result.text =
    c.in_ok-extend_from_slice-2.ensures.items ∙ ap (λ bs. c.put_gap.new.text.items ++ bs) c.as_slice-in-loop-i.ensures ∙ ap (λ bs. bs ++ c.index-tokens-i.result.text) gap.2 in
    subst (Prints (take (c.loop-i.i + 1) tokens)) (sym text)
    (print-next tokens c.loop-i.i c.loop-i.text.items gap.0 c.index-tokens-i-in-loop-i.result c.index-tokens-i.result (omega arith) (omega arith) c.index-tokens-i-in-loop-i.is c.index-tokens-i.is c.loop-i.invariant gap.1)
