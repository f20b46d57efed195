use Rattle.std.proofs.Common.{◌≡◌, ◌-◌, ◌≤◌, length, Some, reverse, sym, ap, ◌∙◌, arith}
use Rattle.std.specs.Prelude.{slice_get}
use Rattle.pp_directives.specs.OperandContexts.{meanings, tightness, reduced}
use Rattle.pp_directives.proofs.OperandContextLemmas.{popped, reduced-closes}
use Rattle.pp_directives.proofs.expression.operand_context.reduce.Goals as goal

pub loop-context-preserved : goal.loop-context-preserved
loop-context-preserved c =
    let context = c.in-Some.context in let items = c.loop-context.contexts.items in let front = c.pop.new.self.items in let pull = c.args.pull in
    let seen : Some context ≡ slice_get items (length items - 1) =
    c.in-Some.ensures ∙ c.last.ensures.value ∙ ap (λ xs. slice_get xs (length xs - 1)) c.deref.ensures.value in
    let last = popped items front c.pop.result context c.loop-context.contexts.len c.loop-context.contexts.ok.0 c.pop.ensures.items (c.pop.ensures.value context) seen in
    let tight : pull ≤ tightness context = omega (arith, c.tightness.ensures) in
    ap (reduced meanings pull (reverse front)) c.closed-operand.ensures
    ∙ sym (reduced-closes meanings pull context (reverse front) c.loop-context.operand tight)
    ∙ sym (ap (λ fs. reduced meanings pull fs c.loop-context.operand) last)
    ∙ c.loop-context.invariant
