use Rattle.std.proofs.Common.{◌∙◌, sym}
use Rattle.std.proofs.lemmas.List.{nil_from_length}
use Rattle.macro_expand.proofs.ParamLemmas.{bound_here, bound_later, bound_end}
use Rattle.macro_expand.proofs.substitution.params.stands_bound.Goals as goal

pub returns-then-is_bound : goal.returns-then-is_bound
returns-then-is_bound c = sym (bound_here c.args.name.now c.loop-token.behind c.in-Some.token.now c.in-Some.rest.now c.loop-token.left.now c.in-Some.ensures.cases.0 (sym c.is_bound.ensures ∙ c.if-is_bound.true)) ∙ c.loop-token.invariant

pub loop-token-preserved : goal.loop-token-preserved
loop-token-preserved c = bound_later c.args.name.now c.loop-token.behind c.in-Some.token.now c.in-Some.rest.now c.loop-token.left.now c.in-Some.ensures.cases.0 (sym c.is_bound.ensures ∙ c.if-is_bound.false) c.is_operator-behind.result c.is_operator-behind.ensures ∙ c.loop-token.invariant

pub returns : goal.returns
returns c = sym (bound_end c.args.name.now c.loop-token.behind c.loop-token.left.now (nil_from_length _ c.in_default.ensures.cases)) ∙ c.loop-token.invariant
