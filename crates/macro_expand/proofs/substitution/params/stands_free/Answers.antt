use Rattle.std.proofs.Common.{◌∙◌, sym}
use Rattle.std.proofs.lemmas.List.{nil_from_length}
use Rattle.macro_expand.proofs.ParamLemmas.{free_here, free_later, free_end}
use Rattle.macro_expand.proofs.substitution.params.stands_free.Goals as goal

pub returns-then-is_free : goal.returns-then-is_free
returns-then-is_free c = sym (free_here c.args.name.now c.loop-token.behind c.in-Some.token.now c.in-Some.rest.now c.loop-token.left.now c.in-Some.ensures.cases.0 (sym c.is_free.ensures ∙ c.if-is_free.true)) ∙ c.loop-token.invariant

pub loop-token-preserved : goal.loop-token-preserved
loop-token-preserved c = free_later c.args.name.now c.loop-token.behind c.in-Some.token.now c.in-Some.rest.now c.loop-token.left.now c.in-Some.ensures.cases.0 (sym c.is_free.ensures ∙ c.if-is_free.false) c.is_operator-behind.result c.is_operator-behind.ensures ∙ c.loop-token.invariant

pub returns : goal.returns
returns c = sym (free_end c.args.name.now c.loop-token.behind c.loop-token.left.now (nil_from_length _ c.in_default.ensures.cases)) ∙ c.loop-token.invariant
