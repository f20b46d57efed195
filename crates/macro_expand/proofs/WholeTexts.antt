-- A text has one answer, where each list has.
use Rattle.std.proofs.Common.{◌≡◌, ℕ, List, map, Result, Err, ap, ◌∙◌, subst}
use Rattle.std.specs.Prelude.{◌↔◌}
use Rattle.std.proofs.lemmas.Bool.{cond_both, cond-true, cond-false}
use Rattle.pp_tokens.specs.declared.token.Token.{Token}
use Rattle.macro_expand.specs.declared.fault.ExpandFault.{ExpandFault}
use Rattle.macro_expand.specs.declared.fault.ExpandFault.TheVariants.{LoneQuote}
use Rattle.macro_expand.specs.Marked.{Marked, fresh}
use Rattle.macro_expand.specs.Expansion.{Answer, has_lone_quote, tokens_of, whole}
use Rattle.macro_expand.specs.Rules.{Whole, Lone, Scanned}

module _ (Lists : List Marked → ℕ → Answer → Type 0) (go : List Marked → ℕ → Answer) where
  only_whole : ((list : List Marked) (work : ℕ) (answer : Answer) → Lists list work answer → go list work ≡ answer) → {tokens : List Token} {answer : Result (List Token) ExpandFault} → Whole Lists tokens answer → whole go tokens ≡ answer
  only_whole h (Lone l) = cond-true _ _ _ l
  only_whole h {tokens} (Scanned {answer} l e) = cond-false _ _ _ l ∙ ap tokens_of (h (map fresh tokens) 0 answer e)

  -- a text has an answer where each list has
  pub complete_whole : ((list : List Marked) (work : ℕ) → Lists list work (go list work)) → (tokens : List Token) → Whole Lists tokens (whole go tokens)
  complete_whole h tokens = cond_both (has_lone_quote tokens) (Err LoneQuote) (tokens_of (go (map fresh tokens) 0)) (Whole Lists tokens) (λ l. Lone l) (λ l. Scanned l (h (map fresh tokens) 0))

  -- and it has no other
  pub one_whole : ((list : List Marked) (work : ℕ) → Lists list work (go list work)) → ((list : List Marked) (work : ℕ) (answer : Answer) → Lists list work answer → go list work ≡ answer) → (tokens : List Token) (answer : Result (List Token) ExpandFault) → Whole Lists tokens answer ↔ (whole go tokens ≡ answer)
  one_whole h o tokens answer = (λ e. only_whole o e, λ e. subst (λ r. Whole Lists tokens r) e (complete_whole h tokens))
