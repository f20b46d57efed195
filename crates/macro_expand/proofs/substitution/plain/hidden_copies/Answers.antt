use Rattle.std.proofs.Common.{◌≡◌, ◌+◌, ◌++◌, ◌∷◌, [], ap, sym, subst, ◌∙◌, map, take, false}
use Rattle.std.proofs.lemmas.List.{take_more}
use Rattle.macro_expand.specs.Marked.{fresh, hiding}
use Rattle.macro_expand.specs.Substituted.{first_spaced}
use Rattle.macro_expand.specs.States.{marked, hidden_names}
use Rattle.macro_expand.proofs.PassLemmas.{is_nil}
use Rattle.macro_expand.proofs.PlainLemmas.{copied_more, begun}
use Rattle.macro_expand.proofs.substitution.plain.hidden_copies.Goals as goal

pub loop-token-preserved : goal.loop-token-preserved
loop-token-preserved c =
    let before = take c.loop-token.token-index c.args.tokens.now in
    let e : take (c.loop-token.token-index + 1) c.args.tokens.now ≡ take c.loop-token.token-index c.args.tokens.now ++ c.token-item.result ∷ [] =
    take_more c.args.tokens.now c.loop-token.token-index c.token-item.result c.loop-token-test.true ∙ ap (λ v. take c.loop-token.token-index c.args.tokens.now ++ v ∷ []) (sym c.token-item.is) in
    record {
      same = subst (λ l. map marked c.push.new.self.items ≡ map (hiding (hidden_names c.args.hides.now)) (first_spaced c.args.space (map fresh l))) (sym e)
          (copied_more (hidden_names c.args.hides.now) c.args.space c.loop-token.first c.loop-token.list.items c.push.new.self.items before c.token-item.result c.in_ok-hidden.hidden c.mark_first.result
          c.loop-token.invariant.same c.loop-token.invariant.begins c.in_ok-hidden.ensures c.mark_first.ensures c.in_ok-push.ensures.items);
      begins = subst (λ l. false ≡ is_nil (map fresh l)) (sym e) (begun before c.token-item.result);
    }
