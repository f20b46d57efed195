-- Where a name is in a replacement list.
use Rattle.std.proofs.Common.{◌≡◌, ℕ, Bool, true, false, ◌||◌, List, [], ◌∷◌, sym, ap, ◌∙◌}
use Rattle.pp_tokens.specs.declared.token.Token.{Token}
use Rattle.macro_expand.specs.Calls.{is_operator, is_free, stands_free}
use Rattle.macro_expand.specs.States.{is_bound, stands_bound}

module _ (name : List ℕ) (behind : Bool) (t : Token) (ts left : List Token) (l : left ≡ t ∷ ts) where
  pub free_here : is_free name behind (t ∷ ts) ≡ true → stands_free name behind left ≡ true
  unfolding stands_free
  free_here k = ap (stands_free name behind) l ∙ ap (λ b. b || stands_free name (is_operator t) ts) k

  pub free_later : is_free name behind (t ∷ ts) ≡ false → (b : Bool) → b ≡ (is_operator t) → stands_free name b ts ≡ stands_free name behind left
  unfolding stands_free
  free_later k b e = ap (λ b. stands_free name b ts) e ∙ sym (ap (stands_free name behind) l ∙ ap (λ b. b || stands_free name (is_operator t) ts) k)

pub free_end : (name : List ℕ) (behind : Bool) (left : List Token) → left ≡ [] → stands_free name behind left ≡ false
unfolding stands_free
free_end name behind left l = ap (stands_free name behind) l

module _ (name : List ℕ) (behind : Bool) (t : Token) (ts left : List Token) (l : left ≡ t ∷ ts) where
  pub bound_here : is_bound name behind (t ∷ ts) ≡ true → stands_bound name behind left ≡ true
  unfolding stands_bound
  bound_here k = ap (stands_bound name behind) l ∙ ap (λ b. b || stands_bound name (is_operator t) ts) k

  pub bound_later : is_bound name behind (t ∷ ts) ≡ false → (b : Bool) → b ≡ (is_operator t) → stands_bound name b ts ≡ stands_bound name behind left
  unfolding stands_bound
  bound_later k b e = ap (λ b. stands_bound name b ts) e ∙ sym (ap (stands_bound name behind) l ∙ ap (λ b. b || stands_bound name (is_operator t) ts) k)

pub bound_end : (name : List ℕ) (behind : Bool) (left : List Token) → left ≡ [] → stands_bound name behind left ≡ false
unfolding stands_bound
bound_end name behind left l = ap (stands_bound name behind) l
