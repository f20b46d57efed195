-- Lists of arguments that differ in one.
use Rattle.std.proofs.Common.{◌≡◌, ℕ, Bool, true, false, cond, List, [], ◌∷◌, ◌++◌, Option, Some, Result, Ok, Err, ◌⊎◌, inl, inr, refl, sym, ap, ◌∙◌, subst}
use Rattle.mac_base.specs.Input.{◌>>=◌}
use Rattle.pp_tokens.specs.declared.token.Token.{Token}
use Rattle.macro_expand.specs.declared.before.Before.{Before}
use Rattle.macro_expand.specs.declared.fault.ExpandFault.{ExpandFault}
use Rattle.macro_expand.specs.Marked.{is_named}
use Rattle.macro_expand.specs.Substituted.{Argument, find_argument, Piece, front}

-- the same argument, or the two that differ where the token is their parameter
abbrev pub Alike : Argument → Argument → Token → Option Argument → Option Argument → Type 0
Alike one other t a b = (a ≡ b) ⊎ ((a ≡ Some one) × (b ≡ Some other) × (is_named one.name t ≡ true))

pub found : (more : List Argument) (one other : Argument) → other.name ≡ one.name → (done : List Argument) (t : Token) → Alike one other t (find_argument (done ++ one ∷ more) t) (find_argument (done ++ other ∷ more) t)
found more one other same [] t =
    subst (λ n. Alike one other t (cond (is_named one.name t) (Some one) (find_argument more t)) (cond (is_named n t) (Some other) (find_argument more t))) (sym same) (go (is_named one.name t) refl)
  where
    go : (b : Bool) → is_named one.name t ≡ b → Alike one other t (cond b (Some one) (find_argument more t)) (cond b (Some other) (find_argument more t))
    go true e = inr (refl, refl, e)
    go false e = inl refl
found more one other same (d ∷ ds) t = go (is_named d.name t) (found more one other same ds t)
  where
    go : (b : Bool) → Alike one other t (find_argument (ds ++ one ∷ more) t) (find_argument (ds ++ other ∷ more) t) → Alike one other t (cond b (Some d) (find_argument (ds ++ one ∷ more) t)) (cond b (Some d) (find_argument (ds ++ other ∷ more) t))
    go true r = inl refl
    go false r = r

pub bind_same : (r s : Result (List Piece × Before) ExpandFault) (f g : Before → Result (List Piece) ExpandFault) → r ≡ s → ((put : List Piece × Before) → r ≡ Ok put → f put.1 ≡ g put.1) → (r >>= (λ put. front put.0 (f put.1))) ≡ (s >>= (λ put. front put.0 (g put.1)))
bind_same (Ok put) s f g e h = ap (front put.0) (h put refl) ∙ ap (λ v. v >>= (λ put. front put.0 (g put.1))) e
bind_same (Err d) s f g e h = ap (λ v. v >>= (λ put. front put.0 (g put.1))) e
