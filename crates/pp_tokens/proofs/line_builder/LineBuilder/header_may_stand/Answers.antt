use Rattle.std.proofs.Common.{◌≡◌, ◌<◌, ◌≤◌, List, [], ◌∷◌, length, get_or, Bool, ◌∙◌, ap, arith}
use Rattle.pp_tokens.specs.declared.token.Token.{Token}
use Rattle.pp_tokens.specs.Cut.{header_may_stand, LinesSoFar}
use Rattle.pp_tokens.proofs.line_builder.LineBuilder.header_may_stand.Goals as goal

of_two : (ts : List Token) (t u : Token) (r : Bool) → 2 ≤ length ts → length ts < 3 → t ≡ get_or ts 0 t → u ≡ get_or ts 1 u → r ≡ header_may_stand (t ∷ u ∷ []) → r ≡ header_may_stand ts
of_two [] t u r at_least below first second is = absurd (omega arith)
of_two (a ∷ []) t u r at_least below first second is = absurd (omega arith)
of_two (a ∷ b ∷ []) t u r at_least below first second is = is ∙ ap (λ (x : Token). header_may_stand (x ∷ u ∷ [])) first ∙ ap (λ (x : Token). header_may_stand (a ∷ x ∷ [])) second
of_two (a ∷ b ∷ d ∷ ts) t u r at_least below first second is = absurd (omega arith)

pub returns-in-len2 : goal.returns-in-len2
returns-in-len2 c =
    of_two c.as_slice.result.now c.hash-item.result c.include-item.result c.begins_include.result c.in-len2.len_at_least c.in-len2.len_below c.hash-item.is c.include-item.is c.begins_include.ensures
    ∙ ap header_may_stand c.as_slice.ensures ∙ ap (λ (p : LinesSoFar). header_may_stand p.tokens) c.self.view_is
