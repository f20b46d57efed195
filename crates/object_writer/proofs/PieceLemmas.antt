-- Lists that are appended one after another.
use Rattle.std.proofs.Common.{◌≡◌, List, [], ◌++◌, ap, ◌∙◌, append_assoc}

-- five lists that are appended in turn are those together
pub five : {X : Type 0} (a b c d e r1 r2 r3 r4 r5 : List X) → r1 ≡ [] ++ a → r2 ≡ r1 ++ b → r3 ≡ r2 ++ c → r4 ≡ r3 ++ d → r5 ≡ r4 ++ e → r5 ≡ a ++ (b ++ (c ++ (d ++ e)))
five a b c d e r1 r2 r3 r4 r5 h1 h2 h3 h4 h5 =
    h5
    ∙ ap (λ xs. xs ++ e) (h4 ∙ ap (λ xs. xs ++ d) (h3 ∙ ap (λ xs. xs ++ c) (h2 ∙ ap (λ xs. xs ++ b) h1)))
    ∙ append_assoc (a ++ b ++ c) d e
    ∙ append_assoc (a ++ b) c (d ++ e)
    ∙ append_assoc a b (c ++ (d ++ e))
