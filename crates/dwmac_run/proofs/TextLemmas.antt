-- Texts that grow piece by piece.
use Rattle.std.proofs.Common.{◌≡◌, ℕ, List, [], ◌++◌, Option, Some, None, refl, ap, ◌∙◌, sym, append_assoc}
use Rattle.std.proofs.lemmas.List.{append-nil}
use Rattle.mac_io.specs.Calls.{grown, GrowsByFront, Writes}
use Rattle.mac_io.specs.declared.sink.Wrote.{Wrote}
use Rattle.mac_io.specs.declared.sink.Wrote.TheVariants.{Done, Failed}

pub grown_nil : (t : Option (List ℕ)) → grown t [] ≡ t
grown_nil None = refl
grown_nil (Some xs) = ap Some (append-nil xs)

pub grown_more : (t : Option (List ℕ)) (a b : List ℕ) → grown (grown t a) b ≡ grown t (a ++ b)
grown_more None a b = refl
grown_more (Some xs) a b = ap Some (append_assoc xs a b)

-- after a prefix that was written, a piece that fails leaves a prefix of the whole
pub front_more : (old so_far new : Option (List ℕ)) (whole front piece rest : List ℕ) → whole ≡ front ++ (piece ++ rest) → so_far ≡ grown old front → GrowsByFront so_far new piece → GrowsByFront old new whole
front_more old so_far new whole front piece rest is written broken =
    let a = broken.0 in
    let b = broken.1 in (
      front ++ a,
      b ++ rest,
      is ∙ ap (λ zs. front ++ (zs ++ rest)) broken.2 ∙ ap (λ zs. front ++ zs) (append_assoc a b rest) ∙ sym (append_assoc front a (b ++ rest)),
      broken.3 ∙ ap (λ z. grown z a) written ∙ grown_more old front a,
    )

-- and a piece that is written leaves a longer prefix
pub whole_more : (old so_far new : Option (List ℕ)) (whole front piece rest : List ℕ) → whole ≡ front ++ (piece ++ rest) → so_far ≡ grown old front → new ≡ grown so_far piece → (whole ≡ (front ++ piece) ++ rest) × (new ≡ grown old (front ++ piece))
whole_more old so_far new whole front piece rest is written grows =
    (is ∙ sym (append_assoc front piece rest), grows ∙ ap (λ z. grown z piece) written ∙ grown_more old front piece)

-- a piece after one that was written
pub writes_both : (old mid new : Option (List ℕ)) (a b : List ℕ) (answer : Wrote) → mid ≡ grown old a → Writes mid new b answer → Writes old new (a ++ b) answer
writes_both old mid new a b Done first second = second ∙ ap (λ z. grown z b) first ∙ grown_more old a b
writes_both old mid new a b Failed first second =
    front_more old mid new (a ++ b) a b [] (ap (λ zs. a ++ zs) (sym (append-nil b))) first second

-- a piece that failed, before one that was not tried
pub writes_front : (old new : Option (List ℕ)) (a b : List ℕ) → GrowsByFront old new a → GrowsByFront old new (a ++ b)
writes_front old new a b broken = (broken.0, broken.1 ++ b, ap (λ zs. zs ++ b) broken.2 ∙ append_assoc broken.0 broken.1 b, broken.3)
