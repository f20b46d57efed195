-- A path to which a store for each label was added, one after another, has the stores that are wanted.
use Rattle.std.proofs.Common.{◌≡◌, ℕ, ◌+◌, ◌<◌, ◌≤◌, List, [], ◌∷◌, ◌++◌, length, map, get_or, take, Option, Some, None, refl, ap, sym, ◌∙◌}
use Rattle.std.proofs.lemmas.List.{take_more, take_all}
use Rattle.mac_io.specs.Files.{Files}
use Rattle.pp_unit.specs.Files.{Stores}
use Rattle.dwmac_run.specs.Roots.{labels, HasStores, AreWanted}

module _ {A : Type 0} (label : A → List ℕ) (told : A → Option Files) where
  -- what is told of stores
  abbrev tells : List A → Stores
  tells stores = map {B = List ℕ × Option Files} (λ x. (label x, told x)) stores

  labels_told : (stores : List A) → labels (tells stores) ≡ map label stores
  labels_told [] = refl
  labels_told (store ∷ stores) = ap (λ xs. label store ∷ xs) (labels_told stores)

  -- a store more is there
  pub store_more : (now new : List A) (named : List (List ℕ)) (last : List ℕ) (i : ℕ) → i < length named → last ≡ get_or named i last →
      map label now ≡ take i named → labels (tells new) ≡ labels (tells now) ++ last ∷ [] → map label new ≡ take (i + 1) named
  store_more now new named last i within here so_far grown =
      sym (labels_told new) ∙ grown ∙ ap (λ xs. xs ++ last ∷ []) (labels_told now ∙ so_far) ∙ ap (λ x. take i named ++ x ∷ []) here ∙ sym (take_more named i last within)

  -- all stores are there
  pub has_stores : (wanted : Option (List (List ℕ))) (named items : List (List ℕ)) (stores : List A) (i : ℕ) → AreWanted wanted named → items ≡ named →
      length items ≤ i → map label stores ≡ take i items → HasStores wanted (tells stores)
  has_stores None named items stores i are same all so_far = tt
  has_stores (Some wanted) named items stores i are same all so_far = labels_told stores ∙ so_far ∙ take_all i items all ∙ same ∙ are
