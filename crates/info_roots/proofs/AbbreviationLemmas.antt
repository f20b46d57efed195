-- Attributes, and declarations, are read one after another.
use Rattle.std.proofs.Common.{◌≡◌, ℕ, zero, suc, ◌-◌, ◌<◌, true, false, eqb, cond, List, [], ◌∷◌, ◌++◌, Some, Ok, Err, ap, ◌∙◌, arith}
use Rattle.mac_base.specs.Input.{Input, ◌>>=◌}
use Rattle.mac_base.specs.declared.cursor.CursorFault.{CursorFault}
use Rattle.info_roots.specs.declared.abbreviation.Attribute.{Attribute}
use Rattle.info_roots.specs.Abbreviations.{Declaration, attribute_at, ends, attributes_at, declaration_at, found_by, declared_in}

-- the attributes after the next one
pub attributes_more : (n : ℕ) (xs : List Attribute) (p q : Input) (a : Attribute) → 0 < n → attribute_at p ≡ Ok (a, q) → ends a ≡ false → attributes_at n xs p ≡ attributes_at (n - 1) (xs ++ a ∷ []) q
attributes_more zero xs p q a some read not = absurd (omega arith)
attributes_more (suc n) xs p q a some read not =
    let less : n ≡ suc n - 1 = omega arith in
    ap (λ r. r >>= λ (b : Attribute × Input). cond (ends b.0) (Ok (xs, b.1)) (attributes_at n (xs ++ b.0 ∷ []) b.1)) read
    ∙ ap (λ t. cond t (Ok (xs, q)) (attributes_at n (xs ++ a ∷ []) q)) not ∙ ap (λ m. attributes_at m (xs ++ a ∷ []) q) less

-- the end of the list
pub attributes_end : (n : ℕ) (xs : List Attribute) (p q : Input) (a : Attribute) → 0 < n → attribute_at p ≡ Ok (a, q) → ends a ≡ true → attributes_at n xs p ≡ Ok (xs, q)
attributes_end zero xs p q a some read is = absurd (omega arith)
attributes_end (suc n) xs p q a some read is =
    ap (λ r. r >>= λ (b : Attribute × Input). cond (ends b.0) (Ok (xs, b.1)) (attributes_at n (xs ++ b.0 ∷ []) b.1)) read
    ∙ ap (λ t. cond t (Ok (xs, q)) (attributes_at n (xs ++ a ∷ []) q)) is

-- the fault of the next one
pub attributes_stop : (n : ℕ) (xs : List Attribute) (p : Input) (fault : CursorFault) → 0 < n → attribute_at p ≡ Err fault → attributes_at n xs p ≡ Err fault
attributes_stop zero xs p fault some read = absurd (omega arith)
attributes_stop (suc n) xs p fault some read = ap (λ r. r >>= λ (b : Attribute × Input). cond (ends b.0) (Ok (xs, b.1)) (attributes_at n (xs ++ b.0 ∷ []) b.1)) read

-- the declarations after another one
pub declared_more : (most n code : ℕ) (p q : Input) (d : Declaration) → 0 < n → declaration_at most p ≡ Ok (Some d, q) → eqb d.code code ≡ false → declared_in most n code p ≡ declared_in most (n - 1) code q
declared_more most zero code p q d some read not = absurd (omega arith)
declared_more most (suc n) code p q d some read not =
    let less : n ≡ suc n - 1 = omega arith in
    ap (found_by code (declared_in most n code)) read ∙ ap (λ t. cond t (Some d.abbreviation) (declared_in most n code q)) not ∙ ap (λ m. declared_in most m code q) less
