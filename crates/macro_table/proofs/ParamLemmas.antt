-- Names that are kept in order and sorted, and lists that grow at their end.
use Rattle.std.proofs.Common.{◌≡◌, ℕ, Bool, true, false, ◌||◌, List, [], ◌∷◌, ◌++◌, map, length, take, drop, get_or, ◌-◌, ◌≤◌, Option, None, Result, Ok, arith, length-drop, if◌then◌else◌, refl, sym, ◌∙◌, ap, subst}
use Rattle.std.specs.declared.cmp.Ordering.{Ordering}
use Rattle.std.specs.declared.cmp.Ordering.TheVariants.{Less, Equal, Greater}
use Rattle.std.specs.Ordering.{nat_cmp, is_eq, match_ordering}
use Rattle.std.specs.Cmp.Lexicographic.{slice_cmp}
use Rattle.std.specs.FinMap as finite
use Rattle.std.specs.List.{list_any}
use Rattle.std.specs.BTreeSet.{insert_key}
use Rattle.std.proofs.lemmas.List.{take_all}
use Rattle.std.proofs.lemmas.List.Folds.{list_any-append}
use Rattle.std.proofs.lemmas.Map.Text.{is_eq-slice_cmp}
use Rattle.pp_tokens.specs.Kinds.{same}
use Rattle.pp_tokens.specs.declared.token.Token.{Token}
use lib.Chars.{codes}
use Rattle.mac_base.specs.Input.{◌>>=◌}
use Rattle.macro_table.specs.declared.fault.DefFault.{DefFault}
use Rattle.macro_table.specs.declared.fault.DefFault.TheVariants.{NoMemory as RanOut}
use Rattle.mac_base.specs.Answers.{Answers}
use Rattle.macro_table.specs.Definitions.{ParamList, last_passes, DefValue, is_spelled, has_list, unless, closed, param_fault, params_from, param_list, function_like, object_like, checked, def_behind}
use Rattle.macro_table.specs.Params.{AreKnown}

-- the last token is the one that was added after the others
pub last_push : (test : Token → Bool) (ts : List Token) (t : Token) → last_passes test (ts ++ t ∷ []) ≡ test t
last_push test [] t = refl
last_push test (u ∷ []) t = refl
last_push test (u ∷ v ∷ ts) t = last_push test (v ∷ ts) t

-- the order of names
abbrev order : List ℕ → List ℕ → Ordering
order = slice_cmp nat_cmp

or_twice : (a b : Bool) → (a || b) ≡ (a || (a || b))
or_twice true b = refl
or_twice false b = refl

or_swapped : (a b c : Bool) → (a || (b || c)) ≡ (b || (a || c))
or_swapped true true c = refl
or_swapped true false c = refl
or_swapped false b c = refl

module _ {K : Type 0} (name : K → List ℕ) where
  -- whether a name is among these
  asked : List ℕ → List K → Bool
  asked q ks = list_any (λ n. is_eq (order q n)) (map name ks)

  placed : (o : Ordering) (k x : K) (xs more : List K) (q : List ℕ) → order (name k) (name x) ≡ o → asked q more ≡ (is_eq (order q (name k)) || asked q xs)
      → asked q (match_ordering o (k ∷ x ∷ xs) (x ∷ xs) (x ∷ more)) ≡ (is_eq (order q (name k)) || asked q (x ∷ xs))
  unfolding asked
  placed Less k x xs more q is later = refl
  placed Equal k x xs more q is later =
      let both : name k ≡ name x = finite.slice_cmp-IsAntisymmetric finite.nat_cmp-IsAntisymmetric (name k) (name x) is in
      or_twice (is_eq (order q (name x))) _ ∙ ap (λ n. is_eq (order q n) || (is_eq (order q (name x)) || asked q xs)) (sym both)
  placed Greater k x xs more q is later = ap (λ b. is_eq (order q (name x)) || b) later ∙ or_swapped (is_eq (order q (name x))) (is_eq (order q (name k))) _

  pub asked_inserted : (ks : List K) (k : K) (q : List ℕ) → list_any (λ n. is_eq (order q n)) (map name (insert_key (λ x y. order (name x) (name y)) ks k)) ≡ (is_eq (order q (name k)) || list_any (λ n. is_eq (order q n)) (map name ks))
  unfolding asked
  asked_inserted [] k q = refl
  asked_inserted (x ∷ xs) k q = placed (order (name k) (name x)) k x xs (insert_key (λ x y. order (name x) (name y)) xs k) q refl (asked_inserted xs k q)

-- the two tests of names agree
same_order : (q n : List ℕ) → is_eq (order q n) ≡ same q n
same_order q n = is_eq-slice_cmp q n

swapped : (a b : Bool) → (a || b) ≡ (b || (a || false))
swapped true true = refl
swapped true false = refl
swapped false true = refl
swapped false false = refl

-- a name that is asked for in the sorted list
pub known_asked : {K : Type 0} (name : K → List ℕ) (ks : List K) (names : List (List ℕ)) (q : List ℕ) → AreKnown (map name ks) names → list_any (λ k. is_eq (order q (name k))) ks ≡ list_any (same q) names
known_asked name ks names q known = mapped ks ∙ known q
  where
    mapped : (xs : List _) → list_any (λ k. is_eq (order q (name k))) xs ≡ list_any (λ n. is_eq (order q n)) (map name xs)
    mapped [] = refl
    mapped (x ∷ xs) = ap (λ b. is_eq (order q (name x)) || b) (mapped xs)

-- one name more is known
pub known_more : {K : Type 0} (name : K → List ℕ) (ks more : List K) (k : K) (names new : List (List ℕ)) (n : List ℕ) → more ≡ insert_key (λ x y. order (name x) (name y)) ks k → name k ≡ n → new ≡ names ++ n ∷ [] → AreKnown (map name ks) names → AreKnown (map name more) new
known_more {K} name ks more k names new n inserted is put known q =
    ap (λ (xs : List K). list_any (λ m. is_eq (order q m)) (map name xs)) inserted ∙ asked_inserted name ks k q
    ∙ ap (λ b. is_eq (order q (name k)) || b) (known q) ∙ ap (λ b. b || list_any (same q) names) (same_order q (name k) ∙ ap (same q) is)
    ∙ swapped (same q n) (list_any (same q) names) ∙ sym (list_any-append (same q) names (n ∷ [])) ∙ ap (list_any (same q)) (sym put)

-- a parameter and a comma, and again a parameter
pub params_next : (names next : List (List ℕ)) (t u : Token) (left behind : List Token) → left ≡ t ∷ u ∷ behind → is_spelled (codes "...") t ≡ false → param_fault names t ≡ None → is_spelled (codes ",") u ≡ true → next ≡ names ++ t.text ∷ [] →
    params_from next behind ≡ params_from names left
params_next names next t u left behind is no_dots fine comma grown =
    ap (λ (xs : List (List ℕ)). params_from xs behind) grown
    ∙ sym (ap (params_from names) is ∙ ap (λ b. if b then closed names true u behind else rest (param_fault names t) (is_spelled (codes ",") u)) no_dots ∙ ap (λ f. rest f (is_spelled (codes ",") u)) fine ∙ ap (rest None) comma)
  where
    rest : Option DefFault → Bool → Result ParamList DefFault
    rest fault comma = unless fault (names ++ t.text ∷ []) >>= λ xs. (if comma then params_from xs behind else closed xs false u behind)

-- the same, where the two are read from a slice
pub params_step : (names next : List (List ℕ)) (t u : Token) (left : List Token) → 2 ≤ length left → t ≡ get_or left 0 t → u ≡ get_or left 1 u → is_spelled (codes "...") t ≡ false → param_fault names t ≡ None → is_spelled (codes ",") u ≡ true → next ≡ names ++ t.text ∷ [] →
    params_from next (take (length left - 2) (drop 2 left)) ≡ params_from names left
params_step names next t u [] long first second no_dots fine comma grown = absurd (omega arith)
params_step names next t u (x ∷ []) long first second no_dots fine comma grown = absurd (omega arith)
params_step names next t u (x ∷ y ∷ rest) long first second no_dots fine comma grown =
    let behind : take (length (x ∷ y ∷ rest) - 2) rest ≡ rest = take_all _ rest (omega arith) in
    ap (params_from next) behind ∙ params_next names next t u (x ∷ y ∷ rest) rest (λ i. sym first i ∷ sym second i ∷ rest) no_dots fine comma grown

-- a parameter list follows the name
pub behind_list : (name : List ℕ) (tokens : List Token) (list : ParamList) (result : Result DefValue DefFault) → has_list tokens ≡ true → param_list (take (length tokens - 1) (drop 1 tokens)) ≡ Ok list → Answers RanOut result (checked (function_like name list)) → Answers RanOut result (def_behind name tokens)
behind_list name tokens list result has given answers =
    let rest : take (length tokens - 1) (drop 1 tokens) ≡ drop 1 tokens = take_all _ (drop 1 tokens) (rw length-drop (omega arith)) in
    let whole : def_behind name tokens ≡ checked (function_like name list) =
    ap (λ b. if b then (param_list (drop 1 tokens) >>= λ l. checked (function_like name l)) else checked (object_like name tokens)) has
    ∙ ap (λ r. r >>= λ l. checked (function_like name l)) (ap param_list (sym rest) ∙ given) in
    subst (Answers RanOut result) (sym whole) answers
