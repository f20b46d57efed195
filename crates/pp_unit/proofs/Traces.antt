-- What the walk of a file leaves, line by line, as a tree; and its entries, in which those that are directly in the file are found.
use Rattle.std.proofs.Common.{◌≡◌, ◌<◌, ℕ, suc, ◌+◌, ◌-◌, Bool, true, false, cond, ◌&&◌, eqb, List, [], ◌∷◌, ◌++◌, length, Option, Some, None, refl, ap, ◌∙◌, arith}
use Rattle.std.specs.Option.{option_map, option_and_then}
use Rattle.mac_base.specs.Items.{Item, Define, Undef, Start, End, depth_behind, first_inside}
use Rattle.pp_unit.specs.Seen.{Mark}

-- The lines of a file, each with what it does: nothing, a definition, an `#undef`, or the inclusion of a file by the number of its path.
pub data Trace : Type 0 where
  Done : Trace
  Silent : (n : ℕ) (more : Trace) → Trace
  Defines : (n : ℕ) (text : List ℕ) (more : Trace) → Trace
  Undefines : (n : ℕ) (name : List ℕ) (more : Trace) → Trace
  Includes : (n path : ℕ) (inner more : Trace) → Trace

-- the entries of these lines, and then more
abbrev pub items_onto : Trace → List (Item ℕ) → List (Item ℕ)
items_onto Done more = more
items_onto (Silent n t) more = items_onto t more
items_onto (Defines n text t) more = Define n text ∷ items_onto t more
items_onto (Undefines n name t) more = Undef n name ∷ items_onto t more
items_onto (Includes n path inner t) more = Start n path ∷ items_onto inner (End ∷ items_onto t more)

-- how many these are
abbrev pub size : Trace → ℕ
size Done = 0
size (Silent n t) = size t
size (Defines n text t) = suc (size t)
size (Undefines n name t) = suc (size t)
size (Includes n path inner t) = suc (size inner + suc (size t))

-- a mark before a line, or of the end
abbrev pub mark : List ℕ → Option ℕ → ℕ → Mark
mark chain line events = record { chain = chain; line = line; events = events }

-- the marks of these lines of a file, where so many entries are before them, and then more
abbrev pub marks_onto : List ℕ → ℕ → Trace → List Mark → List Mark
marks_onto c e Done more = more
marks_onto c e (Silent n t) more = mark c (Some n) e ∷ marks_onto c e t more
marks_onto c e (Defines n text t) more = mark c (Some n) e ∷ marks_onto c (suc e) t more
marks_onto c e (Undefines n name t) more = mark c (Some n) e ∷ marks_onto c (suc e) t more
marks_onto c e (Includes n path inner t) more =
    mark c (Some n) e
    ∷ marks_onto (c ++ n ∷ []) (suc e) inner
    (mark (c ++ n ∷ []) None (suc e + size inner) ∷ marks_onto c (suc (suc e + size inner)) t more)

-- the numbers of the lines of each file rise strictly, from above this one on
abbrev pub Rises : ℕ → Trace → Type 0
Rises low Done = Unit {0}
Rises low (Silent n t) = (low < n) × Rises n t
Rises low (Defines n text t) = (low < n) × Rises n t
Rises low (Undefines n name t) = (low < n) × Rises n t
Rises low (Includes n path inner t) = (low < n) × Rises 0 inner × Rises n t

-- the entries before more
pub onto_append : (t : Trace) (more rest : List (Item ℕ)) → items_onto t (more ++ rest) ≡ items_onto t more ++ rest
onto_append Done more rest = refl
onto_append (Silent n t) more rest = onto_append t more rest
onto_append (Defines n text t) more rest = ap (λ (list : List (Item ℕ)). Define n text ∷ list) (onto_append t more rest)
onto_append (Undefines n name t) more rest = ap (λ (list : List (Item ℕ)). Undef n name ∷ list) (onto_append t more rest)
onto_append (Includes n path inner t) more rest =
    ap (λ (list : List (Item ℕ)). Start n path ∷ items_onto inner (End ∷ list)) (onto_append t more rest)
    ∙ ap (λ (list : List (Item ℕ)). Start n path ∷ list) (onto_append inner (End ∷ items_onto t more) rest)

pub onto_length : (t : Trace) (more : List (Item ℕ)) → length (items_onto t more) ≡ size t + length more
onto_length Done more = omega arith
onto_length (Silent n t) more = onto_length t more
onto_length (Defines n text t) more = ap (λ (k : ℕ). suc k) (onto_length t more) ∙ omega arith
onto_length (Undefines n name t) more = ap (λ (k : ℕ). suc k) (onto_length t more) ∙ omega arith
onto_length (Includes n path inner t) more =
    ap (λ (k : ℕ). suc k) (onto_length inner (End ∷ items_onto t more) ∙ ap (λ (k : ℕ). size inner + suc k) (onto_length t more)) ∙ omega arith

-- a number of entries more
abbrev pub shift : ℕ → Option ℕ → Option ℕ
shift m = option_map (λ n. m + n)

one_more : (m : ℕ) (o : Option ℕ) → option_map (λ n. n + 1) (shift m o) ≡ shift (suc m) o
one_more m None = refl
one_more m (Some k) = ap (λ (n : ℕ). Some n) (omega arith)

pub no_shift : (o : Option ℕ) → o ≡ shift 0 o
no_shift None = refl
no_shift (Some k) = ap (λ (n : ℕ). Some n) (omega arith)

pub two_shifts : (m n : ℕ) (o : Option ℕ) → shift m (shift n o) ≡ shift (m + n) o
two_shifts m n None = refl
two_shifts m n (Some k) = ap (λ (n : ℕ). Some n) (omega arith)

not_zero : (d : ℕ) → 0 < d → eqb d 0 ≡ false
not_zero d deep = grind arith

module _ (test : Item ℕ → Bool) where
  -- an entry that is not directly in the file
  deep_step : (item : Item ℕ) (items : List (Item ℕ)) (d : ℕ) → 0 < d →
      first_inside test (item ∷ items) d ≡ option_and_then (λ inner. option_map (λ n. n + 1) (first_inside test items inner)) (depth_behind item d)
  deep_step item items d deep =
      λ i. cond (not_zero d deep i && test item) (Some 0) (option_and_then (λ inner. option_map (λ n. n + 1) (first_inside test items inner)) (depth_behind item d))

  -- an entry that does, and fails the test
  pub past : (item : Item ℕ) (items : List (Item ℕ)) → test item ≡ false →
      first_inside test (item ∷ items) 0 ≡ option_and_then (λ inner. option_map (λ n. n + 1) (first_inside test items inner)) (depth_behind item 0)
  past item items fails =
      λ i. cond (fails i) (Some 0) (option_and_then (λ inner. option_map (λ n. n + 1) (first_inside test items inner)) (depth_behind item 0))

  -- an entry that does, and passes the test
  pub found : (item : Item ℕ) (items : List (Item ℕ)) → test item ≡ true → first_inside test (item ∷ items) 0 ≡ Some 0
  found item items passes =
      λ i. cond (passes i) (Some 0) (option_and_then (λ inner. option_map (λ n. n + 1) (first_inside test items inner)) (depth_behind item 0))

  -- the end of a file that is in another
  deep_end : (items : List (Item ℕ)) (d : ℕ) → 0 < d → first_inside test (End ∷ items) d ≡ shift 1 (first_inside test items (d - 1))
  deep_end items d deep =
      deep_step End items d deep
      ∙ (λ i. option_and_then (λ inner. option_map (λ n. n + 1) (first_inside test items inner)) (cond (not_zero d deep i) None (Some (d - 1))))
      ∙ ap (option_map (λ n. n + 1)) (no_shift (first_inside test items (d - 1)))
      ∙ one_more 0 (first_inside test items (d - 1))

  -- the lines of a file that is in another
  pub over : (t : Trace) (items : List (Item ℕ)) (d : ℕ) → 0 < d → first_inside test (items_onto t items) d ≡ shift (size t) (first_inside test items d)
  over Done items d deep = no_shift (first_inside test items d)
  over (Silent n t) items d deep = over t items d deep
  over (Defines n text t) items d deep =
      deep_step (Define n text) (items_onto t items) d deep
      ∙ ap (option_map (λ n. n + 1)) (over t items d deep)
      ∙ one_more (size t) (first_inside test items d)
  over (Undefines n name t) items d deep =
      deep_step (Undef n name) (items_onto t items) d deep
      ∙ ap (option_map (λ n. n + 1)) (over t items d deep)
      ∙ one_more (size t) (first_inside test items d)
  over (Includes n path inner t) items d deep =
      let back : d + 1 - 1 ≡ d = omega arith in
      let after : first_inside test (End ∷ items_onto t items) (d + 1) ≡ shift (suc (size t)) (first_inside test items d) =
      deep_end (items_onto t items) (d + 1) (omega arith)
      ∙ ap (λ (n : ℕ). shift 1 (first_inside test (items_onto t items) n)) back
      ∙ ap (shift 1) (over t items d deep)
      ∙ two_shifts 1 (size t) (first_inside test items d)
      ∙ ap (λ (n : ℕ). shift n (first_inside test items d)) (omega arith) in
      deep_step (Start n path) (items_onto inner (End ∷ items_onto t items)) d deep
      ∙ ap (option_map (λ n. n + 1)) (over inner (End ∷ items_onto t items) (d + 1) (omega arith))
      ∙ one_more (size inner) (first_inside test (End ∷ items_onto t items) (d + 1))
      ∙ ap (shift (suc (size inner))) after
      ∙ two_shifts (suc (size inner)) (suc (size t)) (first_inside test items d)
      ∙ ap (λ (n : ℕ). shift n (first_inside test items d)) (omega arith)

  -- a file that is included, and does not pass the test
  pub past_file : (n path : ℕ) (inner : Trace) (items : List (Item ℕ)) → test (Start n path) ≡ false →
      first_inside test (Start n path ∷ items_onto inner (End ∷ items)) 0 ≡ shift (suc (suc (size inner))) (first_inside test items 0)
  past_file n path inner items fails =
      past (Start n path) (items_onto inner (End ∷ items)) fails
      ∙ ap (option_map (λ n. n + 1)) (over inner (End ∷ items) 1 (omega arith))
      ∙ one_more (size inner) (first_inside test (End ∷ items) 1)
      ∙ ap (shift (suc (size inner))) (deep_end items 1 (omega arith))
      ∙ two_shifts (suc (size inner)) 1 (first_inside test items 0)
      ∙ ap (λ (n : ℕ). shift n (first_inside test items 0)) (omega arith)

  -- an entry of the file itself, and does not pass the test
  pub past_one : (item : Item ℕ) (items : List (Item ℕ)) → depth_behind item 0 ≡ Some 0 → test item ≡ false → first_inside test (item ∷ items) 0 ≡ shift 1 (first_inside test items 0)
  past_one item items flat fails =
      past item items fails
      ∙ ap (option_and_then (λ inner. option_map (λ n. n + 1) (first_inside test items inner))) flat
      ∙ ap (option_map (λ n. n + 1)) (no_shift (first_inside test items 0))
      ∙ one_more 0 (first_inside test items 0)
