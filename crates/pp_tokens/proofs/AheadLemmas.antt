-- A printed token is the longest in front of what is printed after it.
use Rattle.std.proofs.Common.{◌≡◌, ◌≢◌, ℕ, zero, suc, ◌+◌, ◌-◌, ◌≤◌, eqb, Bool, true, false, ◌&&◌, ◌||◌, cond, List, [], ◌∷◌, ◌++◌, length, take, drop, Option, Some, None, refl, sym, ◌∙◌, ap, arith, append_assoc, append-nil, length-append}
use Rattle.std.proofs.lemmas.List.{take_at}
use Rattle.std.proofs.Math.Seq.{take-append-add}
use Rattle.std.proofs.lemmas.List.{take-append-drop}
use Rattle.std.proofs.lemmas.Bool.{false_from_ne_true}
use Rattle.std.specs.Option.{option_map}
use borrow.Author.Tests.{eqb-true}
use lib.Chars.{codes}
use Rattle.pp_tokens.specs.declared.piece.PieceKind.{PieceKind}
use Rattle.pp_tokens.specs.declared.piece.PieceKind.TheVariants.{Blank, Comment, Word}
use Rattle.pp_tokens.specs.declared.token.Kind.{Kind}
use Rattle.pp_tokens.specs.declared.token.Kind.TheVariants.{LoneQuote}
use Rattle.pp_tokens.specs.declared.token.Token.{Token}
use Rattle.pp_tokens.specs.Kinds.{begins, is_blank, kind_of}
use Rattle.pp_tokens.specs.Cut.{longest, piece_at, line_rest, up_to_close}
use Rattle.pp_tokens.specs.Printing.{GivesBoth}
use Rattle.pp_tokens.proofs.LongestLemmas.{longest_is}
use Rattle.pp_tokens.proofs.FrontOfLemmas.{Cut, within, beyond, cut_of}
use Rattle.pp_tokens.proofs.NextLemmas.{blank-behind, over-neighbour}
use Rattle.pp_tokens.proofs.BothLemmas.{both-front, word_front, longest-none}
use Rattle.mac_base.proofs.TestLemmas.{and_false}
use Rattle.mac_base.proofs.Choices.{no_both, stable_none}

-- after the token no longer one begins, and it begins no comment
pub record Ahead (t r : List ℕ) : Type 0 where
  pub longer : (w z : List ℕ) → r ≡ w ++ z → w ≢ [] → kind_of (t ++ w) ≡ None
  pub line : begins (codes "//") (t ++ r) ≡ false
  pub block : begins (codes "/*") (t ++ r) ≡ false

-- no token begins as a comment
comment_by : (c b d : ℕ) (xs : List ℕ) (x y : Bool) → eqb 47 b ≡ x → eqb c d ≡ y → (x && (y && true)) ≡ true → kind_of (47 ∷ c ∷ xs) ≡ None → kind_of (b ∷ d ∷ xs) ≡ None
comment_by c b d xs true true first second is none =
    ap (λ z. kind_of (z ∷ d ∷ xs)) (sym (eqb-true 47 b first)) ∙ ap (λ z. kind_of (47 ∷ z ∷ xs)) (sym (eqb-true c d second)) ∙ none
comment_by c b d xs true false first second is none = cc
comment_by c b d xs false y first second is none = cc

no_comment : (k : Kind) (c : ℕ) (t : List ℕ) → ((xs : List ℕ) → kind_of (47 ∷ c ∷ xs) ≡ None) → kind_of t ≡ Some k → begins (47 ∷ c ∷ []) t ≡ false
no_comment k c [] all is = refl
no_comment k c (b ∷ []) all is = and_false (eqb 47 b)
no_comment k c (b ∷ d ∷ t) all is =
    false_from_ne_true _ (λ starts. let none : kind_of (b ∷ d ∷ t) ≡ None = comment_by c b d t (eqb 47 b) (eqb c d) refl refl starts (all t) in both_kinds (kind_of (b ∷ d ∷ t)) none is)
  where
    both_kinds : (o : Option Kind) → o ≡ None → o ≡ Some k → ⊥
    both_kinds o none some = cc

empty_front : (w z : List ℕ) → [] ≡ w ++ z → w ≢ [] → ⊥
empty_front [] z is some = some refl
empty_front (b ∷ w) z is some = cc

pub ahead-end : (k : Kind) (t : List ℕ) → kind_of t ≡ Some k → Ahead t []
ahead-end k t is = record {
  longer = λ w z front some. absurd (empty_front w z front some);
  line = ap (begins (codes "//")) (append-nil t) ∙ no_comment k 47 t (λ xs. refl) is;
  block = ap (begins (codes "/*")) (append-nil t) ∙ no_comment k 42 t (λ xs. refl) is;
}

-- white space after it

blank_front : (w z more : List ℕ) → 32 ∷ more ≡ w ++ z → w ≢ [] → (v : List ℕ) × (w ≡ 32 ∷ v)
blank_front [] z more is some = absurd (some refl)
blank_front (b ∷ w) z more is some = (w, let same : b ≡ 32 = cc in ap (λ x. x ∷ w) same)

comment_behind : (k : Kind) (c d : ℕ) (t r : List ℕ) → ((xs : List ℕ) → kind_of (47 ∷ c ∷ xs) ≡ None) → eqb c d ≡ false → kind_of t ≡ Some k → kind_of [] ≡ None → begins (47 ∷ c ∷ []) (t ++ d ∷ r) ≡ false
comment_behind k c d [] r all other is none = absurd (both_kinds (kind_of []) none is)
  where
    both_kinds : (o : Option Kind) → o ≡ None → o ≡ Some k → ⊥
    both_kinds o none some = cc
comment_behind k c d (b ∷ []) r all other is none = ap (λ x. eqb 47 b && (x && true)) other ∙ and_false (eqb 47 b)
comment_behind k c d (b ∷ e ∷ t) r all other is none = no_comment k c (b ∷ e ∷ t) all is

pub ahead-blank : (k : Kind) (t more : List ℕ) → kind_of t ≡ Some k → k ≢ LoneQuote → Ahead t (32 ∷ more)
ahead-blank k t more is not_lone = record {
  longer = λ w z front some. let shape = blank_front w z more front some in ap (λ x. kind_of (t ++ x)) shape.1 ∙ blank-behind k t shape.0 is not_lone;
  line = comment_behind k 47 32 t more (λ xs. refl) refl is refl;
  block = comment_behind k 42 32 t more (λ xs. refl) refl is refl;
}

-- a neighbour after it

begins_two : (a b : ℕ) (s r : List ℕ) → 2 ≤ length s → begins (a ∷ b ∷ []) (s ++ r) ≡ begins (a ∷ b ∷ []) s
begins_two a b [] r long = absurd (omega arith)
begins_two a b (x ∷ []) r long = absurd (omega arith)
begins_two a b (x ∷ y ∷ s) r long = refl

word_at : (s : List ℕ) (k : Kind) (n : ℕ) → piece_at false false s ≡ Some (Word k, n) → (begins (codes "//") s ≡ false) × (begins (codes "/*") s ≡ false) × (longest s ≡ Some (k, n))
word_at [] k n is = cc
word_at (b ∷ bs) k n is = word_front b bs k n is

some_long : (k : Kind) (t : List ℕ) → kind_of t ≡ Some k → 1 ≤ length t
some_long k [] is = cc
some_long k (b ∷ t) is = omega arith

fronts_of : (t u w z : List ℕ) (k : Kind) → longest (t ++ u) ≡ Some (k, length t) → u ≡ w ++ z → w ≢ [] → kind_of (t ++ w) ≡ None
fronts_of t u [] z k is front some = absurd (some refl)
fronts_of t u (b ∷ w) z k is front some =
    let whole : t ++ u ≡ (t ++ b ∷ w) ++ z = ap (λ x. t ++ x) front ∙ sym (append_assoc t (b ∷ w) z) in
    let taken : take (length (t ++ b ∷ w)) (t ++ u) ≡ t ++ b ∷ w = ap (take (length (t ++ b ∷ w))) whole ∙ take_at (t ++ b ∷ w) z (length (t ++ b ∷ w)) refl in
    ap kind_of (sym taken)
    ∙ longest-none (t ++ u) (length (t ++ u)) k (length t) is (length (t ++ b ∷ w)) (omega (arith, length-append t (b ∷ w))) (omega (arith, ap length whole, length-append (t ++ b ∷ w) z))

neighbour_by : (k j : Kind) (t u r w z : List ℕ) → kind_of t ≡ Some k → k ≢ LoneQuote → kind_of u ≡ Some j → j ≢ LoneQuote →
    ((x y : List ℕ) → u ≡ x ++ y → x ≢ [] → kind_of (t ++ x) ≡ None) → (t ≡ codes "." → u ≡ codes "." → ⊥) → Ahead u r → w ≢ [] → Cut w z u r → kind_of (t ++ w) ≡ None
neighbour_by k j t u r w z first one second two fronts no_dots ahead some (within y front rest) = fronts w y front some
neighbour_by k j t u r w z first one second two fronts no_dots ahead some (beyond [] front rest) =
    ap (λ x. kind_of (t ++ x)) (front ∙ append-nil u) ∙ fronts u [] (sym (append-nil u)) (λ empty. some (front ∙ append-nil u ∙ empty))
neighbour_by k j t u r w z first one second two fronts no_dots ahead some (beyond (d ∷ y) front rest) =
    ap (λ x. kind_of (t ++ x)) front ∙ ap kind_of (sym (append_assoc t u (d ∷ y)))
    ∙ over-neighbour k j t u d y (record {
      first = first;
      first_closed = one;
      second = second;
      second_closed = two;
      fronts = fronts;
      no_dots = no_dots;
      behind = ahead.longer (d ∷ []) (y ++ z) rest (λ empty. cc);
    })

ahead_both : (t u : Token) (r : List ℕ) → kind_of t.text ≡ Some t.kind → t.kind ≢ LoneQuote → kind_of u.text ≡ Some u.kind → u.kind ≢ LoneQuote → (t.text ≡ codes "." → u.text ≡ codes "." → ⊥) → Ahead u.text r → GivesBoth t u → Ahead t.text (u.text ++ r)
ahead_both t u r first one second two no_dots ahead gives =
    let front = both-front t u gives in
    let word = word_at (t.text ++ u.text) front.0 (length t.text) front.1 in
    let long : 2 ≤ length (t.text ++ u.text) = omega (arith, length-append t.text u.text, some_long t.kind t.text first, some_long u.kind u.text second) in
    record {
      longer = λ w z is some. neighbour_by t.kind u.kind t.text u.text r w z first one second two (λ x y split filled. fronts_of t.text u.text x y front.0 word.2 split filled) no_dots ahead some (cut_of w z u.text r (sym is));
      line = ap (begins (codes "//")) (sym (append_assoc t.text u.text r)) ∙ begins_two 47 47 (t.text ++ u.text) r long ∙ word.0;
      block = ap (begins (codes "/*")) (sym (append_assoc t.text u.text r)) ∙ begins_two 47 42 (t.text ++ u.text) r long ∙ word.1;
    }

stable_false : (b : Bool) → ((b ≡ false → ⊥) → ⊥) → b ≡ false
stable_false true never = absurd (never (λ is. cc))
stable_false false never = refl

pub ahead-next : (t u : Token) (r : List ℕ) → kind_of t.text ≡ Some t.kind → t.kind ≢ LoneQuote → kind_of u.text ≡ Some u.kind → u.kind ≢ LoneQuote → (t.text ≡ codes "." → u.text ≡ codes "." → ⊥) → Ahead u.text r → ((GivesBoth t u → ⊥) → ⊥) → Ahead t.text (u.text ++ r)
ahead-next t u r first one second two no_dots ahead gives =
    let so : GivesBoth t u → Ahead t.text (u.text ++ r) = ahead_both t u r first one second two no_dots ahead in
    record {
      longer = λ w z is some. stable_none _ (λ never. gives (λ both. never ((so both).longer w z is some)));
      line = stable_false _ (λ never. gives (λ both. never (so both).line));
      block = stable_false _ (λ never. gives (λ both. never (so both).block));
    }

-- the token is in front

first_blank : (b : ℕ) (xs : List ℕ) (v w x y z : Bool) → eqb b 32 ≡ v → eqb b 9 ≡ w → eqb b 11 ≡ x → eqb b 12 ≡ y → eqb b 13 ≡ z → ((((v || w) || x) || y) || z) ≡ true → kind_of (b ∷ xs) ≡ None
first_blank b xs true w x y z one two three four five is = blank_at 32 b xs (eqb-true b 32 one) (λ ys. by ys)
  where
    by : (ys : List ℕ) → kind_of (32 ∷ ys) ≡ None
    by [] = refl
    by (c ∷ ys) = refl

    blank_at : (n b : ℕ) (xs : List ℕ) → b ≡ n → ((ys : List ℕ) → kind_of (n ∷ ys) ≡ None) → kind_of (b ∷ xs) ≡ None
    blank_at n b xs is all = ap (λ z. kind_of (z ∷ xs)) is ∙ all xs
first_blank b xs false true x y z one two three four five is = ap (λ c. kind_of (c ∷ xs)) (eqb-true b 9 two) ∙ by xs
  where
    by : (ys : List ℕ) → kind_of (9 ∷ ys) ≡ None
    by [] = refl
    by (c ∷ ys) = refl
first_blank b xs false false true y z one two three four five is = ap (λ c. kind_of (c ∷ xs)) (eqb-true b 11 three) ∙ by xs
  where
    by : (ys : List ℕ) → kind_of (11 ∷ ys) ≡ None
    by [] = refl
    by (c ∷ ys) = refl
first_blank b xs false false false true z one two three four five is = ap (λ c. kind_of (c ∷ xs)) (eqb-true b 12 four) ∙ by xs
  where
    by : (ys : List ℕ) → kind_of (12 ∷ ys) ≡ None
    by [] = refl
    by (c ∷ ys) = refl
first_blank b xs false false false false true one two three four five is = ap (λ c. kind_of (c ∷ xs)) (eqb-true b 13 five) ∙ by xs
  where
    by : (ys : List ℕ) → kind_of (13 ∷ ys) ≡ None
    by [] = refl
    by (c ∷ ys) = refl
first_blank b xs false false false false false one two three four five is = cc

first_feed : (b : ℕ) (xs : List ℕ) → eqb b 10 ≡ true → kind_of (b ∷ xs) ≡ None
first_feed b xs is = ap (λ c. kind_of (c ∷ xs)) (eqb-true b 10 is) ∙ by xs
  where
    by : (ys : List ℕ) → kind_of (10 ∷ ys) ≡ None
    by [] = refl
    by (c ∷ ys) = refl

piece_by : (t u v w : Bool) (m : ℕ) (o : Option ℕ) (found k : Option (Kind × ℕ)) → t ≡ false → u ≡ false → v ≡ false → w ≡ false → found ≡ k →
    cond t (Some (Blank, 1)) (cond u (Some (Blank, 1)) (cond v (Some (Comment, m)) (cond w (option_map {U = PieceKind × ℕ} (λ n. (Comment, 2 + n)) o) (option_map {U = PieceKind × ℕ} (λ (f : Kind × ℕ). (Word f.0, f.1)) found)))) ≡ option_map {U = PieceKind × ℕ} (λ (f : Kind × ℕ). (Word f.0, f.1)) k
piece_by true u v w m o found k et eu ev ew is = cc
piece_by false true v w m o found k et eu ev ew is = cc
piece_by false false true w m o found k et eu ev ew is = cc
piece_by false false false true m o found k et eu ev ew is = cc
piece_by false false false false m o found k et eu ev ew is = ap (option_map {U = PieceKind × ℕ} (λ (f : Kind × ℕ). (Word f.0, f.1))) is

some_left : (r : List ℕ) (n : ℕ) → 1 ≤ n → 1 ≤ length r → take n r ≢ []
some_left [] n some filled is = absurd (omega arith)
some_left (b ∷ r) zero some filled is = absurd (omega arith)
some_left (b ∷ r) (suc n) some filled is = cc

longest_there : (k : Kind) (t r : List ℕ) → kind_of t ≡ Some k → Ahead t r → longest (t ++ r) ≡ Some (k, length t)
longest_there k t r is ahead =
    longest_is (t ++ r) k (length t) (length (t ++ r)) (some_long k t is) (omega (arith, length-append t r)) (ap kind_of (take_at t r (length t) refl) ∙ is)
    (λ n more most.
    let m : ℕ = n - length t in
    let far : n ≡ length t + m = omega arith in
    ap (λ i. kind_of (take i (t ++ r))) far ∙ ap kind_of (take-append-add t r m)
    ∙ ahead.longer (take m r) (drop m r) (sym (take-append-drop m r)) (some_left r m (omega arith) (omega (arith, length-append t r))))

pub token-stands : (k : Kind) (t r : List ℕ) → kind_of t ≡ Some k → Ahead t r → piece_at false false (t ++ r) ≡ Some (Word k, length t)
token-stands k [] r is ahead = absurd (no_both (kind_of []) k refl is)
token-stands k (b ∷ t) r is ahead =
    piece_by (eqb b 10) (is_blank b) (begins (codes "//") (b ∷ (t ++ r))) (begins (codes "/*") (b ∷ (t ++ r))) (suc (line_rest (t ++ r))) (up_to_close (drop 1 (t ++ r))) (longest (b ∷ (t ++ r))) (Some (k, suc (length t)))
    (false_from_ne_true _ (λ feed. no_both (kind_of (b ∷ t)) k (first_feed b t feed) is))
    (false_from_ne_true _ (λ blank. no_both (kind_of (b ∷ t)) k (first_blank b t (eqb b 32) (eqb b 9) (eqb b 11) (eqb b 12) (eqb b 13) refl refl refl refl refl blank) is))
    ahead.line ahead.block (longest_there k (b ∷ t) r is ahead)
