-- What follows a token of a text: no byte there makes a longer token with it.
use Rattle.std.proofs.Common.{◌≡◌, ◌≢◌, ℕ, ◌≤◌, eqb, Bool, true, false, cond, ◌&&◌, List, [], ◌∷◌, ◌++◌, length, take, Some, None, refl, sym, ◌∙◌, ap, arith, append_assoc, append-nil, length-append}
use Rattle.std.proofs.lemmas.List.{take_at}
use Rattle.std.proofs.lemmas.Bool.{false_from_ne_true}
use Rattle.std.specs.List.{AllByRecursion, flat_map}
use borrow.Author.Tests.{eqb-true}
use lib.Chars.{codes}
use Rattle.pp_tokens.specs.declared.token.Kind.{Kind}
use Rattle.pp_tokens.specs.declared.token.Kind.TheVariants.{Punct}
use Rattle.pp_tokens.specs.declared.token.Token.{Token}
use Rattle.pp_tokens.specs.Kinds.{begins, same, kind_of}
use Rattle.pp_tokens.specs.Cut.{longest}
use Rattle.pp_tokens.specs.Laws.{IsPrintable}
use Rattle.pp_tokens.proofs.KindLemmas.{kind-from}
use Rattle.pp_tokens.proofs.BothLemmas.{longest-none}
use Rattle.pp_tokens.proofs.FrontOfLemmas.{Cut, within, beyond, cut_of}
use Rattle.pp_tokens.proofs.NextLemmas.{over-neighbour}
use Rattle.pp_tokens.proofs.AheadLemmas.{Ahead, ahead-end, ahead-blank}
use Rattle.macro_table.specs.Texts.{spaced}
use Rattle.mac_base.proofs.TestLemmas.{or_false}
use Rattle.mac_base.proofs.Choices.{no_both, stable_none}

-- the longest token in front
pub ahead_of : (t r : List ℕ) (k : Kind) → longest (t ++ r) ≡ Some (k, length t) → begins (codes "//") (t ++ r) ≡ false → begins (codes "/*") (t ++ r) ≡ false → Ahead t r
ahead_of t r k is line block = record { longer = fronts; line = line; block = block }
  where
    fronts : (w z : List ℕ) → r ≡ w ++ z → w ≢ [] → kind_of (t ++ w) ≡ None
    fronts [] z front some = absurd (some refl)
    fronts (b ∷ w) z front some =
        let whole : t ++ r ≡ (t ++ b ∷ w) ++ z = ap (λ x. t ++ x) front ∙ sym (append_assoc t (b ∷ w) z) in
        let taken : take (length (t ++ b ∷ w)) (t ++ r) ≡ t ++ b ∷ w = ap (take (length (t ++ b ∷ w))) whole ∙ take_at (t ++ b ∷ w) z (length (t ++ b ∷ w)) refl in
        ap kind_of (sym taken)
        ∙ longest-none (t ++ r) (length (t ++ r)) k (length t) is (length (t ++ b ∷ w)) (omega (arith, length-append t (b ∷ w))) (omega (arith, ap length whole, length-append (t ++ b ∷ w) z))

fewer : (x p q : Bool) → (p ≡ false → q ≡ false) → (x && p) ≡ false → (x && q) ≡ false
fewer true p q inner is = inner is
fewer false p q inner is = refl

begins_less : (p s r : List ℕ) → begins p (s ++ r) ≡ false → begins p s ≡ false
begins_less [] s r is = is
begins_less (a ∷ p) [] r is = refl
begins_less (a ∷ p) (b ∷ s) r is = fewer (eqb a b) _ _ (begins_less p s r) is

-- less of what follows
pub ahead_less : (t r z : List ℕ) → Ahead t (r ++ z) → Ahead t r
ahead_less t r z ahead = record {
  longer = λ w y front some. ahead.longer w (y ++ z) (ap (λ x. x ++ z) front ∙ append_assoc w y z) some;
  line = begins_less (codes "//") (t ++ r) z (ap (begins (codes "//")) (append_assoc t r z) ∙ ahead.line);
  block = begins_less (codes "/*") (t ++ r) z (ap (begins (codes "/*")) (append_assoc t r z) ∙ ahead.block);
}

-- the texts of tokens up to the next white space
abbrev pub run_on : List Token → List ℕ
run_on [] = []
run_on (t ∷ ts) = cond t.space [] (t.text ++ run_on ts)

-- no token goes on into those that follow it without white space
abbrev pub AllAhead : List Token → Type 0
AllAhead [] = Unit {0}
AllAhead (t ∷ ts) = Ahead t.text (run_on ts) × AllAhead ts

pub ahead_back : (front ts : List Token) → AllAhead (front ++ ts) → AllAhead ts
ahead_back [] ts all = all
ahead_back (t ∷ front) ts all = ahead_back front ts all.1

begins_two : (a b : ℕ) (s r : List ℕ) → 2 ≤ length s → begins (a ∷ b ∷ []) (s ++ r) ≡ begins (a ∷ b ∷ []) s
begins_two a b [] r long = absurd (omega arith)
begins_two a b (x ∷ []) r long = absurd (omega arith)
begins_two a b (x ∷ y ∷ s) r long = refl

some_long : (k : Kind) (t : List ℕ) → kind_of t ≡ Some k → 1 ≤ length t
some_long k [] is = cc
some_long k (b ∷ t) is = omega arith

two_dots : (d : ℕ) (y : List ℕ) → same (d ∷ y) (codes ".") ≡ false → kind_of (46 ∷ 46 ∷ d ∷ y) ≡ None
two_dots d y apart = kind-from (46 ∷ 46 ∷ d ∷ y) false false false false false false false refl refl refl refl (or_false (same (d ∷ y) (codes ".")) ∙ apart) refl refl

one_dot : (d : ℕ) (y : List ℕ) → same (d ∷ y) (codes ".") ≡ true → d ≡ 46
one_dot d y is = by (eqb d 46) refl is
  where
    by : (x : Bool) → eqb d 46 ≡ x → (x && same y []) ≡ true → d ≡ 46
    by true first both = eqb-true d 46 first
    by false first both = cc

dots_are : (t u : List ℕ) → t ≡ codes "." → u ≡ codes "." → kind_of (t ++ (u ++ 46 ∷ [])) ≡ Some Punct
dots_are t u first second = ap (λ x. kind_of (x ++ (u ++ 46 ∷ []))) first ∙ ap (λ x. kind_of (46 ∷ (x ++ 46 ∷ []))) second

-- the bytes of the next token that go on with two dots
third_by : (k : Kind) (x : List ℕ) (b : Bool) (d : ℕ) (y z more on t u : List ℕ) → kind_of x ≡ Some k → ((cond b (codes " ") []) ++ x) ++ more ≡ (d ∷ y) ++ z → d ≡ 46 → Ahead t (u ++ cond b [] (x ++ on)) → t ≡ codes "." → u ≡ codes "." → ⊥
third_by k x true d y z more on t u kind is dot ahead first second =
    let blank : 32 ≡ d = cc in
    absurd (omega arith)
third_by k [] false d y z more on t u kind is dot ahead first second = cc
third_by k (e ∷ es) false d y z more on t u kind is dot ahead first second =
    let front : e ≡ d = cc in
    let split : u ++ (e ∷ es ++ on) ≡ (u ++ 46 ∷ []) ++ (es ++ on) = ap (λ c. u ++ c ∷ (es ++ on)) (front ∙ dot) ∙ sym (append_assoc u (46 ∷ []) (es ++ on)) in
    no_both _ Punct (ahead.longer (u ++ 46 ∷ []) (es ++ on) split (filled u)) (dots_are t u first second)
  where
    filled : (u : List ℕ) → u ++ 46 ∷ [] ≢ []
    filled [] is = cc
    filled (a ∷ u) is = cc

third_dot : (t u : Token) (us : List Token) (d : ℕ) (y z : List ℕ) → t.text ≡ codes "." → u.text ≡ codes "." → AllByRecursion IsPrintable us → Ahead t.text (u.text ++ run_on us) → flat_map spaced us ≡ (d ∷ y) ++ z → same (d ∷ y) (codes ".") ≡ true → ⊥
third_dot t u [] d y z first second all ahead is third = cc
third_dot t u (v ∷ vs) d y z first second all ahead is third =
    third_by v.kind v.text v.space d y z (flat_map spaced vs) (run_on vs) t.text u.text all.0.kind is (one_dot d y third) ahead first second

-- a token after which another is without white space
next_by : (t u : Token) (us : List Token) (w z : List ℕ) → AllByRecursion IsPrintable (t ∷ u ∷ us) → Ahead t.text (u.text ++ run_on us) → Ahead u.text (flat_map spaced us) → w ≢ [] → Cut w z u.text (flat_map spaced us) → kind_of (t.text ++ w) ≡ None
next_by t u us w z all ahead behind some (within y front rest) = ahead.longer w (y ++ run_on us) (ap (λ x. x ++ run_on us) front ∙ append_assoc w y (run_on us)) some
next_by t u us w z all ahead behind some (beyond [] front rest) =
    ahead.longer w (run_on us) (ap (λ x. x ++ run_on us) (sym (front ∙ append-nil u.text))) some
next_by t u us w z all ahead behind some (beyond (d ∷ y) front rest) =
    let whole : kind_of (t.text ++ w) ≡ kind_of (t.text ++ u.text ++ d ∷ y) = ap (λ x. kind_of (t.text ++ x)) front ∙ ap kind_of (sym (append_assoc t.text u.text (d ∷ y))) in
    whole ∙ stable_none _ (λ never. never (over-neighbour t.kind u.kind t.text u.text d y (record {
      first = all.0.kind;
      first_closed = all.0.no_lone;
      second = all.1.0.kind;
      second_closed = all.1.0.no_lone;
      fronts = λ x v split filled. ahead.longer x (v ++ run_on us) (ap (λ q. q ++ run_on us) split ∙ append_assoc x v (run_on us)) filled;
      no_dots = λ first second. never (ap (λ q. kind_of (q ++ u.text ++ d ∷ y)) first ∙ ap (λ q. kind_of (46 ∷ (q ++ d ∷ y))) second ∙ two_dots d y (false_from_ne_true _ (third_dot t u us d y z first second all.1.1 ahead rest)));
      behind = behind.longer (d ∷ []) (y ++ z) rest (λ empty. cc);
    })))

mark_by : (t u : Token) (us : List Token) (b : Bool) → AllByRecursion IsPrintable (t ∷ u ∷ us) → Ahead t.text (cond b [] (u.text ++ run_on us)) → Ahead u.text (flat_map spaced us) → Ahead t.text (((cond b (codes " ") []) ++ u.text) ++ flat_map spaced us)
mark_by t u us true all ahead behind = ahead-blank t.kind t.text (u.text ++ flat_map spaced us) all.0.kind all.0.no_lone
mark_by t u us false all ahead behind =
    let long : 2 ≤ length (t.text ++ u.text) = omega (arith, length-append t.text u.text, some_long t.kind t.text all.0.kind, some_long u.kind u.text all.1.0.kind) in
    let same_start : (a c : ℕ) → begins (a ∷ c ∷ []) (t.text ++ (u.text ++ run_on us)) ≡ false → begins (a ∷ c ∷ []) (t.text ++ (u.text ++ flat_map spaced us)) ≡ false = λ a c is.
    ap (begins (a ∷ c ∷ [])) (sym (append_assoc t.text u.text (flat_map spaced us))) ∙ begins_two a c (t.text ++ u.text) (flat_map spaced us) long
    ∙ sym (begins_two a c (t.text ++ u.text) (run_on us) long) ∙ ap (begins (a ∷ c ∷ [])) (append_assoc t.text u.text (run_on us)) ∙ is in
    record {
      longer = λ w z is some. next_by t u us w z all ahead behind some (cut_of w z u.text (flat_map spaced us) (sym is));
      line = same_start 47 47 ahead.line;
      block = same_start 47 42 ahead.block;
    }

-- what is printed after a token makes no longer one with it
pub printed_ahead : (t : Token) (ts : List Token) → AllByRecursion IsPrintable (t ∷ ts) → AllAhead (t ∷ ts) → Ahead t.text (flat_map spaced ts)
printed_ahead t [] all aheads = ahead-end t.kind t.text all.0.kind
printed_ahead t (u ∷ us) all aheads = mark_by t u us u.space all aheads.0 (printed_ahead u us all.1 aheads.1)
