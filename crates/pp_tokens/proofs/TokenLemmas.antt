-- The scanner finds the longest token.
use Rattle.std.proofs.Common.{◌≡◌, ℕ, suc, eqb, Bool, true, false, cond, ◌||◌, ◌&&◌, List, [], ◌∷◌, drop, Option, Some, None, refl, sym, ◌∙◌, ap, subst}
use Rattle.std.specs.Option.{option_map}
use borrow.Author.Tests.{eqb-true}
use Rattle.pp_tokens.specs.declared.piece.PieceKind.TheVariants.{Word}
use Rattle.pp_tokens.specs.declared.token.Kind.{Kind}
use Rattle.pp_tokens.specs.declared.token.Kind.TheVariants.{Number}
use Rattle.pp_tokens.specs.Cleaning.{Char, bytes_of}
use Rattle.pp_tokens.specs.Kinds.{is_blank, is_letter, is_quote, is_digit, first_is, begins_number}
use Rattle.pp_tokens.specs.Cut.{longest, token_or, token_at}
use Rattle.pp_tokens.specs.Scan.{first_byte, header_by, scanned, number_rest, word_token, quote_or, quoted_length, punct_or, punctuator_length}
use Rattle.pp_tokens.proofs.LongestLemmas.{digit_longest, dot_longest, longest_39, longest_34}
use Rattle.pp_tokens.proofs.WordLemmas.{letter_longest}
use Rattle.pp_tokens.proofs.PunctLemmas.{punct_longest}

number_cases : (b : ℕ) (bs : List ℕ) (d e : Bool) → is_digit b ≡ d → eqb b 46 ≡ e → (d || (e && first_is is_digit bs)) ≡ true → longest (b ∷ bs) ≡ Some (Number, suc (number_rest b bs))
number_cases b bs true e digit dot is = digit_longest b bs digit
number_cases b bs false true digit dot is =
    let same : 46 ≡ b = sym (eqb-true b 46 dot) in
    subst (λ x. longest (x ∷ bs) ≡ Some (Number, suc (number_rest x bs))) same (dot_longest bs is)
number_cases b bs false false digit dot is = cc

quote_cases : (b : ℕ) (bs : List ℕ) (x y : Bool) → eqb b 39 ≡ x → eqb b 34 ≡ y → (x || y) ≡ true → longest (b ∷ bs) ≡ Some (quote_or b (quoted_length b bs))
quote_cases b bs true y single double is =
    let same : 39 ≡ b = sym (eqb-true b 39 single) in
    subst (λ x. longest (x ∷ bs) ≡ Some (quote_or x (quoted_length x bs))) same (longest_39 bs (quoted_length 39 bs) refl)
quote_cases b bs false true single double is =
    let same : 34 ≡ b = sym (eqb-true b 34 double) in
    subst (λ x. longest (x ∷ bs) ≡ Some (quote_or x (quoted_length x bs))) same (longest_34 bs (quoted_length 34 bs) refl)
quote_cases b bs false false single double is = cc

scanned_cases : (b : ℕ) (bs : List ℕ) (l n q : Bool) → is_letter b ≡ l → begins_number b bs ≡ n → is_quote b ≡ q → eqb b 10 ≡ false → is_blank b ≡ false →
    longest (b ∷ bs) ≡ Some (cond l (word_token (b ∷ bs)) (cond n (Number, suc (number_rest b bs)) (cond q (quote_or b (quoted_length b bs)) (punct_or (punctuator_length (b ∷ bs))))))
scanned_cases b bs true n q letter number quote not_line_feed not_blank = letter_longest b bs letter
scanned_cases b bs false true q letter number quote not_line_feed not_blank = number_cases b bs (is_digit b) (eqb b 46) refl refl number
scanned_cases b bs false false true letter number quote not_line_feed not_blank = quote_cases b bs (eqb b 39) (eqb b 34) refl refl quote
scanned_cases b bs false false false letter number quote not_line_feed not_blank = punct_longest b bs letter number quote not_line_feed not_blank

pub scanned-longest : (b : ℕ) (bs : List ℕ) → eqb b 10 ≡ false → is_blank b ≡ false → longest (b ∷ bs) ≡ Some (scanned (b ∷ bs))
scanned-longest b bs not_line_feed not_blank = scanned_cases b bs (is_letter b) (begins_number b bs) (is_quote b) refl refl refl not_line_feed not_blank

no_header : (o : Option ℕ) (bytes : List ℕ) (found : Kind × ℕ) → None ≡ o → longest bytes ≡ Some found → Some (Word found.0, found.1) ≡ token_or o bytes
no_header None bytes found none is = ap (option_map (λ (f : Kind × ℕ). (Word f.0, f.1))) (sym is)
no_header (Some n) bytes found none is = cc

pub token-found : (header : Bool) (cs : List Char) (first : ℕ) (found : Kind × ℕ) → Some first ≡ first_byte cs → eqb first 10 ≡ false → is_blank first ≡ false →
    None ≡ cond header (header_by first (bytes_of (drop 1 cs))) None → found ≡ scanned (bytes_of cs) → Some (Word found.0, found.1) ≡ token_at header (bytes_of cs)
token-found header [] first found is not_line_feed not_blank none scan = cc
token-found header (c ∷ cs) first found is not_line_feed not_blank none scan =
    let same : c.byte ≡ first = cc in
    let line : eqb c.byte 10 ≡ false = ap (λ b. eqb b 10) same ∙ not_line_feed in
    let blank : is_blank c.byte ≡ false = ap is_blank same ∙ not_blank in
    no_header _ (bytes_of (c ∷ cs)) found (none ∙ ap (λ b. cond header (header_by b (bytes_of cs)) None) (sym same)) (scanned-longest c.byte (bytes_of cs) line blank ∙ ap (λ (f : Kind × ℕ). Some f) (sym scan))
