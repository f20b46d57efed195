-- The token of a word by the byte after it.
use Rattle.std.proofs.Common.{◌≡◌, ℕ, suc, Bool, true, false, cond, List, [], ◌∷◌, drop, Option, Some, None, refl, sym, ◌∙◌, ap}
use Rattle.std.proofs.lemmas.List.{drop-map}
use Rattle.pp_tokens.specs.declared.token.Kind.{Kind}
use Rattle.pp_tokens.specs.declared.token.Kind.TheVariants.{Identifier, Number}
use Rattle.pp_tokens.specs.Cleaning.{Char, bytes_of}
use Rattle.pp_tokens.specs.Kinds.{is_letter, is_quote}
use Rattle.pp_tokens.specs.Kinds.{begins_number}
use Rattle.pp_tokens.specs.Scan.{number_rest, quote_or, quoted_length, punct_or, punctuator_length, scanned, first_byte, word_length, prefixed_length, word_or, word_before, word_token}

quote_behind : (word q : ℕ) (bytes : List ℕ) (cs : List Char) → Some q ≡ first_byte cs → word_before word bytes (bytes_of cs) ≡ word_or q word (prefixed_length q word bytes (bytes_of (drop 1 cs)))
quote_behind word q bytes [] is = cc
quote_behind word q bytes (c ∷ cs) is =
    let same : c.byte ≡ q = cc in
    ap (λ b. word_or b word (prefixed_length b word bytes (bytes_of cs))) same

none_behind : (word : ℕ) (bytes : List ℕ) (cs : List Char) → None ≡ first_byte cs → word_before word bytes (bytes_of cs) ≡ (Identifier, word)
none_behind word bytes [] is = refl
none_behind word bytes (c ∷ cs) is = cc

behind_word : (cs behind : List Char) (word : ℕ) → word ≡ word_length (bytes_of cs) → behind ≡ drop word cs → word_token (bytes_of cs) ≡ word_before word (bytes_of cs) (bytes_of behind)
behind_word cs behind word is front =
    ap (λ n. word_before n (bytes_of cs) (drop n (bytes_of cs))) (sym is) ∙ ap (word_before word (bytes_of cs)) (drop-map (λ (c : Char). c.byte) word cs ∙ ap bytes_of (sym front))

pub word-alone : (cs behind : List Char) (word : ℕ) → word ≡ word_length (bytes_of cs) → behind ≡ drop word cs → None ≡ first_byte behind → (Identifier, word) ≡ word_token (bytes_of cs)
word-alone cs behind word is front none = sym (behind_word cs behind word is front ∙ none_behind word (bytes_of cs) behind none)

pub word-with_quote : (cs behind : List Char) (word q : ℕ) (found : Option ℕ) → word ≡ word_length (bytes_of cs) → behind ≡ drop word cs → Some q ≡ first_byte behind →
    found ≡ prefixed_length q word (bytes_of cs) (bytes_of (drop 1 behind)) → word_or q word found ≡ word_token (bytes_of cs)
word-with_quote cs behind word q found is front quote quoted =
    ap (word_or q word) quoted ∙ sym (behind_word cs behind word is front ∙ quote_behind word q (bytes_of cs) behind quote)

-- the token by its first byte
scanned_by : ℕ → List ℕ → List ℕ → Kind × ℕ
scanned_by first bytes behind =
    cond (is_letter first) (word_token bytes) (cond (begins_number first behind) (Number, suc (number_rest first behind)) (cond (is_quote first) (quote_or first (quoted_length first behind)) (punct_or (punctuator_length bytes))))

scanned_at : (cs : List Char) (first : ℕ) → Some first ≡ first_byte cs → scanned (bytes_of cs) ≡ scanned_by first (bytes_of cs) (bytes_of (drop 1 cs))
unfolding scanned_by
scanned_at [] first is = cc
scanned_at (c ∷ cs) first is =
    let same : c.byte ≡ first = cc in
    ap (λ b. scanned_by b (bytes_of (c ∷ cs)) (bytes_of cs)) same

first_way : {A : Type 0} (t : Bool) (x y : A) → t ≡ true → cond t x y ≡ x
first_way true x y is = refl
first_way false x y is = cc

second_way : {A : Type 0} (t : Bool) (x y : A) → t ≡ false → cond t x y ≡ y
second_way true x y is = cc
second_way false x y is = refl

pub scanned-word : (cs : List Char) (first : ℕ) → Some first ≡ first_byte cs → is_letter first ≡ true → word_token (bytes_of cs) ≡ scanned (bytes_of cs)
unfolding scanned_by
scanned-word cs first is letter = sym (scanned_at cs first is ∙ first_way (is_letter first) _ _ letter)

pub scanned-number : (cs : List Char) (first : ℕ) → Some first ≡ first_byte cs → is_letter first ≡ false → begins_number first (bytes_of (drop 1 cs)) ≡ true → (Number, suc (number_rest first (bytes_of (drop 1 cs)))) ≡ scanned (bytes_of cs)
unfolding scanned_by
scanned-number cs first is letter number =
    sym (scanned_at cs first is ∙ second_way (is_letter first) _ _ letter ∙ first_way (begins_number first (bytes_of (drop 1 cs))) _ _ number)

pub scanned-quote : (cs : List Char) (first : ℕ) → Some first ≡ first_byte cs → is_letter first ≡ false → begins_number first (bytes_of (drop 1 cs)) ≡ false → is_quote first ≡ true →
    quote_or first (quoted_length first (bytes_of (drop 1 cs))) ≡ scanned (bytes_of cs)
unfolding scanned_by
scanned-quote cs first is letter number quote =
    sym (scanned_at cs first is ∙ second_way (is_letter first) _ _ letter ∙ second_way (begins_number first (bytes_of (drop 1 cs))) _ _ number ∙ first_way (is_quote first) _ _ quote)

pub scanned-punct : (cs : List Char) (first : ℕ) → Some first ≡ first_byte cs → is_letter first ≡ false → begins_number first (bytes_of (drop 1 cs)) ≡ false → is_quote first ≡ false →
    punct_or (punctuator_length (bytes_of cs)) ≡ scanned (bytes_of cs)
unfolding scanned_by
scanned-punct cs first is letter number quote =
    sym (scanned_at cs first is ∙ second_way (is_letter first) _ _ letter ∙ second_way (begins_number first (bytes_of (drop 1 cs))) _ _ number ∙ second_way (is_quote first) _ _ quote)
