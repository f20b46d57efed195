-- A parameter list is read again from its text.
use Rattle.std.proofs.Common.{◌≡◌, ◌≢◌, ℕ, suc, ◌+◌, eqb, Bool, true, false, cond, not, ◌&&◌, ◌||◌, List, [], ◌∷◌, ◌++◌, length, drop, Option, Some, None, Result, Ok, Err, refl, sym, ◌∙◌, ap, subst, append_assoc, append-nil}
use Rattle.std.specs.Option.{option_or}
use Rattle.std.specs.List.{AllByRecursion, list_any, list_all, join_with_byte, prefix_len}
use Rattle.std.proofs.lemmas.Bool.{and_parts}
use lib.Chars.{codes}
use lib.Pointwise.{pointwise}
use Rattle.mac_base.specs.Input.{◌>>=◌}
use Rattle.mac_base.proofs.Choices.{same_ok}
use Rattle.pp_tokens.specs.declared.token.Kind.{Kind}
use Rattle.pp_tokens.specs.declared.token.Kind.TheVariants.{Identifier, Number, Char, Str, Punct, Header, LoneQuote, Other}
use Rattle.pp_tokens.specs.declared.token.Token.{Token}
use Rattle.pp_tokens.specs.Cleaning.{on_line_one, first_nul}
use Rattle.pp_tokens.specs.Kinds.{begins, same, is_digit, is_letter, is_word, is_quote, kind_of}
use Rattle.pp_tokens.specs.Kinds.{is_identifier as is_identifier_text}
use Rattle.pp_tokens.specs.Cut.{longest}
use Rattle.pp_tokens.specs.Scan.{word_length, word_before, word_or, prefixed_length, quoted_length, is_prefix}
use Rattle.pp_tokens.proofs.KindLemmas.{kind_by, kind_tests, differs, differs_from, ltb_suc}
use Rattle.pp_tokens.proofs.WordLemmas.{letter_longest}
use Rattle.pp_tokens.proofs.AheadLemmas.{Ahead}
use Rattle.macro_table.specs.declared.fault.DefFault.{DefFault}
use Rattle.macro_table.specs.declared.fault.DefFault.TheVariants.{ParamSyntax, VaArgs, RepeatedParam}
use Rattle.macro_table.specs.Definitions.{ParamList, is_identifier_kind, is_identifier, is_spelled, unless, where_true, first_of, is_va_args, param_fault, params_from, param_list}
use Rattle.macro_table.specs.Texts.{list_words}
use Rattle.macro_table.proofs.AheadLemmas.{ahead_of}
use Rattle.macro_table.proofs.ReadingLemmas.{Reads, IsName, token_read}
use Rattle.macro_table.proofs.ParamLemmas.{params_next}

-- names, and what follows them in a list

identifier_by : (i n c s p q o : Bool) → kind_by i n c s p q o ≡ Some Identifier → i ≡ true
identifier_by true n c s p q o is = refl
identifier_by false true c s p q o is = cc
identifier_by false false true s p q o is = cc
identifier_by false false false true p q o is = cc
identifier_by false false false false true q o is = cc
identifier_by false false false false false true o is = cc
identifier_by false false false false false false true is = cc
identifier_by false false false false false false false is = cc

letters : (x : List ℕ) → kind_of x ≡ Some Identifier → is_identifier_text x ≡ true
letters x is = identifier_by _ _ _ _ _ _ _ (sym (kind_tests x) ∙ is)

all_words : (xs : List ℕ) (c : ℕ) (r : List ℕ) → list_all is_word xs ≡ true → is_word c ≡ false → prefix_len is_word (xs ++ c ∷ r) ≡ length xs
all_words [] c r words other = ap (λ b. cond b (1 + prefix_len is_word r) 0) other
all_words (x ∷ xs) c r words other =
    let parts = and_parts (is_word x) _ words in
    ap (λ b. cond b (1 + prefix_len is_word (xs ++ c ∷ r)) 0) parts.0 ∙ ltb_suc (prefix_len is_word (xs ++ c ∷ r)) ∙ ap suc (all_words xs c r parts.1 other)

drop_all : (xs ys : List ℕ) → drop (length xs) (xs ++ ys) ≡ ys
drop_all [] ys = refl
drop_all (x ∷ xs) ys = drop_all xs ys

no_prefix : (c n : ℕ) (bytes behind : List ℕ) → is_quote c ≡ false → word_or c n (prefixed_length c n bytes behind) ≡ (Identifier, n)
no_prefix c n bytes behind other = ap (λ b. word_or c n (cond (b && is_prefix c n bytes) (quoted_length c behind) None)) other

word_alone : (b : ℕ) (x : List ℕ) (c : ℕ) (r : List ℕ) → is_letter b ≡ true → list_all is_word x ≡ true → is_word c ≡ false → is_quote c ≡ false → longest (b ∷ (x ++ c ∷ r)) ≡ Some (Identifier, length (b ∷ x))
word_alone b x c r letter words other quote =
    let bytes : List ℕ = b ∷ (x ++ c ∷ r) in
    let long : word_length bytes ≡ length (b ∷ x) = all_words (b ∷ x) c r (ap (λ t. (t || is_digit b) && list_all is_word x) letter ∙ words) other in
    letter_longest b (x ++ c ∷ r) letter
    ∙ ap Some (ap (λ n. word_before n bytes (drop n bytes)) long ∙ ap (word_before (length (b ∷ x)) bytes) (drop_all (b ∷ x) (c ∷ r)) ∙ no_prefix c (length (b ∷ x)) bytes r quote)

pub name_ahead : (x : List ℕ) (c : ℕ) (r : List ℕ) → kind_of x ≡ Some Identifier → is_word c ≡ false → is_quote c ≡ false → Ahead x (c ∷ r)
name_ahead [] c r kind other quote = cc
name_ahead (b ∷ x) c r kind other quote =
    let parts = and_parts (is_letter b) _ (letters (b ∷ x) kind) in
    ahead_of (b ∷ x) (c ∷ r) Identifier (word_alone b x c r parts.0 parts.1 other quote)
    (ap (λ t. t && begins (codes "/") (x ++ c ∷ r)) (differs_from is_letter b 47 parts.0 refl)) (ap (λ t. t && begins (codes "*") (x ++ c ∷ r)) (differs_from is_letter b 47 parts.0 refl))

pub no_name_is : (x : List ℕ) (c : ℕ) → kind_of x ≡ Some Identifier → is_letter c ≡ false → (ys : List ℕ) → pointwise eqb x (c ∷ ys) ≡ false
no_name_is [] c kind other ys = refl
no_name_is (b ∷ x) c kind other ys = ap (λ t. t && pointwise eqb x ys) (differs is_letter b c (and_parts (is_letter b) _ (letters (b ∷ x) kind)).0 other)

-- no byte 0

abbrev pub NoNul : List ℕ → Type 0
NoNul xs = first_nul (on_line_one xs) ≡ None

nul_step : (t : Bool) (o p : Option ℕ) → cond {A = Option ℕ} t (Some 1) o ≡ None → (o ≡ None → p ≡ None) → cond {A = Option ℕ} t (Some 1) p ≡ None
nul_step true o p none inner = cc
nul_step false o p none inner = inner none

pub nul_append : (xs ys : List ℕ) → NoNul xs → NoNul ys → NoNul (xs ++ ys)
nul_append [] ys first second = second
nul_append (x ∷ xs) ys first second = nul_step (eqb x 0) (first_nul (on_line_one xs)) (first_nul (on_line_one (xs ++ ys))) first (λ none. nul_append xs ys none second)

words_nul : (xs : List ℕ) → list_all is_word xs ≡ true → NoNul xs
words_nul [] words = refl
words_nul (x ∷ xs) words =
    let parts = and_parts (is_word x) _ words in
    ap (λ t. cond {A = Option ℕ} t (Some 1) (first_nul (on_line_one xs))) (differs is_word x 0 parts.0 refl) ∙ words_nul xs parts.1

pub name_nul : (x : List ℕ) → kind_of x ≡ Some Identifier → NoNul x
name_nul [] kind = refl
name_nul (b ∷ x) kind =
    let parts = and_parts (is_letter b) _ (letters (b ∷ x) kind) in
    words_nul (b ∷ x) (ap (λ t. (t || is_digit b) && list_all is_word x) parts.0 ∙ parts.1)

-- a token of its kind, without a byte 0
pub record IsWhole (t : Token) : Type 0 where
  pub kind : kind_of t.text ≡ Some t.kind
  pub no_nul : NoNul t.text

-- a token that begins no longer one, whatever follows it
open_ahead : (r : List ℕ) → Ahead (codes "(") r
open_ahead r = record { longer = λ w z is some. by w some; line = refl; block = refl }
  where
    by : (w : List ℕ) → w ≢ [] → kind_of (codes "(" ++ w) ≡ None
    by [] some = absurd (some refl)
    by (b ∷ w) some = refl

close_ahead : (r : List ℕ) → Ahead (codes ")") r
close_ahead r = record { longer = λ w z is some. by w some; line = refl; block = refl }
  where
    by : (w : List ℕ) → w ≢ [] → kind_of (codes ")" ++ w) ≡ None
    by [] some = absurd (some refl)
    by (b ∷ w) some = refl

comma_ahead : (r : List ℕ) → Ahead (codes ",") r
comma_ahead r = record { longer = λ w z is some. by w some; line = refl; block = refl }
  where
    by : (w : List ℕ) → w ≢ [] → kind_of (codes "," ++ w) ≡ None
    by [] some = absurd (some refl)
    by (b ∷ w) some = refl

dots_ahead : (r : List ℕ) → Ahead (codes "...") (41 ∷ r)
dots_ahead r = record { longer = λ w z is some. by w z is some; line = refl; block = refl }
  where
    by : (w z : List ℕ) → 41 ∷ r ≡ w ++ z → w ≢ [] → kind_of (codes "..." ++ w) ≡ None
    by [] z is some = absurd (some refl)
    by (b ∷ w) z is some = let first : 41 ≡ b = cc in ap (λ c. kind_of (codes "..." ++ c ∷ w)) (sym first)

-- a punctuator without white space before it
abbrev pub mark : List ℕ → Token
mark text = record { kind = Punct; text = text; space = false }

-- a name without white space before it
abbrev pub name_token : List ℕ → Token
name_token text = record { kind = Identifier; text = text; space = false }

pub open_read : (a : Token) (done : List Token) (r : List ℕ) (ts : List Token) → IsName a → ((late : List Token) → Reads a late false r ts) → Reads a done false (40 ∷ r) (mark (codes "(") ∷ ts)
open_read a done r ts name rest = token_read a done false (mark (codes "(")) r ts name refl (open_ahead r) refl (rest (done ++ mark (codes "(") ∷ []))

close_read : (a : Token) (done : List Token) (r : List ℕ) (ts : List Token) → IsName a → ((late : List Token) → Reads a late false r ts) → Reads a done false (41 ∷ r) (mark (codes ")") ∷ ts)
close_read a done r ts name rest = token_read a done false (mark (codes ")")) r ts name refl (close_ahead r) refl (rest (done ++ mark (codes ")") ∷ []))

comma_read : (a : Token) (done : List Token) (r : List ℕ) (ts : List Token) → IsName a → ((late : List Token) → Reads a late false r ts) → Reads a done false (44 ∷ r) (mark (codes ",") ∷ ts)
comma_read a done r ts name rest = token_read a done false (mark (codes ",")) r ts name refl (comma_ahead r) refl (rest (done ++ mark (codes ",") ∷ []))

dots_read : (a : Token) (done : List Token) (r : List ℕ) (ts : List Token) → IsName a → ((late : List Token) → Reads a late false (41 ∷ r) ts) → Reads a done false (codes "..." ++ 41 ∷ r) (mark (codes "...") ∷ ts)
dots_read a done r ts name rest = token_read a done false (mark (codes "...")) (41 ∷ r) ts name refl (dots_ahead r) refl (rest (done ++ mark (codes "...") ∷ []))

param_read : (a : Token) (done : List Token) (x : List ℕ) (c : ℕ) (r : List ℕ) (ts : List Token) → IsName a → kind_of x ≡ Some Identifier → is_word c ≡ false → is_quote c ≡ false → ((late : List Token) → Reads a late false (c ∷ r) ts) → Reads a done false (x ++ c ∷ r) (name_token x ∷ ts)
param_read a done x c r ts name kind other quote rest = token_read a done false (name_token x) (c ∷ r) ts name kind (name_ahead x c r kind other quote) refl (rest (done ++ name_token x ∷ []))

-- the parameters that follow others, and how their text is read again
pub record Again (before new : List (List ℕ)) (variadic : Bool) : Type 0 where
  pub first : Token
  pub others : List Token
  pub no_close : is_spelled (codes ")") first ≡ false
  pub parse : (B : List Token) → params_from before (first ∷ (others ++ B)) ≡ Ok (record { names = before ++ new; variadic = variadic; behind = B })
  pub word : List ℕ
  pub words : List (List ℕ)
  pub are : list_words new variadic ≡ word ∷ words
  pub no_nul : NoNul (join_with_byte 44 (word ∷ words))
  pub read : (a : Token) (done : List Token) (r : List ℕ) (ts : List Token) → IsName a → ((late : List Token) → Reads a late false r ts) → Reads a done false (join_with_byte 44 (word ∷ words) ++ 41 ∷ r) (first ∷ (others ++ ts))

again_dots : (before : List (List ℕ)) → Again before [] true
again_dots before = record {
  first = mark (codes "...");
  others = mark (codes ")") ∷ [];
  no_close = refl;
  parse = λ B. ap (λ (names : List (List ℕ)). Ok (record { names = names; variadic = true; behind = B })) (sym (append-nil before));
  word = codes "...";
  words = [];
  are = refl;
  no_nul = refl;
  read = λ a done r ts name rest. dots_read a done r (mark (codes ")") ∷ ts) name (λ late. close_read a late r ts name rest);
}

-- a parameter that may be there
pub record IsParam (before : List (List ℕ)) (x : List ℕ) : Type 0 where
  pub kind : kind_of x ≡ Some Identifier
  pub no_dots : is_spelled (codes "...") (name_token x) ≡ false
  pub no_fault : param_fault before (name_token x) ≡ None

params_end : (before : List (List ℕ)) (x : List ℕ) (B : List Token) → IsParam before x → params_from before (name_token x ∷ mark (codes ")") ∷ B) ≡ Ok (record { names = before ++ x ∷ []; variadic = false; behind = B })
params_end before x B param =
    ap (λ b. cond b (Ok (record { names = before; variadic = true; behind = B })) (rest (param_fault before (name_token x)))) param.no_dots ∙ ap rest param.no_fault
  where
    rest : Option DefFault → Result ParamList DefFault
    rest fault = unless fault (before ++ x ∷ []) >>= λ names. Ok (record { names = names; variadic = false; behind = B })

again_last : (before : List (List ℕ)) (x : List ℕ) → IsParam before x → Again before (x ∷ []) false
again_last before x param = record {
  first = name_token x;
  others = mark (codes ")") ∷ [];
  no_close = no_name_is x 41 param.kind refl [];
  parse = λ B. params_end before x B param;
  word = x;
  words = [];
  are = refl;
  no_nul = name_nul x param.kind;
  read = λ a done r ts name rest. param_read a done x 41 r (mark (codes ")") ∷ ts) name param.kind refl refl (λ late. close_read a late r ts name rest);
}

again_more : (before new : List (List ℕ)) (x : List ℕ) (variadic : Bool) → IsParam before x → Again (before ++ x ∷ []) new variadic → Again before (x ∷ new) variadic
again_more before new x variadic param next = record {
  first = name_token x;
  others = mark (codes ",") ∷ next.first ∷ next.others;
  no_close = no_name_is x 41 param.kind refl [];
  parse = λ B.
      sym (params_next before (before ++ x ∷ []) (name_token x) (mark (codes ",")) (name_token x ∷ mark (codes ",") ∷ next.first ∷ (next.others ++ B)) (next.first ∷ (next.others ++ B)) refl param.no_dots param.no_fault refl refl)
      ∙ next.parse B ∙ ap (λ (names : List (List ℕ)). Ok (record { names = names; variadic = variadic; behind = B })) (append_assoc before (x ∷ []) new);
  word = x;
  words = next.word ∷ next.words;
  are = ap (λ (ws : List (List ℕ)). x ∷ ws) next.are;
  no_nul = nul_append x (44 ∷ join_with_byte 44 (next.word ∷ next.words)) (name_nul x param.kind) next.no_nul;
  read = λ a done r ts name rest.
      let text : x ++ 44 ∷ (join_with_byte 44 (next.word ∷ next.words) ++ 41 ∷ r) ≡ join_with_byte 44 (x ∷ next.word ∷ next.words) ++ 41 ∷ r = sym (append_assoc x (44 ∷ join_with_byte 44 (next.word ∷ next.words)) (41 ∷ r)) in
      subst (λ t. Reads a done false t (name_token x ∷ mark (codes ",") ∷ next.first ∷ (next.others ++ ts))) text
      (param_read a done x 44 (join_with_byte 44 (next.word ∷ next.words) ++ 41 ∷ r) (mark (codes ",") ∷ next.first ∷ (next.others ++ ts)) name param.kind refl refl (λ late.
      comma_read a late (join_with_byte 44 (next.word ∷ next.words) ++ 41 ∷ r) (next.first ∷ (next.others ++ ts)) name (λ later. next.read a later r ts name rest)));
}

-- the list of the code, taken apart

-- the tokens end in these
abbrev pub EndsIn : List Token → List Token → Type 0
EndsIn ts behind = (front : List Token) × (ts ≡ front ++ behind)

ends_more : (t : Token) (ts behind : List Token) → EndsIn ts behind → EndsIn (t ∷ ts) behind
ends_more t ts behind (front, is) = (t ∷ front, ap (λ (us : List Token). t ∷ us) is)

-- what is known of a list that was read
pub record Found (before : List (List ℕ)) (ts : List Token) (list : ParamList) : Type 0 where
  pub new : List (List ℕ)
  pub names : list.names ≡ before ++ new
  pub again : Again before new list.variadic
  pub ends : EndsIn ts list.behind

not_name : (fault : Option DefFault) (i : Bool) → option_or (where_true (not i) ParamSyntax) fault ≡ None → i ≡ true
not_name fault true is = refl
not_name fault false is = cc

kind_is : (k : Kind) → is_identifier_kind k ≡ true → k ≡ Identifier
kind_is Identifier is = refl
kind_is Number is = cc
kind_is Char is = cc
kind_is Str is = cc
kind_is Punct is = cc
kind_is Header is = cc
kind_is LoneQuote is = cc
kind_is Other is = cc

pub identifier_kind : (t : Token) → kind_of t.text ≡ Some t.kind → is_identifier t ≡ true → kind_of t.text ≡ Some Identifier
identifier_kind t kind is = kind ∙ ap Some (kind_is t.kind is)

-- the fault of a token that is an identifier is that of its name
same_fault : (before : List (List ℕ)) (t : Token) → is_identifier t ≡ true → param_fault before t ≡ param_fault before (name_token t.text)
same_fault before t is = ap (λ i. option_or (where_true (not i) ParamSyntax) (rest t.text)) is
  where
    rest : List ℕ → Option DefFault
    rest text = first_of (where_true (is_va_args (name_token text)) VaArgs ∷ where_true (list_any (same text) before) RepeatedParam ∷ [])

param_of : (before : List (List ℕ)) (t : Token) → kind_of t.text ≡ Some t.kind → is_spelled (codes "...") t ≡ false → param_fault before t ≡ None → IsParam before t.text
param_of before t kind dots fine =
    let is : is_identifier t ≡ true = not_name _ (is_identifier t) fine in
    record { kind = identifier_kind t kind is; no_dots = dots; no_fault = sym (same_fault before t is) ∙ fine }

found_dots : (before : List (List ℕ)) (t u : Token) (ts : List Token) (list : ParamList) → record { names = before; variadic = true; behind = ts } ≡ list → Found before (t ∷ u ∷ ts) list
found_dots before t u ts list is =
    subst (Found before (t ∷ u ∷ ts)) is (record { new = []; names = sym (append-nil before); again = again_dots before; ends = (t ∷ u ∷ [], refl) })

found_last : (before : List (List ℕ)) (t u : Token) (ts : List Token) (list : ParamList) → IsParam before t.text → record { names = before ++ t.text ∷ []; variadic = false; behind = ts } ≡ list → Found before (t ∷ u ∷ ts) list
found_last before t u ts list param is =
    subst (Found before (t ∷ u ∷ ts)) is (record { new = t.text ∷ []; names = refl; again = again_last before t.text param; ends = (t ∷ u ∷ [], refl) })

found_more : (before : List (List ℕ)) (t u : Token) (ts : List Token) (list : ParamList) → IsParam before t.text → Found (before ++ t.text ∷ []) ts list → Found before (t ∷ u ∷ ts) list
found_more before t u ts list param found = record {
  new = t.text ∷ found.new;
  names = found.names ∙ append_assoc before (t.text ∷ []) found.new;
  again = again_more before found.new t.text list.variadic param found.again;
  ends = ends_more t (u ∷ ts) list.behind (ends_more u ts list.behind found.ends);
}

no_end : {A : Type 0} (fault : Option DefFault) (x : A) (list : ParamList) → (unless fault x >>= λ _. Err ParamSyntax) ≡ Ok list → ⊥
no_end None x list is = cc
no_end (Some f) x list is = cc

found_by : (before : List (List ℕ)) (t u : Token) (ts : List Token) (list : ParamList) (dots comma close : Bool) (fault : Option DefFault) → kind_of t.text ≡ Some t.kind →
    is_spelled (codes "...") t ≡ dots → param_fault before t ≡ fault → (params_from (before ++ t.text ∷ []) ts ≡ Ok list → Found (before ++ t.text ∷ []) ts list) →
    cond dots (cond close (Ok (record { names = before; variadic = true; behind = ts })) (Err ParamSyntax))
    (unless fault (before ++ t.text ∷ []) >>= λ names. cond comma (params_from names ts) (cond close (Ok (record { names = names; variadic = false; behind = ts })) (Err ParamSyntax))) ≡ Ok list → Found before (t ∷ u ∷ ts) list
found_by before t u ts list true comma true fault kind dots fine inner is = found_dots before t u ts list (same_ok {E = DefFault} _ _ is)
found_by before t u ts list true comma false fault kind dots fine inner is = cc
found_by before t u ts list false comma close (Some f) kind dots fine inner is = cc
found_by before t u ts list false true close None kind dots fine inner is = found_more before t u ts list (param_of before t kind dots fine) (inner is)
found_by before t u ts list false false true None kind dots fine inner is = found_last before t u ts list (param_of before t kind dots fine) (same_ok {E = DefFault} _ _ is)
found_by before t u ts list false false false None kind dots fine inner is = cc

found_from : (before : List (List ℕ)) (ts : List Token) (list : ParamList) → AllByRecursion IsWhole ts → params_from before ts ≡ Ok list → Found before ts list
found_from before [] list all is = cc
found_from before (t ∷ []) list all is = absurd (no_end (param_fault before t) before list is)
found_from before (t ∷ u ∷ ts) list all is =
    found_by before t u ts list (is_spelled (codes "...") t) (is_spelled (codes ",") u) (is_spelled (codes ")") u) (param_fault before t) all.0.kind refl refl (found_from (before ++ t.text ∷ []) ts list all.1.1) is

-- a whole list, and how its text is read again
pub record Listed (ts : List Token) (list : ParamList) : Type 0 where
  pub toks : List Token
  pub parse : (B : List Token) → param_list (toks ++ B) ≡ Ok (record { names = list.names; variadic = list.variadic; behind = B })
  pub read : (a : Token) (done : List Token) (r : List ℕ) (ts : List Token) → IsName a → ((late : List Token) → Reads a late false r ts) → Reads a done false (join_with_byte 44 (list_words list.names list.variadic) ++ 41 ∷ r) (toks ++ ts)
  pub ends : EndsIn ts list.behind
  pub no_nul : NoNul (join_with_byte 44 (list_words list.names list.variadic))

listed_empty : (t : Token) (ts : List Token) (list : ParamList) → record { names = []; variadic = false; behind = ts } ≡ list → Listed (t ∷ ts) list
listed_empty t ts list is = subst (Listed (t ∷ ts)) is (record {
  toks = mark (codes ")") ∷ [];
  parse = λ B. refl;
  read = λ a done r us name rest. close_read a done r us name rest;
  ends = (t ∷ [], refl);
  no_nul = refl;
})

listed_some : (ts : List Token) (list : ParamList) → Found [] ts list → Listed ts list
listed_some ts list found =
    let words : list_words list.names list.variadic ≡ found.again.word ∷ found.again.words = ap (λ (names : List (List ℕ)). list_words names list.variadic) found.names ∙ found.again.are in
    record {
      toks = found.again.first ∷ found.again.others;
      parse = λ B.
          ap (λ b. cond b (cond b (Ok (record { names = []; variadic = false; behind = found.again.others ++ B })) (Err ParamSyntax)) (params_from [] (found.again.first ∷ (found.again.others ++ B)))) found.again.no_close
          ∙ found.again.parse B ∙ ap (λ (names : List (List ℕ)). Ok (record { names = names; variadic = list.variadic; behind = B })) (sym found.names);
      read = λ a done r us name rest.
          subst (λ (ws : List (List ℕ)). Reads a done false (join_with_byte 44 ws ++ 41 ∷ r) (found.again.first ∷ (found.again.others ++ us))) (sym words) (found.again.read a done r us name rest);
      ends = found.ends;
      no_nul = subst (λ (ws : List (List ℕ)). NoNul (join_with_byte 44 ws)) (sym words) found.again.no_nul;
    }

listed_by : (t : Token) (ts : List Token) (list : ParamList) (close : Bool) → is_spelled (codes ")") t ≡ close → AllByRecursion IsWhole (t ∷ ts) → cond close (cond close (Ok (record { names = []; variadic = false; behind = ts })) (Err ParamSyntax)) (params_from [] (t ∷ ts)) ≡ Ok list → Listed (t ∷ ts) list
listed_by t ts list true closes all is = listed_empty t ts list (same_ok {E = DefFault} _ _ is)
listed_by t ts list false closes all is = listed_some (t ∷ ts) list (found_from [] (t ∷ ts) list all is)

pub listed : (ts : List Token) (list : ParamList) → AllByRecursion IsWhole ts → param_list ts ≡ Ok list → Listed ts list
listed [] list all is = cc
listed (t ∷ ts) list all is = listed_by t ts list (is_spelled (codes ")") t) refl all is
