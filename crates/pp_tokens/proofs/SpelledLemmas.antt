-- In tokens that phase 3 gives, kind and spelling agree.
use Rattle.std.proofs.Common.{◌≡◌, ◌≢◌, ℕ, zero, suc, ◌+◌, eqb, Bool, true, false, not, cond, ◌&&◌, ◌||◌, List, [], ◌∷◌, ◌++◌, length, take, drop, Option, Some, None, Ok, eq-eqb, refl, sym, ◌∙◌, ap, subst, append_assoc, append-nil, arith}
use Rattle.std.proofs.lemmas.List.{take_at, length-map, map-append}
use Rattle.std.specs.List.{AllByRecursion, list_any, list_all}
use Rattle.std.specs.Option.{unwrap_or, option_map}
use Rattle.std.specs.Cmp.Lexicographic.{same_text}
use borrow.Author.Tests.{eqb-true}
use Rattle.std.proofs.lemmas.Bool.Decides.{nat_tests}
use Rattle.std.proofs.lemmas.Bool.{false_from_ne_true}
use lib.Chars.{codes}
use Rattle.pp_tokens.specs.declared.line.Line.{Line}
use Rattle.pp_tokens.specs.declared.piece.PieceKind.{PieceKind}
use Rattle.pp_tokens.specs.declared.piece.PieceKind.TheVariants.{Blank, LineEnd, Comment, Word}
use Rattle.pp_tokens.specs.declared.token.Kind.{Kind}
use Rattle.pp_tokens.specs.declared.token.Kind.TheVariants.{Identifier, Number, Char as Constant, Str, Punct, Header, LoneQuote, Other}
use Rattle.pp_tokens.specs.declared.token.Token.{Token}
use Rattle.pp_tokens.specs.Cleaning.{Char, bytes_of}
use Rattle.pp_tokens.specs.Kinds.{begins, same, first_is, is_quote, is_blank, is_identifier, is_number, is_char, is_str, punctuators, is_punct, is_one, kind_of}
use Rattle.pp_tokens.specs.Cut.{LinesSoFar, Piece, no_page, put, put_all, with_token, ended, lines_of, chars_of, longest, longest_within, longer, up_to, header_name, token_or, line_rest, up_to_close, piece_at, header_may_stand, AreCut}
use Rattle.pp_tokens.specs.Tokens.{is_identifier_kind, is_punctuator_kind, is_quote_kind}
use Rattle.pp_tokens.specs.Spelled.{KindIsSpelled, LineIsSpelled, FileIsSpelled, TextIsSpelled, OperatorsArePunctuators, NamesAreIdentifiers}
use Rattle.pp_tokens.proofs.KindLemmas.{kind_by, kind_tests, clash}
use Rattle.pp_tokens.proofs.CloseLemmas.{in_table, has}
use Rattle.mac_base.proofs.TestLemmas.{or_true, same_tests}

-- a kind and a text that agree
record Agree (k : Kind) (s : List ℕ) : Type 0 where
  kind : k ≢ Header → kind_of s ≡ Some k
  identifier : is_identifier_kind k ≡ is_identifier s
  punctuator : is_punctuator_kind k ≡ is_punct s
  lone_quote : is_quote_kind k ≡ is_one is_quote s

-- by the table of kinds

same_kind : (j k : Kind) → ◌≡◌ {A = Option Kind} (Some j) (Some k) → j ≡ k
same_kind j k is = cc

identifier_by : (i n c s p q o : Bool) (k : Kind) → kind_by i n c s p q o ≡ Some k → is_identifier_kind k ≡ i
identifier_by true n c s p q o k is = ap is_identifier_kind (sym (same_kind Identifier k is))
identifier_by false true c s p q o k is = ap is_identifier_kind (sym (same_kind Number k is))
identifier_by false false true s p q o k is = ap is_identifier_kind (sym (same_kind Constant k is))
identifier_by false false false true p q o k is = ap is_identifier_kind (sym (same_kind Str k is))
identifier_by false false false false true q o k is = ap is_identifier_kind (sym (same_kind Punct k is))
identifier_by false false false false false true o k is = ap is_identifier_kind (sym (same_kind LoneQuote k is))
identifier_by false false false false false false true k is = ap is_identifier_kind (sym (same_kind Other k is))
identifier_by false false false false false false false k is = cc

punctuator_by : (i n c s p q o : Bool) → kind_by i n c s p q o ≡ Some Punct → p ≡ true
punctuator_by true n c s p q o is = cc
punctuator_by false true c s p q o is = cc
punctuator_by false false true s p q o is = cc
punctuator_by false false false true p q o is = cc
punctuator_by false false false false true q o is = refl
punctuator_by false false false false false true o is = cc
punctuator_by false false false false false false true is = cc
punctuator_by false false false false false false false is = cc

quote_by : (i n c s p q o : Bool) → kind_by i n c s p q o ≡ Some LoneQuote → q ≡ true
quote_by true n c s p q o is = cc
quote_by false true c s p q o is = cc
quote_by false false true s p q o is = cc
quote_by false false false true p q o is = cc
quote_by false false false false true q o is = cc
quote_by false false false false false true o is = refl
quote_by false false false false false false true is = cc
quote_by false false false false false false false is = cc

kind_is_punct : (k : Kind) → is_punctuator_kind k ≡ true → k ≡ Punct
kind_is_punct Identifier is = cc
kind_is_punct Number is = cc
kind_is_punct Constant is = cc
kind_is_punct Str is = cc
kind_is_punct Punct is = refl
kind_is_punct Header is = cc
kind_is_punct LoneQuote is = cc
kind_is_punct Other is = cc

kind_is_quote : (k : Kind) → is_quote_kind k ≡ true → k ≡ LoneQuote
kind_is_quote Identifier is = cc
kind_is_quote Number is = cc
kind_is_quote Constant is = cc
kind_is_quote Str is = cc
kind_is_quote Punct is = cc
kind_is_quote Header is = cc
kind_is_quote LoneQuote is = refl
kind_is_quote Other is = cc

-- a kind that passes a test
abbrev passes : (Kind → Bool) → Option Kind → Bool
passes test None = false
passes test (Some k) = test k

passes_own : (test : Kind → Bool) (o : Option Kind) (k : Kind) → o ≡ Some k → passes test o ≡ true → test k ≡ true
passes_own test o k is holds = ap (passes test) (sym is) ∙ holds

-- all punctuators have their kind
all_punct : (s : List ℕ) → is_punct s ≡ true → passes is_punctuator_kind (kind_of s) ≡ true
all_punct s is = in_table (λ p. passes is_punctuator_kind (kind_of p)) punctuators s refl is

quote_at : (b : ℕ) (x y : Bool) → eqb b 39 ≡ x → eqb b 34 ≡ y → (x || y) ≡ true → passes is_quote_kind (kind_of (b ∷ [])) ≡ true
quote_at b true y single double is = ap (λ c. passes is_quote_kind (kind_of (c ∷ []))) (eqb-true b 39 single)
quote_at b false true single double is = ap (λ c. passes is_quote_kind (kind_of (c ∷ []))) (eqb-true b 34 double)
quote_at b false false single double is = cc

all_quote : (s : List ℕ) → is_one is_quote s ≡ true → passes is_quote_kind (kind_of s) ≡ true
all_quote [] is = cc
all_quote (b ∷ []) is = quote_at b (eqb b 39) (eqb b 34) refl refl is
all_quote (b ∷ c ∷ s) is = cc

by_table : (k : Kind) (s : List ℕ) → kind_of s ≡ Some k → Agree k s
by_table k s is = record {
  kind = λ other. is;
  identifier = identifier_by (is_identifier s) (is_number s) (is_char s) (is_str s) (is_punct s) (is_one is_quote s) (is_one (λ b. not (is_blank b || eqb b 10)) s) k (sym (kind_tests s) ∙ is);
  punctuator =
      same_tests (is_punctuator_kind k) (is_punct s)
      (λ own. punctuator_by (is_identifier s) (is_number s) (is_char s) (is_str s) (is_punct s) (is_one is_quote s) (is_one (λ b. not (is_blank b || eqb b 10)) s) (sym (kind_tests s) ∙ is ∙ ap Some (kind_is_punct k own)))
      (λ there. passes_own is_punctuator_kind (kind_of s) k is (all_punct s there));
  lone_quote =
      same_tests (is_quote_kind k) (is_one is_quote s)
      (λ own. quote_by (is_identifier s) (is_number s) (is_char s) (is_str s) (is_punct s) (is_one is_quote s) (is_one (λ b. not (is_blank b || eqb b 10)) s) (sym (kind_tests s) ∙ is ∙ ap Some (kind_is_quote k own)))
      (λ there. passes_own is_quote_kind (kind_of s) k is (all_quote s there));
}

-- a header name

up_to_has_by : (last b : ℕ) (bs : List ℕ) (m : ℕ) (x y : Bool) (o : Option ℕ) → eqb b last ≡ x → up_to last bs ≡ o → cond x (Some 1) (cond y None (option_map suc o)) ≡ Some m → ((j : ℕ) → up_to last bs ≡ Some j → has last (take j bs) ≡ true) → has last (take m (b ∷ bs)) ≡ true
up_to_has_by last b bs m true y o here there is inner =
    let one : 1 ≡ m = ap (λ (o : Option ℕ). unwrap_or o 0) is in
    ap (λ n. has last (take n (b ∷ bs))) (sym one) ∙ ap (λ c. eqb last c || false) (eqb-true b last here) ∙ same_byte last
  where
    same_byte : (n : ℕ) → (eqb n n || false) ≡ true
    same_byte n = ap (λ t. t || false) (eq-eqb n n refl)
up_to_has_by last b bs m false true o here there is inner = cc
up_to_has_by last b bs m false false None here there is inner = cc
up_to_has_by last b bs m false false (Some j) here there is inner =
    let more : suc j ≡ m = ap (λ (o : Option ℕ). unwrap_or o 0) is in
    ap (λ n. has last (take n (b ∷ bs))) (sym more) ∙ ap (λ t. eqb last b || t) (inner j there) ∙ or_true (eqb last b)

up_to_has : (last : ℕ) (bs : List ℕ) (m : ℕ) → up_to last bs ≡ Some m → has last (take m bs) ≡ true
up_to_has last [] m is = cc
up_to_has last (b ∷ bs) m is = up_to_has_by last b bs m (eqb b last) (eqb b 10) (up_to last bs) refl refl is (λ j there. up_to_has last bs j there)

-- no header name is a punctuator
no_angle : (xs : List ℕ) → has 62 xs ≡ true → is_punct (60 ∷ xs) ≡ false
no_angle xs there =
    false_from_ne_true _ (λ is. clash (not (has 62 xs)) (in_table (λ p. not (first_is (λ b. eqb b 60) p && has 62 p)) punctuators (60 ∷ xs) refl is) (ap not there))

some_there : (x : ℕ) (xs : List ℕ) → has x xs ≡ true → is_one is_quote (34 ∷ xs) ≡ false
some_there x [] is = cc
some_there x (b ∷ xs) is = refl

angle_agree : (xs : List ℕ) → has 62 xs ≡ true → Agree Header (60 ∷ xs)
angle_agree xs there = record {
  kind = λ other. absurd (other refl);
  identifier = refl;
  punctuator = sym (no_angle xs there);
  lone_quote = sym (no_quote xs);
}
  where
    no_quote : (ys : List ℕ) → is_one is_quote (60 ∷ ys) ≡ false
    no_quote [] = refl
    no_quote (c ∷ ys) = refl

quoted_agree : (xs : List ℕ) → has 34 xs ≡ true → Agree Header (34 ∷ xs)
quoted_agree xs there = record { kind = λ other. absurd (other refl); identifier = refl; punctuator = refl; lone_quote = sym (some_there 34 xs there) }

header_by : (b : ℕ) (bs : List ℕ) (n : ℕ) (x y : Bool) (o p : Option ℕ) → eqb b 60 ≡ x → eqb b 34 ≡ y → up_to 62 bs ≡ o → up_to 34 bs ≡ p → cond x (option_map suc o) (cond y (option_map suc p) None) ≡ Some n → Agree Header (take n (b ∷ bs))
header_by b bs n true y None p angle quote one two is = cc
header_by b bs n true y (Some m) p angle quote one two is =
    let more : suc m ≡ n = ap (λ (o : Option ℕ). unwrap_or o 0) is in
    subst (λ i. Agree Header (take i (b ∷ bs))) more (subst (λ c. Agree Header (c ∷ take m bs)) (sym (eqb-true b 60 angle)) (angle_agree (take m bs) (up_to_has 62 bs m one)))
header_by b bs n false true o None angle quote one two is = cc
header_by b bs n false true o (Some m) angle quote one two is =
    let more : suc m ≡ n = ap (λ (o : Option ℕ). unwrap_or o 0) is in
    subst (λ i. Agree Header (take i (b ∷ bs))) more (subst (λ c. Agree Header (c ∷ take m bs)) (sym (eqb-true b 34 quote)) (quoted_agree (take m bs) (up_to_has 34 bs m two)))
header_by b bs n false false o p angle quote one two is = cc

header_agree : (bytes : List ℕ) (n : ℕ) → header_name bytes ≡ Some n → Agree Header (take n bytes)
header_agree [] n is = cc
header_agree (b ∷ bs) n is = header_by b bs n (eqb b 60) (eqb b 34) (up_to 62 bs) (up_to 34 bs) refl refl refl refl is

-- a token in front

kind_of_what : Kind → PieceKind → Kind
kind_of_what d (Word k) = k
kind_of_what d Blank = d
kind_of_what d LineEnd = d
kind_of_what d Comment = d

what_of : Option (PieceKind × ℕ) → PieceKind
what_of o = (unwrap_or o (LineEnd, 0)).0

count_in : Option (PieceKind × ℕ) → ℕ
count_in o = (unwrap_or o (LineEnd, 0)).1

longest_kind_by : (bytes : List ℕ) (m : ℕ) (o : Option Kind) (k : Kind) (n : ℕ) → kind_of (take (suc m) bytes) ≡ o → (longest_within bytes m ≡ Some (k, n) → kind_of (take n bytes) ≡ Some k) → longer o (suc m) (longest_within bytes m) ≡ Some (k, n) → kind_of (take n bytes) ≡ Some k
longest_kind_by bytes m (Some kind) k n there inner is =
    let far : suc m ≡ n = ap (λ (o : Option (Kind × ℕ)). (unwrap_or o (k, 0)).1) is in
    let own : kind ≡ k = ap (λ (o : Option (Kind × ℕ)). (unwrap_or o (k, 0)).0) is in
    ap (λ i. kind_of (take i bytes)) (sym far) ∙ there ∙ ap Some own
longest_kind_by bytes m None k n there inner is = inner is

pub longest_kind : (bytes : List ℕ) (m : ℕ) (k : Kind) (n : ℕ) → longest_within bytes m ≡ Some (k, n) → kind_of (take n bytes) ≡ Some k
longest_kind bytes zero k n is = cc
longest_kind bytes (suc m) k n is = longest_kind_by bytes m (kind_of (take (suc m) bytes)) k n refl (longest_kind bytes m k n) is

-- a header name, or the longest token
token_agree : (o : Option ℕ) (bytes : List ℕ) (found : Option (Kind × ℕ)) (k : Kind) (n : ℕ) → longest bytes ≡ found → ((m : ℕ) → o ≡ Some m → header_name bytes ≡ Some m) → token_or o bytes ≡ Some (Word k, n) → Agree k (take n bytes)
unfolding what_of count_in kind_of_what
token_agree (Some m) bytes found k n there header is =
    let kind : Header ≡ k = ap (kind_of_what k) (ap what_of is) in
    let count : m ≡ n = ap count_in is in
    subst (λ j. Agree j (take n bytes)) kind (header_agree bytes n (header m refl ∙ ap Some count))
token_agree None bytes None k n there header is = absurd (none _ (ap (option_map {U = PieceKind × ℕ} (λ (f : Kind × ℕ). (Word f.0, f.1))) there) is)
  where
    none : (o : Option (PieceKind × ℕ)) → o ≡ None → o ≡ Some (Word k, n) → ⊥
    none o first second = cc
token_agree None bytes (Some f) k n there header is =
    let found : ◌≡◌ {A = Option (PieceKind × ℕ)} (Some (Word f.0, f.1)) (Some (Word k, n)) = sym (ap (option_map {U = PieceKind × ℕ} (λ (f : Kind × ℕ). (Word f.0, f.1))) there) ∙ is in
    let kind : f.0 ≡ k = ap (kind_of_what k) (ap what_of found) in
    let count : f.1 ≡ n = ap count_in found in
    by_table k (take n bytes) (longest_kind bytes (length bytes) k n (there ∙ (λ i. Some (kind i, count i))))

where_allowed : (h : Bool) (o : Option ℕ) (m : ℕ) → cond h o None ≡ Some m → o ≡ Some m
where_allowed true o m is = is
where_allowed false o m is = cc

front_by : (end : PieceKind) (m : ℕ) (o : Option ℕ) (t : Option (PieceKind × ℕ)) (k : Kind) (n : ℕ) (u v w x : Bool) → (end ≡ Word k → ⊥) →
    cond u (Some (end, 1)) (cond v (Some (Blank, 1)) (cond w (Some (Comment, m)) (cond x (option_map {U = PieceKind × ℕ} (λ n. (Comment, 2 + n)) o) t))) ≡ Some (Word k, n) → t ≡ Some (Word k, n)
unfolding what_of
front_by end m o t k n true v w x no_end is = absurd (no_end (ap what_of is))
front_by end m o t k n false true w x no_end is = let wrong : Blank ≡ Word k = ap what_of is in cc
front_by end m o t k n false false true x no_end is = let wrong : Comment ≡ Word k = ap what_of is in cc
front_by end m None t k n false false false true no_end is = cc
front_by end m (Some i) t k n false false false true no_end is = let wrong : Comment ≡ Word k = ap what_of is in cc
front_by end m o t k n false false false false no_end is = is

front_agree : (lines header : Bool) (bytes : List ℕ) (k : Kind) (n : ℕ) → piece_at lines header bytes ≡ Some (Word k, n) → Agree k (take n bytes)
front_agree lines header [] k n is = cc
front_agree lines header (b ∷ bs) k n is =
    token_agree (cond header (header_name (b ∷ bs)) None) (b ∷ bs) (longest (b ∷ bs)) k n refl (λ m there. where_allowed header (header_name (b ∷ bs)) m there)
    (front_by (cond lines LineEnd Blank) (suc (line_rest bs)) (up_to_close (drop 1 bs)) _ k n (eqb b 10) (is_blank b) (begins (codes "//") (b ∷ bs)) (begins (codes "/*") (b ∷ bs)) (ends lines) is)
  where
    ends : (x : Bool) → cond x LineEnd Blank ≡ Word k → ⊥
    ends true same = cc
    ends false same = cc

-- what a page has

spelled : (k : Kind) (chars : List Char) (space : Bool) → Agree k (bytes_of chars) → KindIsSpelled (record { kind = k; text = bytes_of chars; space = space })
spelled k chars space agree = record { kind = agree.kind; identifier = agree.identifier; punctuator = agree.punctuator; lone_quote = agree.lone_quote }

all_more : (ts : List Token) (t : Token) → AllByRecursion KindIsSpelled ts → KindIsSpelled t → AllByRecursion KindIsSpelled (ts ++ t ∷ [])
all_more [] t all one = (one, tt)
all_more (u ∷ ts) t all one = (all.0, all_more ts t all.1 one)

lines_more : (ls : List Line) (l : Line) → AllByRecursion LineIsSpelled ls → LineIsSpelled l → AllByRecursion LineIsSpelled (ls ++ l ∷ [])
lines_more [] l all one = (one, tt)
lines_more (m ∷ ls) l all one = (all.0, lines_more ls l all.1 one)

record Spelled (page : LinesSoFar) : Type 0 where
  tokens : AllByRecursion KindIsSpelled page.tokens
  lines : AllByRecursion LineIsSpelled page.lines

ended_spelled : (lines : List Line) (number : ℕ) (ts : List Token) → AllByRecursion LineIsSpelled lines → AllByRecursion KindIsSpelled ts → AllByRecursion LineIsSpelled (ended lines number ts)
ended_spelled lines number [] all none = all
ended_spelled lines number (t ∷ ts) all some = lines_more lines (record { number = number; tokens = t ∷ ts }) all some

word_spelled : (page : LinesSoFar) (now : List Token) (k : Kind) (chars : List Char) → page.tokens ≡ now → Spelled page → Agree k (bytes_of chars) → Spelled (with_token page now k chars)
word_spelled page [] k chars is so_far agree = record { tokens = (spelled k chars false agree, tt); lines = so_far.lines }
word_spelled page (t ∷ ts) k chars is so_far agree = record { tokens = all_more page.tokens _ so_far.tokens (spelled k chars page.space agree); lines = so_far.lines }

put_spelled : (page : LinesSoFar) (what : PieceKind) (chars : List Char) → Spelled page → ((k : Kind) → what ≡ Word k → Agree k (bytes_of chars)) → Spelled (put page what chars)
put_spelled page Blank chars so_far agree = record { tokens = so_far.tokens; lines = so_far.lines }
put_spelled page Comment chars so_far agree = record { tokens = so_far.tokens; lines = so_far.lines }
put_spelled page LineEnd chars so_far agree = record { tokens = tt; lines = ended_spelled page.lines page.number page.tokens so_far.lines so_far.tokens }
put_spelled page (Word k) chars so_far agree = word_spelled page page.tokens k chars refl so_far (agree k refl)

-- the bytes of a piece
own_bytes : (chars rest : List Char) → take (length chars) (bytes_of (chars ++ rest)) ≡ bytes_of chars
own_bytes chars rest =
    ap (take (length chars)) (map-append (λ (c : Char). c.byte) chars rest) ∙ take_at (bytes_of chars) (bytes_of rest) (length chars) (length-map {B = ℕ} chars (λ (c : Char). c.byte))

piece_agree : (lines header : Bool) (what : PieceKind) (chars rest : List Char) → piece_at lines header (bytes_of (chars ++ rest)) ≡ Some (what, length chars) → (k : Kind) → what ≡ Word k → Agree k (bytes_of chars)
piece_agree lines header what chars rest stands k is =
    subst (Agree k) (own_bytes chars rest) (front_agree lines header (bytes_of (chars ++ rest)) k (length chars) (stands ∙ ap (λ w. Some (w, length chars)) is))

all_spelled : (lines : Bool) (page : LinesSoFar) (ps : List Piece) (rest : List Char) → AreCut lines page ps rest → Spelled page → Spelled (put_all page ps)
all_spelled lines page [] rest cut so_far = so_far
all_spelled lines page (p ∷ ps) rest cut so_far =
    let stands : piece_at lines (header_may_stand page.tokens) (bytes_of (p.chars ++ (chars_of ps ++ rest))) ≡ Some (p.what, length p.chars) =
    ap (λ (cs : List Char). piece_at lines (header_may_stand page.tokens) (bytes_of cs)) (sym (append_assoc p.chars (chars_of ps) rest)) ∙ cut.0 in
    all_spelled lines (put page p.what p.chars) ps rest cut.1 (put_spelled page p.what p.chars so_far (piece_agree lines (header_may_stand page.tokens) p.what p.chars (chars_of ps ++ rest) stands))

none_spelled : Spelled no_page
none_spelled = record { tokens = tt; lines = tt }

-- the laws

pub file-spelled : FileIsSpelled
file-spelled bytes lines (no_nul, page, (pieces, cut, final), are) =
    let all = all_spelled true no_page pieces [] cut.each none_spelled in
    subst (AllByRecursion LineIsSpelled) (sym (are ∙ ap lines_of final)) (ended_spelled _ (put_all no_page pieces).number _ all.lines all.tokens)

pub text-spelled : TextIsSpelled
text-spelled bytes tokens (no_nul, page, (pieces, cut, final), are) =
    subst (AllByRecursion KindIsSpelled) (sym (are ∙ ap (λ (p : LinesSoFar). p.tokens) final)) (all_spelled false no_page pieces [] cut.each none_spelled).tokens

operator_by : (a b c d : Bool) (x : Bool) → ((a || b) || (c || d)) ≡ true → (a ≡ true → x ≡ true) → (b ≡ true → x ≡ true) → (c ≡ true → x ≡ true) → (d ≡ true → x ≡ true) → x ≡ true
operator_by true b c d x is one two three four = one refl
operator_by false true c d x is one two three four = two refl
operator_by false false true d x is one two three four = three refl
operator_by false false false true x is one two three four = four refl
operator_by false false false false x is one two three four = cc

spelled_punct : (s t : List ℕ) → same s t ≡ true → is_punct t ≡ true → is_punct s ≡ true
spelled_punct s t is there = ap is_punct (same_text s t (sym is)) ∙ there

pub operators-are_punctuators : OperatorsArePunctuators
operators-are_punctuators t agree is =
    kind_is_punct t.kind (agree.punctuator ∙
    operator_by (same t.text (codes "#")) (same t.text (codes "%:")) (same t.text (codes "##")) (same t.text (codes "%:%:")) (is_punct t.text) is
    (λ there. spelled_punct t.text (codes "#") there refl) (λ there. spelled_punct t.text (codes "%:") there refl) (λ there. spelled_punct t.text (codes "##") there refl) (λ there. spelled_punct t.text (codes "%:%:") there refl))

-- the bytes of names

pub names-are_identifiers : NamesAreIdentifiers
names-are_identifiers b bound = grind (arith, nat_tests)
