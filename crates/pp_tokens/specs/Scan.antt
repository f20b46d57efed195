-- What the steps of the scanner find in front of the rest of a text.
use Rattle.std.specs.Prelude.{◌≡◌, ℕ, zero, suc, ◌+◌, ◌==◌, ◌<◌, slice_index, Bool, true, not, ◌&&◌, ◌||◌, if◌then◌else◌, List, [], ◌∷◌, length, take, drop, Option, None, Some, Result, Ok, Err}
use Rattle.std.specs.Option.{option_map}
use Rattle.std.specs.List.{prefix_len, find}
use lib.Chars.{codes}
use Rattle.pp_tokens.specs.declared.token.Kind.{Kind}
use Rattle.pp_tokens.specs.declared.token.Kind.TheVariants.{Identifier, Number, Char as Constant, Str, Punct, LoneQuote, Other}
use Rattle.pp_tokens.specs.declared.fault.LexFault.{LexFault}
use Rattle.pp_tokens.specs.declared.fault.LexFault.TheVariants.{NulByte, OpenComment, NoMemory}
use Rattle.pp_tokens.specs.Cleaning.{Char, bytes_of}
use Rattle.pp_tokens.specs.declared.piece.PieceKind.{PieceKind}
use Rattle.pp_tokens.specs.declared.piece.PieceKind.TheVariants.{Blank, LineEnd, Comment}
use Rattle.pp_tokens.specs.Cut.{up_to, line_rest, up_to_close, token_at, piece_at, header_may_stand, line_of, LinesSoFar, put, Makes, LeavesOpen}
use Rattle.pp_tokens.specs.Kinds.{begins, is_blank, first_is, begins_number, is_letter, is_word, goes_on, is_quote}

-- how many line feeds the bytes have
abbrev pub line_feeds : List ℕ → ℕ
line_feeds [] = 0
line_feeds (b ∷ bs) = if b == 10 then suc (line_feeds bs) else line_feeds bs

-- the byte in front
abbrev pub first_byte : List Char → Option ℕ
first_byte [] = None
first_byte (c ∷ cs) = Some c.byte

-- how many letters and digits are in front
abbrev pub word_length : List ℕ → ℕ
word_length = prefix_len is_word

-- how many bytes in front go on with a number after this byte
abbrev pub number_rest : ℕ → List ℕ → ℕ
number_rest before [] = 0
number_rest before (b ∷ bs) = if goes_on before b then suc (number_rest b bs) else 0

-- the bytes up to and with the closing quote, where one comes
abbrev pub closing : ℕ → List ℕ → Option ℕ
closing quote [] = None
closing quote (b ∷ []) = if b == quote then Some 1 else None
closing quote (b ∷ c ∷ bs) =
    if b == quote then Some 1
    else (if b == 10 then None
    else (if b == 92 then (if c == 10 then None else option_map (λ n. suc (suc n)) (closing quote bs))
    else option_map suc (closing quote (c ∷ bs))))

-- the length of the element of a quoted text in front, 0 where there is none
abbrev pub element : ℕ → List ℕ → ℕ
element quote [] = 0
element quote (b ∷ bs) = if (b == quote) || (b == 10) then 0 else (if b == 92 then (if first_is (λ c. not (c == 10)) bs then 2 else 0) else 1)

-- none of these quotes among the next count bytes has a closing quote
abbrev pub KnownLone : ℕ → ℕ → List ℕ → Type 0
KnownLone quote count bytes = (i : ℕ) → i < count → ((slice_index bytes i) == quote) ≡ true → closing quote (drop (suc i) bytes) ≡ None

-- the same of `'` and of `"`
pub record IsKnown (single double : ℕ) (bytes : List ℕ) : Type 0 where
  pub of_single : KnownLone 39 single bytes
  pub of_double : KnownLone 34 double bytes

-- the one of the two counts that is meant
abbrev pub count_of : ℕ → ℕ → ℕ → ℕ
count_of quote single double = if quote == 39 then single else (if quote == 34 then double else 0)

-- the length of the constant or literal whose opening quote is before these bytes
abbrev pub quoted_length : ℕ → List ℕ → Option ℕ
quoted_length quote bytes = if (quote == 39) && first_is (λ b. b == 39) bytes then None else option_map suc (closing quote bytes)

-- the kind of what is closed by this quote
abbrev pub quoted_kind : ℕ → Kind
quoted_kind quote = if quote == 39 then Constant else Str

-- `L`, `u` or `U`
abbrev pub is_prefix_letter : ℕ → Bool
is_prefix_letter b = (b == 76) || (b == 117) || (b == 85)

-- whether the word in front, of this length, is a prefix of this quote
abbrev pub is_prefix : ℕ → ℕ → List ℕ → Bool
is_prefix quote word bytes =
    ((word == 1) && first_is is_prefix_letter bytes)
    || ((quote == 34) && (word == 2) && first_is (λ b. b == 117) bytes && first_is (λ b. b == 56) (drop 1 bytes))

-- a constant or literal that ends n bytes after the word, or the word alone
abbrev pub word_or : ℕ → ℕ → Option ℕ → Kind × ℕ
word_or quote word None = (Identifier, word)
word_or quote word (Some n) = (quoted_kind quote, word + n)

-- the length of what a quote opens after the word in front, if the word is a prefix of it
abbrev pub prefixed_length : ℕ → ℕ → List ℕ → List ℕ → Option ℕ
prefixed_length quote word bytes behind = if is_quote quote && is_prefix quote word bytes then quoted_length quote behind else None

-- the token of a word and the bytes after it
abbrev pub word_before : ℕ → List ℕ → List ℕ → Kind × ℕ
word_before word bytes [] = (Identifier, word)
word_before word bytes (b ∷ bs) = word_or b word (prefixed_length b word bytes bs)

-- the token that begins with this word
abbrev pub word_token : List ℕ → Kind × ℕ
word_token bytes = word_before (word_length bytes) bytes (drop (word_length bytes) bytes)

-- the token of a quote: a lone one, or of so many bytes
abbrev pub quote_or : ℕ → Option ℕ → Kind × ℕ
quote_or quote None = (LoneQuote, 1)
quote_or quote (Some n) = (quoted_kind quote, n)

-- the byte in front, or 0 at the end
abbrev pub byte_or_zero : List ℕ → ℕ
byte_or_zero [] = 0
byte_or_zero (b ∷ bs) = b

-- a text in so many bytes, filled with zeros
abbrev pub padded : ℕ → List ℕ → List ℕ
padded zero text = []
padded (suc n) [] = 0 ∷ padded n []
padded (suc n) (b ∷ bs) = b ∷ padded n bs

-- whether the bytes of a padded text are in front
abbrev pub fits : List ℕ → List ℕ → Bool
fits [] window = true
fits (b ∷ bs) window = (b == 0) || (first_is (λ c. b == c) window && fits bs (drop 1 window))

-- how many bytes a padded text has
abbrev pub unpadded_length : List ℕ → ℕ
unpadded_length [] = 0
unpadded_length (b ∷ bs) = if b == 0 then 0 else suc (unpadded_length bs)

-- the punctuators in the order in which they are tried: each is before those that it begins with
abbrev pub search_order : List (List ℕ)
search_order =
    codes "(" ∷ codes ")" ∷ codes "," ∷ codes ";" ∷ codes "##" ∷ codes "#" ∷ codes "*=" ∷ codes "*"
    ∷ codes "{" ∷ codes "}" ∷ codes "[" ∷ codes "]" ∷ codes "||" ∷ codes "|=" ∷ codes "|" ∷ codes "&&" ∷ codes "&=" ∷ codes "&"
    ∷ codes "!=" ∷ codes "!" ∷ codes "==" ∷ codes "="
    ∷ codes "->" ∷ codes "--" ∷ codes "-=" ∷ codes "-"
    ∷ codes "..." ∷ codes "." ∷ codes "++" ∷ codes "+=" ∷ codes "+"
    ∷ codes "<<=" ∷ codes "<<" ∷ codes "<=" ∷ codes "<:" ∷ codes "<%" ∷ codes "<"
    ∷ codes ">>=" ∷ codes ">>" ∷ codes ">=" ∷ codes ">"
    ∷ codes ":>" ∷ codes ":" ∷ codes "?"
    ∷ codes "/=" ∷ codes "/" ∷ codes "%:%:" ∷ codes "%:" ∷ codes "%=" ∷ codes "%>" ∷ codes "%"
    ∷ codes "^=" ∷ codes "^" ∷ codes "~"
    ∷ []

-- the length of the first punctuator, in this order, that is in front
abbrev pub punctuator_length : List ℕ → Option ℕ
punctuator_length bytes = option_map length (find (λ p. begins p bytes) search_order)

-- a byte that begins no punctuator, or one of so many bytes
abbrev pub punct_or : Option ℕ → Kind × ℕ
punct_or None = (Other, 1)
punct_or (Some n) = (Punct, n)

-- the token in front of a text that begins with no white space
abbrev pub scanned : List ℕ → Kind × ℕ
scanned [] = (Other, 1)
scanned (b ∷ bs) =
    if is_letter b then word_token (b ∷ bs)
    else (if begins_number b bs then (Number, suc (number_rest b bs))
    else (if is_quote b then quote_or b (quoted_length b bs)
    else punct_or (punctuator_length (b ∷ bs))))

-- the header name in front, by its first byte
abbrev pub header_by : ℕ → List ℕ → Option ℕ
header_by first behind = if first == 60 then option_map suc (up_to 62 behind) else (if first == 34 then option_map suc (up_to 34 behind) else None)

-- the piece in front, by its first byte and the bytes after it
abbrev pub piece_by : Bool → Bool → ℕ → List ℕ → List ℕ → Option (PieceKind × ℕ)
piece_by lines header first bytes behind =
    if first == 10 then Some (if lines then LineEnd else Blank, 1)
    else (if is_blank first then Some (Blank, 1)
    else (if begins (codes "//") (first ∷ behind) then Some (Comment, suc (line_rest behind))
    else (if begins (codes "/*") (first ∷ behind) then option_map (λ n. (Comment, 2 + n)) (up_to_close (drop 1 behind))
    else token_at header bytes)))

-- the piece in front is put on the page, and the bytes after it are left
pub record Takes (lines : Bool) (page : LinesSoFar) (chars : List Char) (new_page : LinesSoFar) (left : List Char) : Type 0 where
  pub what : PieceKind
  pub count : ℕ
  pub stands : piece_at lines (header_may_stand page.tokens) (bytes_of chars) ≡ Some (what, count)
  pub made : new_page ≡ put page what (take count chars)
  pub rest : left ≡ drop count chars

-- what one step comes to
abbrev pub Steps : Bool → LinesSoFar → List Char → LinesSoFar → List Char → Result (Unit {0}) LexFault → Type 0
Steps lines page chars new_page left (Ok done) = Takes lines page chars new_page left
Steps lines page chars new_page left (Err (NulByte line)) = ⊥
Steps lines page chars new_page left (Err (OpenComment line)) = (piece_at lines (header_may_stand page.tokens) (bytes_of chars) ≡ None) × (line ≡ line_of chars)
Steps lines page chars new_page left (Err NoMemory) = Unit {0}

-- what all steps come to
abbrev pub Scans : Bool → LinesSoFar → List Char → LinesSoFar → Result (Unit {0}) LexFault → Type 0
Scans lines page chars new_page (Ok done) = Makes lines page chars new_page
Scans lines page chars new_page (Err (NulByte line)) = ⊥
Scans lines page chars new_page (Err (OpenComment line)) = LeavesOpen lines page chars line
Scans lines page chars new_page (Err NoMemory) = Unit {0}
