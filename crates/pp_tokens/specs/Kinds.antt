-- Which byte strings are preprocessing tokens, and of which kind (C17 6.4). The bytes from 128 on and `$` count as letters, which 6.4.2.1 leaves to the implementation.
use Rattle.std.specs.Prelude.{ℕ, ◌==◌, nat_eq, nat_le, Bool, true, false, not, ◌&&◌, ◌||◌, if◌then◌else◌, List, [], ◌∷◌, length, drop, Option, None, Some}
use Rattle.std.specs.List.{list_any, list_all}
use lib.Chars.{codes}
use lib.Pointwise.{pointwise}
use Rattle.pp_tokens.specs.declared.token.Kind.{Kind}
use Rattle.pp_tokens.specs.declared.token.Kind.TheVariants.{Identifier, Number, Char, Str, Punct, LoneQuote, Other}

-- the text begins with these bytes
abbrev pub begins : List ℕ → List ℕ → Bool
begins [] text = true
begins (p ∷ ps) [] = false
begins (p ∷ ps) (b ∷ bs) = (p == b) && begins ps bs

-- the two are equal
abbrev pub same : List ℕ → List ℕ → Bool
same = pointwise nat_eq

-- `0` to `9`
abbrev pub is_digit : ℕ → Bool
is_digit b = nat_le 48 b && nat_le b 57

-- a letter, `_`, `$`, or a byte from 128 on (6.4.2.1)
abbrev pub is_letter : ℕ → Bool
is_letter b = (nat_le 65 b && nat_le b 90) || (nat_le 97 b && nat_le b 122) || (b == 95) || (b == 36) || nat_le 128 b

-- a letter or a digit
abbrev pub is_word : ℕ → Bool
is_word b = is_letter b || is_digit b

-- a letter, and letters and digits (6.4.2.1)
abbrev pub is_identifier : List ℕ → Bool
is_identifier [] = false
is_identifier (b ∷ bs) = is_letter b && list_all is_word bs

-- `+` or `-`, after `e`, `E`, `p` or `P`
abbrev pub is_exponent_sign : ℕ → ℕ → Bool
is_exponent_sign before b = ((b == 43) || (b == 45)) && ((before == 101) || (before == 69) || (before == 112) || (before == 80))

-- what goes on with a number: letters, digits, `.`, and the sign of an exponent
abbrev pub goes_on : ℕ → ℕ → Bool
goes_on before b = is_word b || (b == 46) || is_exponent_sign before b

-- bytes that go on with a number after this byte
abbrev pub is_number_rest : ℕ → List ℕ → Bool
is_number_rest before [] = true
is_number_rest before (b ∷ bs) = goes_on before b && is_number_rest b bs

-- whether the byte in front passes a test
abbrev pub first_is : (ℕ → Bool) → List ℕ → Bool
first_is test [] = false
first_is test (b ∷ bs) = test b

-- whether a number begins with this byte: it is a digit, or `.` before a digit
abbrev pub begins_number : ℕ → List ℕ → Bool
begins_number first behind = is_digit first || ((first == 46) && first_is is_digit behind)

-- a digit, or `.` and a digit, and what goes on with a number (6.4.8)
abbrev pub is_number : List ℕ → Bool
is_number [] = false
is_number (b ∷ bs) = begins_number b bs && is_number_rest b bs

-- Elements and then the closing quote, and nothing after it. An element is a byte other than the quote, `\` and a line feed, or `\` with the next byte that is no line feed (6.4.4.4 and 6.4.5; that any byte may follow `\` is this project's rule).
abbrev pub is_closed : ℕ → List ℕ → Bool
is_closed quote [] = false
is_closed quote (b ∷ []) = b == quote
is_closed quote (b ∷ c ∷ bs) =
    if (b == quote) || (b == 10) then false
    else (if b == 92 then not (c == 10) && is_closed quote bs
    else is_closed quote (c ∷ bs))

-- the quote, and what it closes
abbrev pub is_quoted : ℕ → List ℕ → Bool
is_quoted quote [] = false
is_quoted quote (b ∷ bs) = (b == quote) && is_closed quote bs

-- a character constant without a prefix, of at least one element (6.4.4.4)
abbrev pub is_constant : List ℕ → Bool
is_constant text = is_quoted 39 text && not (same text (codes "''"))

-- one of these prefixes, and what passes the test
abbrev pub is_prefixed : (List ℕ → Bool) → List (List ℕ) → List ℕ → Bool
is_prefixed test prefixes text = list_any (λ prefix. begins prefix text && test (drop (length prefix) text)) prefixes

-- a character constant (6.4.4.4)
abbrev pub is_char : List ℕ → Bool
is_char = is_prefixed is_constant ([] ∷ codes "L" ∷ codes "u" ∷ codes "U" ∷ [])

-- a string literal (6.4.5)
abbrev pub is_str : List ℕ → Bool
is_str = is_prefixed (is_quoted 34) ([] ∷ codes "u8" ∷ codes "u" ∷ codes "U" ∷ codes "L" ∷ [])

-- the punctuators, in the order of 6.4.6 p1
abbrev pub punctuators : List (List ℕ)
punctuators =
    codes "[" ∷ codes "]" ∷ codes "(" ∷ codes ")" ∷ codes "{" ∷ codes "}" ∷ codes "." ∷ codes "->"
    ∷ codes "++" ∷ codes "--" ∷ codes "&" ∷ codes "*" ∷ codes "+" ∷ codes "-" ∷ codes "~" ∷ codes "!"
    ∷ codes "/" ∷ codes "%" ∷ codes "<<" ∷ codes ">>" ∷ codes "<" ∷ codes ">" ∷ codes "<=" ∷ codes ">=" ∷ codes "==" ∷ codes "!=" ∷ codes "^" ∷ codes "|" ∷ codes "&&" ∷ codes "||"
    ∷ codes "?" ∷ codes ":" ∷ codes ";" ∷ codes "..."
    ∷ codes "=" ∷ codes "*=" ∷ codes "/=" ∷ codes "%=" ∷ codes "+=" ∷ codes "-=" ∷ codes "<<=" ∷ codes ">>=" ∷ codes "&=" ∷ codes "^=" ∷ codes "|="
    ∷ codes "," ∷ codes "#" ∷ codes "##"
    ∷ codes "<:" ∷ codes ":>" ∷ codes "<%" ∷ codes "%>" ∷ codes "%:" ∷ codes "%:%:"
    ∷ []

-- a punctuator (6.4.6)
abbrev pub is_punct : List ℕ → Bool
is_punct text = list_any (same text) punctuators

-- `'` or `"`
abbrev pub is_quote : ℕ → Bool
is_quote b = (b == 39) || (b == 34)

-- space, horizontal and vertical tab, form feed and carriage return (6.4, where a line feed is apart)
abbrev pub is_blank : ℕ → Bool
is_blank b = (b == 32) || (b == 9) || (b == 11) || (b == 12) || (b == 13)

-- one byte, of which this holds
abbrev pub is_one : (ℕ → Bool) → List ℕ → Bool
is_one test [] = false
is_one test (b ∷ []) = test b
is_one test (b ∷ c ∷ bs) = false

-- The table of kinds. A header name is apart, since its place decides. That a quote which nothing closes is a token of a kind of its own is this project's rule: 6.4 p3 leaves it undefined.
abbrev pub kind_of : List ℕ → Option Kind
kind_of text =
    if is_identifier text then Some Identifier
    else (if is_number text then Some Number
    else (if is_char text then Some Char
    else (if is_str text then Some Str
    else (if is_punct text then Some Punct
    else (if is_one is_quote text then Some LoneQuote
    else (if is_one (λ b. not (is_blank b || (b == 10))) text then Some Other
    else None))))))
