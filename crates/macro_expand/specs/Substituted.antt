-- A replacement list with the arguments in it, as three passes over lists (C17 6.10.3.1 to 6.10.3.3).
use Rattle.std.specs.Prelude.{ℕ, nat_eq, Bool, true, false, ◌||◌, if◌then◌else◌, List, [], ◌∷◌, ◌++◌, map, flat_map, Option, Some, None, Result, Ok, Err, is_some}
use Rattle.pp_tokens.specs.declared.token.Token.{Token}
use Rattle.pp_tokens.specs.declared.token.Kind.{Kind}
use Rattle.pp_tokens.specs.declared.token.Kind.TheVariants.{Identifier, Number, Char, Str, Punct, Header, LoneQuote, Other}
use Rattle.mac_base.specs.Input.{◌>>=◌}
use Rattle.macro_expand.specs.declared.before.Before.{Before}
use Rattle.macro_expand.specs.declared.before.Before.TheVariants.{Else, Paste, Hash}
use Rattle.macro_expand.specs.declared.fault.ExpandFault.{ExpandFault}
use Rattle.macro_expand.specs.declared.fault.ExpandFault.TheVariants.{BadPaste, BadString}
use Rattle.macro_expand.specs.Marked.{Names, intersection, Marked, fresh, spaced, hiding, is_literal, is_named, is_paste, one_kind}
use Rattle.macro_table.specs.Definitions.{DefValue}
use Rattle.macro_expand.specs.Calls.{makes_string, paste_follows}

-- an argument of a call: its parameter, its tokens as written, and what they expand to
pub record Argument : Type 0 where
  pub name : List ℕ
  pub plain : List Marked
  pub expanded : List Marked

-- the argument of the parameter that this token is
abbrev pub find_argument : List Argument → Token → Option Argument
find_argument [] t = None
find_argument (a ∷ more) t = if is_named a.name t then Some a else find_argument more t

-- The first pass: arguments and strings go in, from left to right.

-- a piece of a replacement list with the arguments in it
pub data Piece : Type 0 where
  -- a token
  Word : Marked → Piece
  -- a placemarker in the place of an argument without tokens, with the mark of its parameter (6.10.3.3 p2)
  Placemarker : Bool → Piece
  -- a `##` of the replacement list itself
  Joins : Token → Piece

-- an argument's tokens in the place of its parameter; the first has the parameter's mark
abbrev pub in_place : Bool → List Marked → List Piece
in_place space [] = Placemarker space ∷ []
in_place space (m ∷ ms) = Word (spaced space m) ∷ map Word ms

-- a byte of a literal in a string: `\` goes before `"` and `\` (6.10.3.2 p2)
abbrev pub escaped : ℕ → List ℕ
escaped b = if nat_eq b 34 || nat_eq b 92 then 92 ∷ b ∷ [] else b ∷ []

-- the text of a token in a string
abbrev pub in_string : Token → List ℕ
in_string t = if is_literal t.kind then flat_map escaped t.text else t.text

-- tokens in a string, with one space for white space between them
abbrev pub spelled_on : List Marked → List ℕ
spelled_on [] = []
spelled_on (m ∷ ms) = (if m.token.space then 32 ∷ [] else []) ++ in_string m.token ++ spelled_on ms

-- the same without the white space before the first
abbrev pub spelled : List Marked → List ℕ
spelled [] = []
spelled (m ∷ ms) = in_string m.token ++ spelled_on ms

-- whether the kind is that of string literals
abbrev pub is_str : Option Kind → Bool
is_str None = false
is_str (Some Identifier) = false
is_str (Some Number) = false
is_str (Some Char) = false
is_str (Some Str) = true
is_str (Some Punct) = false
is_str (Some Header) = false
is_str (Some LoneQuote) = false
is_str (Some Other) = false

-- the string of an argument of this macro, in the place of a `#` with this mark (6.10.3.2 p2)
abbrev pub string_of : List ℕ → Bool → List Marked → Result Marked ExpandFault
string_of macro space ms =
    let text = 34 ∷ spelled ms ++ 34 ∷ [] in
    if is_str (one_kind text) then Ok (fresh (record { kind = Str; text = text; space = space })) else Err (BadString macro)

-- some pieces before others
abbrev pub front : {A : Type 0} → List A → Result (List A) ExpandFault → Result (List A) ExpandFault
front xs (Ok ys) = Ok (xs ++ ys)
front xs (Err fault) = Err fault

-- a token that is no operator, by what is before it, whether `##` follows, and the argument that it stands for: after `#` its string, beside `##` its tokens as written, elsewhere their expansion
abbrev pub word_of : List ℕ → Before → Bool → Option Argument → Token → Result (List Piece) ExpandFault
word_of macro (Hash space) next (Some a) t = string_of macro space a.plain >>= (λ m. Ok (Word m ∷ []))
word_of macro (Hash space) next None t = Ok (Word (fresh t) ∷ [])
word_of macro Paste next (Some a) t = Ok (in_place t.space a.plain)
word_of macro Paste next None t = Ok (Word (fresh t) ∷ [])
word_of macro Else next (Some a) t = Ok (in_place t.space (if next then a.plain else a.expanded))
word_of macro Else next None t = Ok (Word (fresh t) ∷ [])

-- the pieces, after which there is no operator
abbrev pub with_else : List Piece → List Piece × Before
with_else pieces = (pieces, Else)

-- the pieces of a token, by what is before it and whether `##` follows; and what is before the next
abbrev pub token_put : List ℕ → Bool → List Argument → Before → Bool → Token → Result (List Piece × Before) ExpandFault
token_put macro calls args before next t =
    if is_paste t then Ok (Joins t ∷ [], Paste)
    else (if makes_string calls t then Ok ([], Hash t.space)
    else (word_of macro before next (find_argument args t) t >>= (λ pieces. Ok (with_else pieces))))

-- the pieces of a replacement list
unfoldable pub put_in : List ℕ → Bool → List Argument → Before → List Token → Result (List Piece) ExpandFault
put_in macro calls args before [] = Ok []
put_in macro calls args before (t ∷ ts) = token_put macro calls args before (paste_follows ts) t >>= (λ put. front put.0 (put_in macro calls args put.1 ts))

-- The second pass: each `##` of the replacement list joins its neighbours, from left to right (6.10.3.3 p3).

-- two tokens as one of this kind, which hides what both hide
abbrev pub joined_as : Option Kind → Marked → Marked → Result Piece ExpandFault
joined_as None a b = Err (BadPaste a.token.text b.token.text)
joined_as (Some kind) a b = Ok (Word (record { token = record { kind = kind; text = a.token.text ++ b.token.text; space = a.token.space }; hides = intersection a.hides b.hides }))

-- two tokens as the one that their texts spell together
abbrev pub joined : Marked → Marked → Result Piece ExpandFault
joined a b = joined_as (one_kind (a.token.text ++ b.token.text)) a b

-- Two pieces as one, with the mark of the left one's place. A placemarker beside a piece gives the piece; a `##` that is joined is a token like others.
abbrev pub join : Piece → Piece → Result Piece ExpandFault
join (Word a) (Word b) = joined a b
join (Word a) (Joins t) = joined a (fresh t)
join (Word a) (Placemarker space) = Ok (Word a)
join (Placemarker space) (Word b) = Ok (Word (spaced space b))
join (Placemarker space) (Joins t) = Ok (Word (spaced space (fresh t)))
join (Placemarker space) (Placemarker other) = Ok (Placemarker space)
join (Joins t) (Word b) = joined (fresh t) b
join (Joins t) (Joins u) = joined (fresh t) (fresh u)
join (Joins t) (Placemarker space) = Ok (Word (fresh t))

-- whether the piece is a `##` of the replacement list
abbrev pub is_joins : Piece → Bool
is_joins (Word m) = false
is_joins (Placemarker space) = false
is_joins (Joins t) = true

-- a first piece and those after it, with each `##` done
unfoldable pub pasted_on : Piece → List Piece → Result (List Piece) ExpandFault
pasted_on p [] = Ok (p ∷ [])
pasted_on p (o ∷ []) = Ok (p ∷ o ∷ [])
pasted_on p (o ∷ q ∷ ps) = if is_joins o then join p q >>= (λ r. pasted_on r ps) else front (p ∷ []) (pasted_on o (q ∷ ps))

-- the pieces with each `##` done
unfoldable pub pasted : List Piece → Result (List Piece) ExpandFault
pasted [] = Ok []
pasted (p ∷ ps) = pasted_on p ps

-- The third pass: placemarkers go (6.10.3.3 p3).

-- the token of a piece; a placemarker has none
abbrev pub as_words : Piece → List Marked
as_words (Word m) = m ∷ []
as_words (Placemarker space) = []
as_words (Joins t) = fresh t ∷ []

-- the tokens of pieces
abbrev pub words : List Piece → List Marked
words [] = []
words (p ∷ ps) = as_words p ++ words ps

-- the first has this mark
abbrev pub first_spaced : Bool → List Marked → List Marked
first_spaced space [] = []
first_spaced space (m ∷ ms) = spaced space m ∷ ms

-- The list that replaces a name: by its definition, its text and mark, the names that all tokens of the list are to hide, and the arguments. The first token has the mark of the name.
unfoldable pub substituted : DefValue → List ℕ → Bool → Names → List Argument → Result (List Marked) ExpandFault
substituted d name space hides args = do
  pieces ← put_in name (is_some d.params) args Else d.body
  joined ← pasted pieces
  Ok (map (hiding hides) (first_spaced space (words joined)))
