-- The text of a macro definition, and the definition of a text (DWARF 5, 6.3.2.1; C17 6.10.3).
use Rattle.std.specs.Prelude.{ℕ, zero, suc, Bool, false, if◌then◌else◌, List, [], ◌∷◌, ◌++◌, length, take, drop, Option, None, Some, Result, Ok, Err}
use Rattle.std.specs.List.{flat_map, join_with_byte}
use lib.Chars.{codes}
use Rattle.pp_tokens.specs.Cleaning.{Char, bytes_of, on_line_one, first_nul}
use Rattle.pp_tokens.specs.Cut.{LinesSoFar, no_page, put, piece_at, header_may_stand, line_of}
use Rattle.pp_tokens.specs.declared.piece.PieceKind.{PieceKind}
use Rattle.pp_tokens.specs.declared.token.Token.{Token}
use Rattle.pp_tokens.specs.declared.fault.LexFault.{LexFault}
use Rattle.pp_tokens.specs.declared.fault.LexFault.TheVariants.{NulByte, OpenComment}
use Rattle.macro_table.specs.declared.fault.DefFault.{DefFault}
use Rattle.macro_table.specs.declared.fault.TextFault.{TextFault}
use Rattle.macro_table.specs.declared.fault.TextFault.TheVariants.{Lex, Def}
use Rattle.macro_table.specs.Definitions.{DefValue, def_of}

-- what a parameter list has between its commas
abbrev pub list_words : List (List ℕ) → Bool → List (List ℕ)
list_words names variadic = names ++ (if variadic then codes "..." ∷ [] else [])

-- the parameter list, where the macro has one
abbrev pub list_text : Option (List (List ℕ)) → Bool → List ℕ
list_text None variadic = []
list_text (Some names) variadic = codes "(" ++ join_with_byte 44 (list_words names variadic) ++ codes ")"

-- a token, after one space where white space is before it
abbrev pub spaced : Token → List ℕ
spaced t = (if t.space then codes " " else []) ++ t.text

-- a replacement list, with nothing before its first token
abbrev pub body_text : List Token → List ℕ
body_text [] = []
body_text (t ∷ ts) = t.text ++ flat_map spaced ts

-- the name, the parameter list, a space, and the replacement list
abbrev pub text_of : DefValue → List ℕ
text_of def = def.name ++ list_text def.params def.variadic ++ codes " " ++ body_text def.body

-- the page after a piece, by the one after the rest of the text; a comment is open where no piece is in front
abbrev pub page_behind : (LinesSoFar → List Char → Result LinesSoFar LexFault) → LinesSoFar → List Char → Option (PieceKind × ℕ) → Result LinesSoFar LexFault
page_behind rest page chars None = Err (OpenComment (line_of chars))
page_behind rest page chars (Some piece) = rest (put page piece.0 (take piece.1 chars)) (drop piece.1 chars)

-- the page that is made of a text in which at most so many pieces are left (C17 5.1.1.2, phase 3)
abbrev pub page_of : ℕ → LinesSoFar → List Char → Result LinesSoFar LexFault
page_of zero page chars = Ok page
page_of (suc n) page [] = Ok page
page_of (suc n) page (c ∷ cs) = page_behind (page_of n) page (c ∷ cs) (piece_at false (header_may_stand page.tokens) (bytes_of (c ∷ cs)))

-- the tokens of a page
abbrev pub page_tokens : Result LinesSoFar LexFault → Result (List Token) LexFault
page_tokens (Ok page) = Ok page.tokens
page_tokens (Err fault) = Err fault

-- the tokens of a text, unless a byte of it is 0
abbrev pub tokens_unless : Option ℕ → List ℕ → Result (List Token) LexFault
tokens_unless (Some line) text = Err (NulByte line)
tokens_unless None text = page_tokens (page_of (length text) no_page (on_line_one text))

-- The tokens of a text by phase 3, or why it has none. The law TokensAreLexed says that this is exactly the answer of LexesText.
abbrev pub tokens_of : List ℕ → Result (List Token) LexFault
tokens_of text = tokens_unless (first_nul (on_line_one text)) text

-- a definition or its fault, as what a text comes to
abbrev pub as_text : Result DefValue DefFault → Result DefValue TextFault
as_text (Ok def) = Ok def
as_text (Err fault) = Err (Def fault)

-- what tokens define, or the fault with which there are none
abbrev pub def_of_tokens : Result (List Token) LexFault → Result DefValue TextFault
def_of_tokens (Ok tokens) = as_text (def_of tokens)
def_of_tokens (Err fault) = Err (Lex fault)

-- the definition that a text is, or why it is none
abbrev pub def_of_text : List ℕ → Result DefValue TextFault
def_of_text text = def_of_tokens (tokens_of text)
