-- In tokens that phase 3 gives, kind and spelling agree (C17 6.4 and 6.4.6).
use Rattle.std.specs.Prelude.{◌≡◌, ◌≢◌, ◌<◌, ℕ, true, ◌||◌, List, Some, Ok}
use Rattle.std.specs.List.{AllByRecursion}
use Rattle.mac_base.specs.Names.{is_identifier_byte}
use Rattle.pp_tokens.specs.declared.line.Line.{Line}
use Rattle.pp_tokens.specs.declared.token.Kind.TheVariants.{Punct, Header}
use Rattle.pp_tokens.specs.declared.token.Token.{Token}
use Rattle.pp_tokens.specs.Kinds as text
use Rattle.pp_tokens.specs.Cut.{LexesFile, LexesText}
use Rattle.pp_tokens.specs.Tokens.{is_identifier, is_punctuator, is_lone_quote, is_hash, is_paste}

-- Kind and spelling agree: the kind of a token that is no header name is that of its text, and of all tokens exactly those are identifiers, punctuators or lone quotes whose text is one. So a token that is spelled as a punctuator is one.
pub record KindIsSpelled (t : Token) : Type 0 where
  pub kind : t.kind ≢ Header → text.kind_of t.text ≡ Some t.kind
  pub identifier : is_identifier t ≡ text.is_identifier t.text
  pub punctuator : is_punctuator t ≡ text.is_punct t.text
  pub lone_quote : is_lone_quote t ≡ text.is_one text.is_quote t.text

-- the tokens of a line have the kinds of their texts
abbrev pub LineIsSpelled : Line → Type 0
LineIsSpelled line = AllByRecursion KindIsSpelled line.tokens

-- all tokens of a file have the kinds of their texts
abbrev pub FileIsSpelled : Type 0
FileIsSpelled = (bytes : List ℕ) (lines : List Line) → LexesFile bytes (Ok lines) → AllByRecursion LineIsSpelled lines

-- all tokens of a text have the kinds of their texts
abbrev pub TextIsSpelled : Type 0
TextIsSpelled = (bytes : List ℕ) (tokens : List Token) → LexesText bytes (Ok tokens) → AllByRecursion KindIsSpelled tokens

-- a punctuator of the table is one by its kind: `#` and `##` are found by spelling alone
abbrev pub OperatorsArePunctuators : Type 0
OperatorsArePunctuators = (t : Token) → KindIsSpelled t → (is_hash t || is_paste t) ≡ true → t.kind ≡ Punct

-- the bytes of an identifier are those of the name with which the text of a macro definition begins
abbrev pub NamesAreIdentifiers : Type 0
NamesAreIdentifiers = (b : ℕ) → b < 256 → text.is_word b ≡ is_identifier_byte b
