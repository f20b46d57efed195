-- Tokens with the names that are not replaced in them (C17 6.10.3.4), and what a token is to expansion.
use Rattle.std.specs.Prelude.{ℕ, Bool, true, false, ◌&&◌, ◌||◌, if◌then◌else◌, List, codes, bytes_eq, Option, Some, None}
use Rattle.pp_tokens.specs.declared.token.Token.{Token}
use Rattle.pp_tokens.specs.declared.token.Kind.{Kind}
use Rattle.pp_tokens.specs.declared.token.Kind.TheVariants.{Identifier, Number, Char, Str, Punct, Header, LoneQuote, Other}
use Rattle.pp_tokens.specs.Cleaning.{on_line_one, first_nul}
use Rattle.pp_tokens.specs.Kinds.{kind_of}
use Rattle.macro_expand.specs.declared.delimiter.Delimiter.{Delimiter}
use Rattle.macro_expand.specs.declared.delimiter.Delimiter.TheVariants.{Opens, Closes, Comma, Inner}

-- a set of names, as the test of its members
abbrev pub Names : Type 0
Names = List ℕ → Bool

-- the set with no name
abbrev pub no_names : Names
no_names name = false

-- a set and one name more
abbrev pub with_name : List ℕ → Names → Names
with_name more names name = bytes_eq more name || names name

-- the names that are in one of two sets
abbrev pub union : Names → Names → Names
union a b name = a name || b name

-- the names that are in both sets
abbrev pub intersection : Names → Names → Names
intersection a b name = a name && b name

-- a token and its hide set: the names that are not replaced in it
pub record Marked : Type 0 where
  pub token : Token
  pub hides : Names

-- a token that hides no name
abbrev pub fresh : Token → Marked
fresh t = record { token = t; hides = no_names }

-- the token with this mark of white space
abbrev pub spaced : Bool → Marked → Marked
spaced space m = record { token = record { kind = m.token.kind; text = m.token.text; space = space }; hides = m.hides }

-- the token with these names hidden too
abbrev pub hiding : Names → Marked → Marked
hiding names m = record { token = m.token; hides = union names m.hides }

-- the kind of identifiers
abbrev pub is_identifier : Kind → Bool
is_identifier Identifier = true
is_identifier Number = false
is_identifier Char = false
is_identifier Str = false
is_identifier Punct = false
is_identifier Header = false
is_identifier LoneQuote = false
is_identifier Other = false

-- the kind of punctuators
abbrev pub is_punctuator : Kind → Bool
is_punctuator Identifier = false
is_punctuator Number = false
is_punctuator Char = false
is_punctuator Str = false
is_punctuator Punct = true
is_punctuator Header = false
is_punctuator LoneQuote = false
is_punctuator Other = false

-- a string literal or a character constant
abbrev pub is_literal : Kind → Bool
is_literal Identifier = false
is_literal Number = false
is_literal Char = true
is_literal Str = true
is_literal Punct = false
is_literal Header = false
is_literal LoneQuote = false
is_literal Other = false

-- the kind of quotes that nothing closes
abbrev pub is_lone_quote : Kind → Bool
is_lone_quote Identifier = false
is_lone_quote Number = false
is_lone_quote Char = false
is_lone_quote Str = false
is_lone_quote Punct = false
is_lone_quote Header = false
is_lone_quote LoneQuote = true
is_lone_quote Other = false

-- the identifier of this text
abbrev pub is_named : List ℕ → Token → Bool
is_named name t = is_identifier t.kind && bytes_eq t.text name

-- the punctuator of this text
abbrev pub spells : List ℕ → Token → Bool
spells text t = is_punctuator t.kind && bytes_eq t.text text

-- `#`, also as `%:` (6.4.6)
abbrev pub is_hash : Token → Bool
is_hash t = spells (codes "#") t || spells (codes "%:") t

-- `##`, also as `%:%:` (6.4.6)
abbrev pub is_paste : Token → Bool
is_paste t = spells (codes "##") t || spells (codes "%:%:") t

-- what a token is to the arguments of a call
abbrev pub delimiter_of : Token → Delimiter
delimiter_of t = if spells (codes "(") t then Opens else (if spells (codes ")") t then Closes else (if spells (codes ",") t then Comma else Inner))

-- this kind, where it is one of a token; a quote that nothing closes is none
abbrev pub sound_kind : Option Kind → Option Kind
sound_kind None = None
sound_kind (Some kind) = if is_lone_quote kind then None else Some kind

-- the kind of the one token that a text spells, unless a byte of it is 0
abbrev pub kind_unless : Option ℕ → List ℕ → Option Kind
kind_unless (Some line) text = None
kind_unless None text = sound_kind (kind_of text)

-- the kind of the one token that a whole text spells, or none
abbrev pub one_kind : List ℕ → Option Kind
one_kind text = kind_unless (first_nul (on_line_one text)) text
