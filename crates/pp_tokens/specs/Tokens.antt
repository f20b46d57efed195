-- What a token is, by its kind and by its spelling (C17 6.4 and 6.4.6).
use Rattle.std.specs.Prelude.{ℕ, Bool, true, false, ◌||◌, List}
use lib.Chars.{codes}
use Rattle.pp_tokens.specs.declared.token.Kind.{Kind}
use Rattle.pp_tokens.specs.declared.token.Kind.TheVariants.{Identifier, Number, Char, Str, Punct, Header, LoneQuote, Other}
use Rattle.pp_tokens.specs.declared.token.Token.{Token}
use Rattle.pp_tokens.specs.Kinds.{same}

-- the kind of identifiers
abbrev pub is_identifier_kind : Kind → Bool
is_identifier_kind Identifier = true
is_identifier_kind Number = false
is_identifier_kind Char = false
is_identifier_kind Str = false
is_identifier_kind Punct = false
is_identifier_kind Header = false
is_identifier_kind LoneQuote = false
is_identifier_kind Other = false

-- the kind of punctuators
abbrev pub is_punctuator_kind : Kind → Bool
is_punctuator_kind Identifier = false
is_punctuator_kind Number = false
is_punctuator_kind Char = false
is_punctuator_kind Str = false
is_punctuator_kind Punct = true
is_punctuator_kind Header = false
is_punctuator_kind LoneQuote = false
is_punctuator_kind Other = false

-- the kind of quotes that nothing closes
abbrev pub is_quote_kind : Kind → Bool
is_quote_kind Identifier = false
is_quote_kind Number = false
is_quote_kind Char = false
is_quote_kind Str = false
is_quote_kind Punct = false
is_quote_kind Header = false
is_quote_kind LoneQuote = true
is_quote_kind Other = false

-- an identifier (6.4.2)
abbrev pub is_identifier : Token → Bool
is_identifier t = is_identifier_kind t.kind

-- a punctuator (6.4.6)
abbrev pub is_punctuator : Token → Bool
is_punctuator t = is_punctuator_kind t.kind

-- a quote that nothing closes
abbrev pub is_lone_quote : Token → Bool
is_lone_quote t = is_quote_kind t.kind

-- the token has this spelling
abbrev pub is_spelled : List ℕ → Token → Bool
is_spelled spelling t = same t.text spelling

-- `#`, or `%:` (6.4.6 p3)
abbrev pub is_hash : Token → Bool
is_hash t = is_spelled (codes "#") t || is_spelled (codes "%:") t

-- `##`, or `%:%:` (6.4.6 p3)
abbrev pub is_paste : Token → Bool
is_paste t = is_spelled (codes "##") t || is_spelled (codes "%:%:") t
