-- Macro definitions: what the tokens after `#define` define, and what they must not be (C17 6.10.3).
use Rattle.std.specs.Prelude.{ℕ, Bool, true, false, not, ◌&&◌, ◌||◌, if◌then◌else◌, List, [], ◌∷◌, ◌++◌, drop, Option, None, Some, Result, Ok, Err}
use Rattle.std.specs.Option.{option_or}
use Rattle.std.specs.List.{list_any}
use lib.Chars.{codes}
use Rattle.mac_base.specs.Input.{◌>>=◌}
use Rattle.pp_tokens.specs.Kinds.{same}
use Rattle.pp_tokens.specs.declared.token.Token.{Token}
use Rattle.pp_tokens.specs.declared.token.Kind.{Kind}
use Rattle.pp_tokens.specs.Tokens as token
use Rattle.macro_table.specs.declared.fault.DefFault.{DefFault}
use Rattle.macro_table.specs.declared.fault.DefFault.TheVariants.{NoName, Reserved, ParamSyntax, RepeatedParam, VaArgs, EdgePaste, LoneHash}
use Rattle.macro_table.specs.declared.fault.DefFault.TheVariants.{LoneQuote as QuoteInBody}

-- A definition. An object-like macro has no parameter list; a variadic one has a list that ends in `...`, which is none of the parameters.
pub record DefValue : Type 0 where
  pub name : List ℕ
  pub params : Option (List (List ℕ))
  pub variadic : Bool
  pub body : List Token

-- the kind of identifiers
abbrev pub is_identifier_kind : Kind → Bool
is_identifier_kind = token.is_identifier_kind

-- the kind of quotes that nothing closes
abbrev pub is_quote_kind : Kind → Bool
is_quote_kind = token.is_quote_kind

-- an identifier (6.4.2)
abbrev pub is_identifier : Token → Bool
is_identifier = token.is_identifier

-- a quote that nothing closes
abbrev pub is_lone_quote : Token → Bool
is_lone_quote = token.is_lone_quote

-- the token has this spelling
abbrev pub is_spelled : List ℕ → Token → Bool
is_spelled = token.is_spelled

-- `#`, or `%:` (6.4.6 p3)
abbrev pub is_hash : Token → Bool
is_hash = token.is_hash

-- `##`, or `%:%:` (6.4.6 p3)
abbrev pub is_paste : Token → Bool
is_paste = token.is_paste

-- `__VA_ARGS__`
abbrev pub is_va_args : Token → Bool
is_va_args = is_spelled (codes "__VA_ARGS__")

-- the names that no macro has: `defined` (6.10.8 p2) and `__VA_ARGS__` (6.10.3 p5)
abbrev pub is_reserved : Token → Bool
is_reserved t = is_spelled (codes "defined") t || is_va_args t

-- whether a parameter list follows the name: `(` with no white space before it (lparen, 6.10 p1)
abbrev pub has_list : List Token → Bool
has_list [] = false
has_list (t ∷ ts) = is_spelled (codes "(") t && not t.space

-- a fault, where a test holds
abbrev pub where_true : Bool → DefFault → Option DefFault
where_true test fault = if test then Some fault else None

-- the first of these that is one
abbrev pub first_of : List (Option DefFault) → Option DefFault
first_of [] = None
first_of (fault ∷ faults) = option_or fault (first_of faults)

-- a value, if there is no fault
abbrev pub unless : {A : Type 0} → Option DefFault → A → Result A DefFault
unless None x = Ok x
unless (Some fault) x = Err fault

-- a parameter list, and the tokens after its `)`
pub record ParamList : Type 0 where
  pub names : List (List ℕ)
  pub variadic : Bool
  pub behind : List Token

-- why a token can't be the parameter after these (6.10.3 p5 and p6)
abbrev pub param_fault : List (List ℕ) → Token → Option DefFault
param_fault before t =
    first_of (
    where_true (not (is_identifier t)) ParamSyntax
    ∷ where_true (is_va_args t) VaArgs
    ∷ where_true (list_any (same t.text) before) RepeatedParam
    ∷ [])

-- the list ends at this token, which has to be `)`
abbrev pub closed : List (List ℕ) → Bool → Token → List Token → Result ParamList DefFault
closed names variadic t ts = if is_spelled (codes ")") t then Ok (record { names = names; variadic = variadic; behind = ts }) else Err ParamSyntax

-- Where a parameter is due, after those before it: `...` and `)`, or an identifier and then `)`, or `,` and again a parameter (6.10.3). The fault is the first from left to right.
abbrev pub params_from : List (List ℕ) → List Token → Result ParamList DefFault
params_from before [] = Err ParamSyntax
params_from before (t ∷ []) = unless (param_fault before t) before >>= λ _. Err ParamSyntax
params_from before (t ∷ u ∷ ts) =
    if is_spelled (codes "...") t then closed before true u ts
    else (unless (param_fault before t) (before ++ t.text ∷ []) >>= λ names.
    (if is_spelled (codes ",") u then params_from names ts else closed names false u ts))

-- the parameter list after its `(`, which may be empty
abbrev pub param_list : List Token → Result ParamList DefFault
param_list [] = Err ParamSyntax
param_list (t ∷ ts) = if is_spelled (codes ")") t then closed [] false t ts else params_from [] (t ∷ ts)

-- a parameter of the macro, or what stands for its `...` (6.10.3.1 p2)
abbrev pub is_param : List (List ℕ) → Bool → Token → Bool
is_param names variadic t = list_any (same t.text) names || (variadic && is_va_args t)

-- whether the first token passes the test
abbrev pub first_passes : (Token → Bool) → List Token → Bool
first_passes test [] = false
first_passes test (t ∷ ts) = test t

-- whether the last token passes the test
abbrev pub last_passes : (Token → Bool) → List Token → Bool
last_passes test [] = false
last_passes test (t ∷ []) = test t
last_passes test (t ∷ u ∷ ts) = last_passes test (u ∷ ts)

-- a `#` is in the list that no such parameter follows (6.10.3.2 p1)
abbrev pub has_lone_hash : (Token → Bool) → List Token → Bool
has_lone_hash is_param [] = false
has_lone_hash is_param (t ∷ ts) = (is_hash t && not (first_passes is_param ts)) || has_lone_hash is_param ts

-- in an object-like macro any `#` is allowed
abbrev pub breaks_hash_rule : Option (List (List ℕ)) → Bool → List Token → Bool
breaks_hash_rule None variadic body = false
breaks_hash_rule (Some names) variadic body = has_lone_hash (is_param names variadic) body

-- What a replacement list must not have, each over the whole list before the next: a quote that nothing closes (this project's rule: 6.4 p3 leaves it undefined), `__VA_ARGS__` where the macro has no `...` (6.10.3 p5), `##` at an edge (6.10.3.3 p1), and a `#` without a parameter.
abbrev pub body_fault : Option (List (List ℕ)) → Bool → List Token → Option DefFault
body_fault params variadic body =
    first_of (
    where_true (list_any is_lone_quote body) QuoteInBody
    ∷ where_true (not variadic && list_any is_va_args body) VaArgs
    ∷ where_true (first_passes is_paste body || last_passes is_paste body) EdgePaste
    ∷ where_true (breaks_hash_rule params variadic body) LoneHash
    ∷ [])

-- a definition whose replacement list is allowed
abbrev pub checked : DefValue → Result DefValue DefFault
checked def = unless (body_fault def.params def.variadic def.body) def

-- a name, and a parameter list with the replacement list after it
abbrev pub function_like : List ℕ → ParamList → DefValue
function_like name list = record { name = name; params = Some list.names; variadic = list.variadic; body = list.behind }

-- a name, and a replacement list
abbrev pub object_like : List ℕ → List Token → DefValue
object_like name body = record { name = name; params = None; variadic = false; body = body }

-- what is after a name
abbrev pub def_behind : List ℕ → List Token → Result DefValue DefFault
def_behind name tokens =
    if has_list tokens then (param_list (drop 1 tokens) >>= λ list. checked (function_like name list))
    else checked (object_like name tokens)

-- why a token can't be the name of a macro
abbrev pub name_fault : Token → Option DefFault
name_fault t = first_of (where_true (not (is_identifier t)) NoName ∷ where_true (is_reserved t) Reserved ∷ [])

-- the definition that tokens after `#define` are, or why they are none
abbrev pub def_of : List Token → Result DefValue DefFault
def_of [] = Err NoName
def_of (t ∷ ts) = unless (name_fault t) t >>= λ name. def_behind name.text ts
