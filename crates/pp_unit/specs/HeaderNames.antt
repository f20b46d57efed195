-- The header that an `#include` names (C17 6.10.2).
use Rattle.std.specs.Prelude.{◌≡◌, ℕ, ◌-◌, Bool, true, false, not, if◌then◌else◌, List, [], ◌∷◌, length, take, take_while, drop, Option, None, Some, Result, Ok, Err}
use Rattle.std.specs.List.{list_any}
use lib.Chars.{codes}
use Rattle.mac_io.specs.declared.headers.Form.{Form}
use Rattle.mac_io.specs.declared.headers.Form.TheVariants.{Quote, Angle}
use Rattle.pp_tokens.specs.declared.token.Token.{Token}
use Rattle.pp_tokens.specs.declared.token.Kind.{Kind}
use Rattle.pp_tokens.specs.declared.token.Kind.TheVariants.{Header}
use Rattle.macro_table.specs.Definitions.{is_spelled}
use Rattle.macro_table.specs.Texts.{body_text}
use Rattle.macro_expand.specs.declared.here.Here.{Here}
use Rattle.macro_expand.specs.declared.fault.ExpandFault.{ExpandFault}
use Rattle.macro_expand.specs.Macros.{Macros}
use Rattle.macro_expand.specs.Rules.{ExpandsTo}
use Rattle.pp_unit.specs.declared.fault.PpKind.{PpKind}
use Rattle.pp_unit.specs.declared.fault.PpKind.TheVariants.{Expand, BadInclude}
use Rattle.pp_unit.specs.declared.directives.header.HeaderName.{HeaderName}
use Rattle.pp_unit.specs.LineNumbers.{begins_quoted, is_plain_string}

-- what is between the delimiters of a text
abbrev pub between : List ℕ → List ℕ
between text = take (length text - 2) (drop 1 text)

-- by its delimiter, the form of a header name
abbrev pub form_of : List ℕ → Form
form_of text = if begins_quoted text then Quote else Angle

-- a name in this form, which may not be empty
abbrev pub named : Form → List ℕ → Result HeaderName PpKind
named form [] = Err BadInclude
named form (byte ∷ bytes) = Ok (record { form = form; name = byte ∷ bytes })

-- the kind of header names
abbrev pub is_header_kind : Kind → Bool
is_header_kind Header = true
is_header_kind _ = false

-- the text of a header name that comes first (6.4.7); what follows it is not looked at
abbrev pub header_text : List Token → Option (List ℕ)
header_text [] = None
header_text (t ∷ ts) = if is_header_kind t.kind then Some t.text else None

-- `>`
abbrev pub is_close : Token → Bool
is_close = is_spelled (codes ">")

-- the tokens before the first `>`
abbrev pub before_angle : List Token → Option (List Token)
before_angle tokens = if list_any is_close tokens then Some (take_while (λ t. not (is_close t)) tokens) else None

-- the texts of the tokens after `<`, with a space where white space is between two of them, are one name
abbrev pub angle_named : Option (List Token) → Result HeaderName PpKind
angle_named None = Err BadInclude
angle_named (Some tokens) = named Angle (body_text tokens)

-- Expanded tokens match one of the two forms (6.10.2 p4): they are one string literal, or begin with `<`; how they are made one name is left to the implementation there.
abbrev pub spelled_name : List Token → Result HeaderName PpKind
spelled_name [] = Err BadInclude
spelled_name (t ∷ []) = if is_plain_string t then named Quote (between t.text) else Err BadInclude
spelled_name (t ∷ u ∷ ts) = if is_spelled (codes "<") t then angle_named (before_angle (u ∷ ts)) else Err BadInclude

-- NamesHeader macros here tokens answer: the operands name this header; tokens that are no header name are expanded
pub data NamesHeader (macros : Macros) (here : Here) (tokens : List Token) : Result HeaderName PpKind → Type 0 where
  Stands : {text : List ℕ} → header_text tokens ≡ Some text → NamesHeader macros here tokens (named (form_of text) (between text))
  Fails : {fault : ExpandFault} → header_text tokens ≡ None → ExpandsTo macros here tokens (Err fault) → NamesHeader macros here tokens (Err (Expand fault))
  Expands : {list : List Token} → header_text tokens ≡ None → ExpandsTo macros here tokens (Ok list) → NamesHeader macros here tokens (spelled_name list)
