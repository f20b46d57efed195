-- The operands of `#line` (C17 6.10.4): a number of decimal digits, and a string literal, which may be left out.
use Rattle.std.specs.Prelude.{◌≡◌, ℕ, ◌+◌, ◌-◌, ◌*◌, ◌==◌, nat_le, Bool, true, false, ◌&&◌, if◌then◌else◌, List, [], ◌∷◌, Result, Ok, Err}
use Rattle.std.specs.List.{list_all}
use Rattle.pp_tokens.specs.Kinds.{is_digit}
use Rattle.pp_tokens.specs.declared.token.Token.{Token}
use Rattle.pp_tokens.specs.declared.token.Kind.{Kind}
use Rattle.pp_tokens.specs.declared.token.Kind.TheVariants.{Str}
use Rattle.macro_expand.specs.declared.here.Here.{Here}
use Rattle.macro_expand.specs.declared.fault.ExpandFault.{ExpandFault}
use Rattle.macro_expand.specs.Macros.{Macros}
use Rattle.macro_expand.specs.Rules.{ExpandsTo}
use Rattle.pp_unit.specs.declared.fault.PpKind.{PpKind}
use Rattle.pp_unit.specs.declared.fault.PpKind.TheVariants.{Expand, BadLine}

-- the number that decimal digits go on with after this one
abbrev pub decimal_from : ℕ → List ℕ → ℕ
decimal_from number [] = number
decimal_from number (byte ∷ bytes) = decimal_from (10 * number + (byte - 48)) bytes

-- the largest number after `#line` (6.10.4 p3)
abbrev pub line_limit : ℕ
line_limit = 2147483647

-- a digit sequence that is neither 0 nor too large (6.10.4 p3)
abbrev pub is_line_number : List ℕ → Bool
is_line_number text = list_all is_digit text && nat_le 1 (decimal_from 0 text) && nat_le (decimal_from 0 text) line_limit

-- the kind of string literals
abbrev pub is_string_kind : Kind → Bool
is_string_kind Str = true
is_string_kind _ = false

-- whether a text begins with `"`
abbrev pub begins_quoted : List ℕ → Bool
begins_quoted [] = false
begins_quoted (byte ∷ bytes) = byte == 34

-- a string literal without a prefix (6.10.4 p1: a character string literal)
abbrev pub is_plain_string : Token → Bool
is_plain_string t = is_string_kind t.kind && begins_quoted t.text

-- the forms that `#line` has (6.10.4 p3 and p4)
abbrev pub is_line : List Token → Bool
is_line [] = false
is_line (t ∷ []) = is_line_number t.text
is_line (t ∷ u ∷ []) = is_line_number t.text && is_plain_string u
is_line (t ∷ u ∷ v ∷ ts) = false

-- x, where the operands have one of the forms
abbrev pub line_checked : {A : Type 0} → A → List Token → Result A PpKind
line_checked x tokens = if is_line tokens then Ok x else Err BadLine

-- HasLine macros here tokens x answer: the answer is x, where the operands have one of the forms as they are, or else when they are expanded (6.10.4 p5)
pub data HasLine {A : Type 0} (macros : Macros) (here : Here) (tokens : List Token) (x : A) : Result A PpKind → Type 0 where
  Stands : is_line tokens ≡ true → HasLine macros here tokens x (Ok x)
  Fails : {fault : ExpandFault} → is_line tokens ≡ false → ExpandsTo macros here tokens (Err fault) → HasLine macros here tokens x (Err (Expand fault))
  Expands : {list : List Token} → is_line tokens ≡ false → ExpandsTo macros here tokens (Ok list) → HasLine macros here tokens x (line_checked x list)
