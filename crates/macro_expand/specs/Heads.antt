-- What is at the head of a list of tokens: the cases of expansion on the first token (C17 6.10.3 p9 and p10, 6.10.3.4, 6.10.8.1).
use Rattle.std.specs.Prelude.{ℕ, nat_eq, Bool, true, false, ◌||◌, not, if◌then◌else◌, List, [], ◌∷◌, ◌++◌, length, flat_map, codes, bytes_eq, decimal, Option, Some, None}
use Rattle.pp_tokens.specs.declared.token.Kind.{Kind}
use Rattle.pp_tokens.specs.declared.token.Kind.TheVariants.{Number, Str}
use Rattle.macro_expand.specs.declared.here.Here.{Here}
use Rattle.macro_expand.specs.declared.fault.ExpandFault.{ExpandFault}
use Rattle.macro_expand.specs.declared.fault.ExpandFault.TheVariants.{OpenCall, ArgCount, BadDefinition}
use Rattle.macro_expand.specs.declared.delimiter.Delimiter.{Delimiter}
use Rattle.macro_expand.specs.declared.delimiter.Delimiter.TheVariants.{Opens, Closes, Comma, Inner}
use Rattle.macro_expand.specs.Marked.{Names, with_name, intersection, Marked, is_identifier, delimiter_of}
use Rattle.macro_table.specs.Definitions.{DefValue}
use Rattle.macro_expand.specs.Macros.{Macros, params_of}
use Rattle.macro_expand.specs.Calls.{Closed, closed, arguments, fits, Waiting, waiting}

-- the name of a macro that is replaced: its definition, its text and mark, the names that its replacement hides, its arguments, and what follows it
pub record Call : Type 0 where
  pub def : DefValue
  pub name : List ℕ
  pub space : Bool
  pub hides : Names
  pub args : List Waiting
  pub rest : List Marked

-- what is at the head of a list
pub data Head : Type 0 where
  -- the list is empty
  Finished : Head
  -- a token that stays, and what follows it
  Stays : Marked → List Marked → Head
  -- a name that is replaced
  Replaced : Call → Head
  -- a fault
  Fails : ExpandFault → Head

-- a byte of a path in a string: `\` goes before `"` and `\`, and a line feed is `\n`
abbrev pub in_file : ℕ → List ℕ
in_file b = if nat_eq b 10 then 92 ∷ 110 ∷ [] else (if nat_eq b 34 || nat_eq b 92 then 92 ∷ b ∷ [] else b ∷ [])

-- a token of this kind and text in the place of a name, whose own replacement it hides
abbrev pub instead : Kind → List ℕ → Marked → Marked
instead kind text m = record { token = record { kind = kind; text = text; space = m.token.space }; hides = with_name m.token.text m.hides }

-- `__LINE__` is the line in decimal (6.10.8.1)
abbrev pub line_token : Here → Marked → Marked
line_token here m = instead Number (decimal here.line) m

-- `__FILE__` is the path as a string (6.10.8.1)
abbrev pub file_token : Here → Marked → Marked
file_token here m = instead Str (34 ∷ flat_map in_file here.file ++ 34 ∷ []) m

-- an object-like macro, which adds its name to the names that its name token hides
abbrev pub object_call : DefValue → Marked → List Marked → Call
object_call d m rest = record { def = d; name = m.token.text; space = m.token.space; hides = with_name m.token.text m.hides; args = []; rest = rest }

-- a call of a function-like macro, which adds its name to the names that its name token and its closing parenthesis both hide
abbrev pub function_call : DefValue → Marked → Closed → Call
function_call d m c = record { def = d; name = m.token.text; space = m.token.space; hides = with_name m.token.text (intersection m.hides c.close.hides); args = waiting d (params_of d) (arguments d c.inside); rest = c.rest }

-- a call of this macro: the arguments have to be closed and to fit
abbrev pub call_head : DefValue → Marked → Option Closed → Head
call_head d m None = Fails (OpenCall m.token.text)
call_head d m (Some c) =
    let count = length (arguments d c.inside) in
    if fits d count then Replaced (function_call d m c) else Fails (ArgCount m.token.text count)

-- whether this is `(`
abbrev pub is_opens : Delimiter → Bool
is_opens Opens = true
is_opens Closes = false
is_opens Comma = false
is_opens Inner = false

-- whether the next token is `(`
abbrev pub opens : List Marked → Bool
opens [] = false
opens (m ∷ ms) = is_opens (delimiter_of m.token)

-- what follows the next token
abbrev pub behind : List Marked → List Marked
behind [] = []
behind (m ∷ ms) = ms

-- The name of a macro with these parameters. A function-like macro is replaced where the next token is `(`.
abbrev pub macro_head : DefValue → Option (List (List ℕ)) → Marked → List Marked → Head
macro_head d None m rest = Replaced (object_call d m rest)
macro_head d (Some params) m rest = if opens rest then call_head d m (closed (behind rest) 0) else Stays m rest

-- a name that stands for this
abbrev pub name_head : Option (Option DefValue) → Marked → List Marked → Head
name_head None m rest = Stays m rest
name_head (Some None) m rest = Fails (BadDefinition m.token.text)
name_head (Some (Some d)) m rest = macro_head d d.params m rest

-- a name that the token doesn't hide
abbrev pub seen_head : Macros → Here → Marked → List Marked → Head
seen_head macros here m rest =
    if bytes_eq m.token.text (codes "__LINE__") then Stays (line_token here m) rest
    else (if bytes_eq m.token.text (codes "__FILE__") then Stays (file_token here m) rest
    else name_head (macros m.token.text) m rest)

-- no identifier, or a name that the token hides
abbrev pub is_kept : Marked → Bool
is_kept m = not (is_identifier m.token.kind) || m.hides m.token.text

-- what is at the head of a list
abbrev pub head_of : Macros → Here → List Marked → Head
head_of macros here [] = Finished
head_of macros here (m ∷ rest) = if is_kept m then Stays m rest else seen_head macros here m rest
