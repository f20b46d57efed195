-- The arguments of a call of a function-like macro (C17 6.10.3 p10 to p12).
use Rattle.std.specs.Prelude.{ℕ, ◌+◌, ◌-◌, nat_eq, nat_le, Bool, true, false, ◌&&◌, ◌||◌, not, if◌then◌else◌, List, [], ◌∷◌, length, Option, Some, None}
use Rattle.pp_tokens.specs.declared.token.Token.{Token}
use Rattle.macro_expand.specs.declared.delimiter.Delimiter.{Delimiter}
use Rattle.macro_expand.specs.declared.delimiter.Delimiter.TheVariants.{Opens, Closes, Comma, Inner}
use Rattle.macro_expand.specs.Marked.{Marked, is_named, is_hash, is_paste, delimiter_of}
use Rattle.macro_table.specs.Definitions.{DefValue}
use Rattle.macro_expand.specs.Macros.{named_params}

-- what is before the parenthesis that closes a call, that parenthesis, and what follows it
pub record Closed : Type 0 where
  pub inside : List Marked
  pub close : Marked
  pub rest : List Marked

-- the same with one token more before it
abbrev pub inside_too : Marked → Option Closed → Option Closed
inside_too m None = None
inside_too m (Some c) = Some (record { inside = m ∷ c.inside; close = c.close; rest = c.rest })

-- how deep in parentheses the tokens after this one are
abbrev pub depth_behind : Delimiter → ℕ → ℕ
depth_behind Opens depth = depth + 1
depth_behind Closes depth = depth - 1
depth_behind Comma depth = depth
depth_behind Inner depth = depth

-- whether a token at this depth closes the call
abbrev pub ends_call : Delimiter → ℕ → Bool
ends_call Closes depth = nat_eq depth 0
ends_call Opens depth = false
ends_call Comma depth = false
ends_call Inner depth = false

-- the tokens up to the parenthesis that matches, where one does; the call was opened, and then so many more were (p10)
unfoldable pub closed : List Marked → ℕ → Option Closed
closed [] depth = None
closed (m ∷ ms) depth =
    if ends_call (delimiter_of m.token) depth then Some (record { inside = []; close = m; rest = ms })
    else inside_too m (closed ms (depth_behind (delimiter_of m.token) depth))

-- the token is the first of the first list
abbrev pub to_first : Marked → List (List Marked) → List (List Marked)
to_first m [] = (m ∷ []) ∷ []
to_first m (a ∷ more) = (m ∷ a) ∷ more

-- whether a token at this depth, with so many commas left, parts two arguments
abbrev pub parts : Delimiter → ℕ → ℕ → Bool
parts Comma commas depth = nat_eq depth 0 && not (nat_eq commas 0)
parts Opens commas depth = false
parts Closes commas depth = false
parts Inner commas depth = false

-- the lists between the commas that are in no inner parentheses, of which the first so many count (p11)
unfoldable pub split : List Marked → ℕ → ℕ → List (List Marked)
split [] commas depth = [] ∷ []
split (m ∷ ms) commas depth =
    if parts (delimiter_of m.token) commas depth then [] ∷ split ms (commas - 1) depth
    else to_first m (split ms commas (depth_behind (delimiter_of m.token) depth))

-- how many commas can part the arguments of a call: after the named parameters a variadic macro takes all that is left as one (p12)
abbrev pub commas_of : DefValue → List Marked → ℕ
commas_of d inside = if d.variadic then length (named_params d) else length inside

-- no argument where there is no named parameter and no token
abbrev pub arguments_of : List (List ℕ) → ℕ → List Marked → List (List Marked)
arguments_of [] commas [] = []
arguments_of [] commas (m ∷ ms) = split (m ∷ ms) commas 0
arguments_of (p ∷ ps) commas inside = split inside commas 0

-- the arguments between the parentheses of a call
abbrev pub arguments : DefValue → List Marked → List (List Marked)
arguments d inside = arguments_of (named_params d) (commas_of d inside) inside

-- whether the macro takes so many arguments (6.10.3 p4); a variadic one takes as many as it has named parameters, or more
abbrev pub fits : DefValue → ℕ → Bool
fits d count = if d.variadic then nat_le (length (named_params d)) count else nat_eq (length (named_params d)) count

-- Whether the token is the operator `#`. In the replacement list of a function-like macro each `#` is, and a parameter follows it there, else the list is no definition (6.10.3.2 p1). In that of an object-like macro `#` is a token like others.
abbrev pub makes_string : Bool → Token → Bool
makes_string function_like t = function_like && is_hash t

-- whether the token is an operator beside which a parameter may be: `##`, or the operator `#`; only a function-like macro has parameters
abbrev pub is_operator : Token → Bool
is_operator t = is_paste t || makes_string true t

-- whether `##` is the next token
abbrev pub paste_follows : List Token → Bool
paste_follows [] = false
paste_follows (t ∷ ts) = is_paste t

-- whether the name is the next token, neither directly after an operator nor directly before `##`
abbrev pub is_free : List ℕ → Bool → List Token → Bool
is_free name after_operator [] = false
is_free name after_operator (t ∷ ts) = not after_operator && is_named name t && not (paste_follows ts)

-- whether the name is somewhere in a replacement list, neither directly after `#` or `##` nor directly before `##` (6.10.3.1 p1)
unfoldable pub stands_free : List ℕ → Bool → List Token → Bool
stands_free name after_operator [] = false
stands_free name after_operator (t ∷ ts) = is_free name after_operator (t ∷ ts) || stands_free name (is_operator t) ts

-- an argument of a call: its parameter, whether its expansion is wanted, and its tokens as written
pub record Waiting : Type 0 where
  pub name : List ℕ
  pub wanted : Bool
  pub plain : List Marked

-- the first of the lists, no tokens where there is none
abbrev pub first_list : List (List Marked) → List Marked
first_list [] = []
first_list (a ∷ more) = a

-- those after the first
abbrev pub other_lists : List (List Marked) → List (List Marked)
other_lists [] = []
other_lists (a ∷ more) = more

-- the arguments by their parameters; one that lacks has no tokens
abbrev pub waiting : DefValue → List (List ℕ) → List (List Marked) → List Waiting
waiting d [] args = []
waiting d (p ∷ ps) args = record { name = p; wanted = stands_free p false d.body; plain = first_list args } ∷ waiting d ps (other_lists args)
