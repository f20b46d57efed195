-- The tokens of a call of a function-like macro and its arguments, in the words of the standard (C17 6.10.3 p10 to p12); and that `closed` and `arguments`, which count, find exactly these.
use Rattle.std.specs.Prelude.{ℕ, zero, suc, ◌≡◌, ◌↔◌, if◌then◌else◌, List, [], ◌∷◌, ◌++◌, length, Option, Some, None}
use Rattle.macro_expand.specs.declared.delimiter.Delimiter.TheVariants.{Opens, Closes, Comma, Inner}
use Rattle.macro_expand.specs.Marked.{Marked, delimiter_of}
use Rattle.macro_table.specs.Definitions.{DefValue}
use Rattle.macro_expand.specs.Macros.{named_params}
use Rattle.macro_expand.specs.Calls.{Closed, closed, arguments}

-- tokens whose parentheses match: none; a token that is no parenthesis, and such tokens after it; or `(`, such tokens, the `)` that matches it, and such tokens after it
pub data IsBalanced : List Marked → Type 0 where
  Nothing : IsBalanced []
  Plain : {m : Marked} {ms : List Marked} → delimiter_of m.token ≡ Inner → IsBalanced ms → IsBalanced (m ∷ ms)
  Separator : {m : Marked} {ms : List Marked} → delimiter_of m.token ≡ Comma → IsBalanced ms → IsBalanced (m ∷ ms)
  Pair : {opening : Marked} (inner : List Marked) (closing : Marked) (after : List Marked) →
      delimiter_of opening.token ≡ Opens → IsBalanced inner → delimiter_of closing.token ≡ Closes → IsBalanced after →
      IsBalanced (opening ∷ inner ++ closing ∷ after)

-- The list after the `(` of a call is cut so: what is inside, the `)` that matches, where matched pairs of parentheses in between are skipped, and what follows (p10).
pub record IsCallIn (list : List Marked) (c : Closed) : Type 0 where
  pub tokens : list ≡ c.inside ++ c.close ∷ c.rest
  pub balanced : IsBalanced c.inside
  pub matching : delimiter_of c.close.token ≡ Closes

-- a single argument: no comma but between matching inner parentheses (p11)
pub data IsItem : List Marked → Type 0 where
  Empty : IsItem []
  Token : {m : Marked} {ms : List Marked} → delimiter_of m.token ≡ Inner → IsItem ms → IsItem (m ∷ ms)
  Group : {opening : Marked} (inner : List Marked) (closing : Marked) (after : List Marked) →
      delimiter_of opening.token ≡ Opens → IsBalanced inner → delimiter_of closing.token ≡ Closes → IsItem after →
      IsItem (opening ∷ inner ++ closing ∷ after)

-- arguments, and the comma between each two
pub data ArgumentList : Type 0 where
  Last : List Marked → ArgumentList
  More : List Marked → Marked → ArgumentList → ArgumentList

-- the tokens of such a list, its commas too
abbrev pub tokens_in : ArgumentList → List Marked
tokens_in (Last a) = a
tokens_in (More a comma others) = a ++ comma ∷ tokens_in others

-- single arguments that commas separate (p11)
abbrev pub IsArgumentList : ArgumentList → Type 0
IsArgumentList (Last a) = IsItem a
IsArgumentList (More a comma others) = IsItem a × (delimiter_of comma.token ≡ Comma) × IsArgumentList others

-- each argument by itself
abbrev pub each_item : ArgumentList → List (List Marked)
each_item (Last a) = a ∷ []
each_item (More a comma others) = a ∷ each_item others

-- what comes after so many arguments is merged, with the commas that separate it, to form a single one (p12)
abbrev pub merged : ArgumentList → ℕ → List (List Marked)
merged (Last a) n = a ∷ []
merged (More a comma others) zero = (a ++ comma ∷ tokens_in others) ∷ []
merged (More a comma others) (suc n) = a ∷ merged others n

-- the arguments that a macro takes of such a list: with `...` the variable argument comes after those of the named parameters
abbrev pub items_for : DefValue → ArgumentList → List (List Marked)
items_for d l = if d.variadic then merged l (length (named_params d)) else each_item l

-- the tokens inside a call are a list of arguments, and the macro takes these of it
pub record IsSeparated (d : DefValue) (inside : List Marked) (args : List (List Marked)) : Type 0 where
  pub list : ArgumentList
  pub sound : IsArgumentList list
  pub tokens : tokens_in list ≡ inside
  pub items : args ≡ items_for d list

-- no tokens are no argument where there is no named parameter, and elsewhere one argument without tokens (p4)
abbrev pub AreArgumentsBy : List (List ℕ) → DefValue → List Marked → List (List Marked) → Type 0
AreArgumentsBy [] d [] args = args ≡ []
AreArgumentsBy [] d (m ∷ ms) args = IsSeparated d (m ∷ ms) args
AreArgumentsBy (p ∷ ps) d inside args = IsSeparated d inside args

-- the arguments of a call of this macro, where these tokens are inside
abbrev pub AreArguments : DefValue → List Marked → List (List Marked) → Type 0
AreArguments d inside args = AreArgumentsBy (named_params d) d inside args

-- what counting finds is what these words say
pub record CallsAreExact : Type 0 where
  -- where a call ends
  pub call : (list : List Marked) (c : Closed) → IsCallIn list c ↔ (closed list 0 ≡ Some c)
  -- that it never ends
  pub unclosed : (list : List Marked) → ((c : Closed) → IsCallIn list c → ⊥) ↔ (closed list 0 ≡ None)
  -- its arguments
  pub items : (d : DefValue) (inside : List Marked) (args : List (List Marked)) → IsBalanced inside → AreArguments d inside args ↔ (arguments d inside ≡ args)
