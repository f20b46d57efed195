-- What a list of tokens expands to, as rules in the words of C17 6.10.3.1 to 6.10.3.4. Arguments are expanded from left to right, so that the first fault is answered; the list that replaces a name is a function, in the three passes of `Substituted`.
use Rattle.std.specs.Prelude.{◌≡◌, ℕ, ◌+◌, ◌≤◌, ◌<◌, true, false, List, [], ◌∷◌, ◌++◌, length, codes, bytes_eq, map, Some, None, Result, Ok, Err}
use Rattle.pp_tokens.specs.declared.token.Token.{Token}
use Rattle.macro_expand.specs.declared.here.Here.{Here}
use Rattle.macro_expand.specs.declared.fault.ExpandFault.{ExpandFault}
use Rattle.macro_expand.specs.declared.fault.ExpandFault.TheVariants.{OpenCall, ArgCount, BadDefinition, LoneQuote, TooLong}
use Rattle.macro_expand.specs.Marked.{Marked, fresh, delimiter_of}
use Rattle.macro_table.specs.Definitions.{DefValue}
use Rattle.macro_expand.specs.Macros.{Macros}
use Rattle.macro_expand.specs.Calls.{Closed, closed, arguments, fits, Waiting}
use Rattle.macro_expand.specs.Substituted.{Argument, substituted}
use Rattle.macro_expand.specs.Heads.{Call, Head, Finished, Stays, Replaced, Fails, line_token, file_token, object_call, function_call, is_opens, is_kept}
use Rattle.macro_expand.specs.Expansion.{limit, Answer, after, as_written, has_lone_quote, tokens_of}

-- a name that its token doesn't hide, and neither `__LINE__` nor `__FILE__`
pub record IsName (m : Marked) : Type 0 where
  pub seen : is_kept m ≡ false
  pub not_line : bytes_eq m.token.text (codes "__LINE__") ≡ false
  pub not_file : bytes_eq m.token.text (codes "__FILE__") ≡ false

-- a name that is that of this macro
pub record IsMacro (macros : Macros) (m : Marked) (d : DefValue) : Type 0 where
  pub name : IsName m
  pub found : macros m.token.text ≡ Some (Some d)

-- a name that is that of a function-like macro
pub record IsFunction (macros : Macros) (m : Marked) (d : DefValue) : Type 0 where
  pub macro : IsMacro macros m d
  pub names : List (List ℕ)
  pub params : d.params ≡ Some names

-- the next token isn't `(`, or there is none
abbrev pub NoParenthesis : List Marked → Type 0
NoParenthesis [] = Unit {0}
NoParenthesis (n ∷ ns) = is_opens (delimiter_of n.token) ≡ false

-- HasHead macros here list head: what the first token is
pub data HasHead (macros : Macros) (here : Here) : List Marked → Head → Type 0 where
  -- 1: nothing is left
  Empty : HasHead macros here [] Finished
  -- 2: no identifier, or a name that its token hides, stays (6.10.3.4 p2)
  Kept : {m : Marked} {rest : List Marked} → is_kept m ≡ true → HasHead macros here (m ∷ rest) (Stays m rest)
  -- 3: the built-in names (6.10.8.1)
  Line : {m : Marked} {rest : List Marked} →
      is_kept m ≡ false → bytes_eq m.token.text (codes "__LINE__") ≡ true → HasHead macros here (m ∷ rest) (Stays (line_token here m) rest)
  File : {m : Marked} {rest : List Marked} →
      is_kept m ≡ false → bytes_eq m.token.text (codes "__LINE__") ≡ false → bytes_eq m.token.text (codes "__FILE__") ≡ true →
      HasHead macros here (m ∷ rest) (Stays (file_token here m) rest)
  -- 4: a name that stands for nothing stays
  Unknown : {m : Marked} {rest : List Marked} → IsName m → macros m.token.text ≡ None → HasHead macros here (m ∷ rest) (Stays m rest)
  -- 5: a name whose text is no definition
  Bad : {m : Marked} {rest : List Marked} → IsName m → macros m.token.text ≡ Some None → HasHead macros here (m ∷ rest) (Fails (BadDefinition m.token.text))
  -- 6: an object-like macro is replaced (6.10.3 p9)
  Object : {m : Marked} {rest : List Marked} {d : DefValue} →
      IsMacro macros m d → d.params ≡ None → HasHead macros here (m ∷ rest) (Replaced (object_call d m rest))
  -- 7: a function-like macro that isn't called stays (6.10.3 p10)
  Uncalled : {m : Marked} {rest : List Marked} {d : DefValue} →
      IsFunction macros m d → NoParenthesis rest → HasHead macros here (m ∷ rest) (Stays m rest)
  -- 8: a function-like macro that is called: the call is not closed, or has another number of arguments (6.10.3 p4), or is replaced
  Open : {m n : Marked} {rest : List Marked} {d : DefValue} →
      IsFunction macros m d → is_opens (delimiter_of n.token) ≡ true → closed rest 0 ≡ None →
      HasHead macros here (m ∷ n ∷ rest) (Fails (OpenCall m.token.text))
  Count : {m n : Marked} {rest : List Marked} {d : DefValue} {c : Closed} →
      IsFunction macros m d → is_opens (delimiter_of n.token) ≡ true → closed rest 0 ≡ Some c → fits d (length (arguments d c.inside)) ≡ false →
      HasHead macros here (m ∷ n ∷ rest) (Fails (ArgCount m.token.text (length (arguments d c.inside))))
  Called : {m n : Marked} {rest : List Marked} {d : DefValue} {c : Closed} →
      IsFunction macros m d → is_opens (delimiter_of n.token) ≡ true → closed rest 0 ≡ Some c → fits d (length (arguments d c.inside)) ≡ true →
      HasHead macros here (m ∷ n ∷ rest) (Replaced (function_call d m c))

mutual
  -- Expands macros here list work answer: after so much work the list expands to the answer
  pub data Expands (macros : Macros) (here : Here) : List Marked → ℕ → Answer → Type 0 where
    Ends : {list : List Marked} {work : ℕ} → HasHead macros here list Finished → Expands macros here list work (Ok ([], work))
    Keeps : {list rest : List Marked} {m : Marked} {work : ℕ} {answer : Answer} →
        HasHead macros here list (Stays m rest) → Expands macros here rest work answer → Expands macros here list work (after (m ∷ []) answer)
    Refuses : {list : List Marked} {fault : ExpandFault} {work : ℕ} → HasHead macros here list (Fails fault) → Expands macros here list work (Err fault)
    Puts : {list : List Marked} {c : Call} {work : ℕ} {answer : Answer} →
        HasHead macros here list (Replaced c) → Replaces macros here c work answer → Expands macros here list work answer

  -- a replacement: the arguments are expanded (6.10.3.1), the list is made, its length is added to the work, and it is expanded with what follows the name after it (6.10.3.4 p1)
  pub data Replaces (macros : Macros) (here : Here) : Call → ℕ → Answer → Type 0 where
    ArgumentFails : {c : Call} {work : ℕ} {fault : ExpandFault} →
        Arguments macros here c.args work (Err fault) → Replaces macros here c work (Err fault)
    ListFails : {c : Call} {work behind : ℕ} {args : List Argument} {fault : ExpandFault} →
        Arguments macros here c.args work (Ok (args, behind)) → substituted c.def c.name c.space c.hides args ≡ Err fault →
        Replaces macros here c work (Err fault)
    TooMuch : {c : Call} {work behind : ℕ} {args : List Argument} {list : List Marked} →
        Arguments macros here c.args work (Ok (args, behind)) → substituted c.def c.name c.space c.hides args ≡ Ok list →
        limit < behind + length list → Replaces macros here c work (Err TooLong)
    Rescans : {c : Call} {work behind : ℕ} {args : List Argument} {list : List Marked} {answer : Answer} →
        Arguments macros here c.args work (Ok (args, behind)) → substituted c.def c.name c.space c.hides args ≡ Ok list →
        behind + length list ≤ limit → Expands macros here (list ++ c.rest) (behind + length list) answer →
        Replaces macros here c work answer

  -- the arguments in order; each that is wanted is expanded as if it formed the rest of the file (6.10.3.1 p1), and once
  pub data Arguments (macros : Macros) (here : Here) : List Waiting → ℕ → Result (List Argument × ℕ) ExpandFault → Type 0 where
    NoMore : {work : ℕ} → Arguments macros here [] work (Ok ([], work))
    Fault : {a : Waiting} {more : List Waiting} {work : ℕ} {fault : ExpandFault} →
        a.wanted ≡ true → Expands macros here a.plain work (Err fault) → Arguments macros here (a ∷ more) work (Err fault)
    LaterFault : {a : Waiting} {more : List Waiting} {work behind : ℕ} {list : List Marked} {fault : ExpandFault} →
        IsArgument macros here a work list behind → Arguments macros here more behind (Err fault) → Arguments macros here (a ∷ more) work (Err fault)
    Next : {a : Waiting} {more : List Waiting} {work behind final : ℕ} {list : List Marked} {args : List Argument} →
        IsArgument macros here a work list behind → Arguments macros here more behind (Ok (args, final)) →
        Arguments macros here (a ∷ more) work (Ok (record { name = a.name; plain = a.plain; expanded = list } ∷ args, final))

  -- what one argument expands to, and the work after it
  pub data IsArgument (macros : Macros) (here : Here) : Waiting → ℕ → List Marked → ℕ → Type 0 where
    Wanted : {a : Waiting} {work behind : ℕ} {list : List Marked} →
        a.wanted ≡ true → Expands macros here a.plain work (Ok (list, behind)) → IsArgument macros here a work list behind
    Unwanted : {a : Waiting} {work : ℕ} → a.wanted ≡ false → IsArgument macros here a work [] work

-- ExpandsOnce macros here list work answer: the same for a single level, where arguments go in as written, and what is put in is not looked at again
pub data ExpandsOnce (macros : Macros) (here : Here) : List Marked → ℕ → Answer → Type 0 where
  OnceEnds : {list : List Marked} {work : ℕ} → HasHead macros here list Finished → ExpandsOnce macros here list work (Ok ([], work))
  OnceKeeps : {list rest : List Marked} {m : Marked} {work : ℕ} {answer : Answer} →
      HasHead macros here list (Stays m rest) → ExpandsOnce macros here rest work answer → ExpandsOnce macros here list work (after (m ∷ []) answer)
  OnceRefuses : {list : List Marked} {fault : ExpandFault} {work : ℕ} → HasHead macros here list (Fails fault) → ExpandsOnce macros here list work (Err fault)
  OnceListFails : {list : List Marked} {c : Call} {work : ℕ} {fault : ExpandFault} →
      HasHead macros here list (Replaced c) → substituted c.def c.name c.space c.hides (as_written c.args) ≡ Err fault →
      ExpandsOnce macros here list work (Err fault)
  OnceTooMuch : {list put : List Marked} {c : Call} {work : ℕ} →
      HasHead macros here list (Replaced c) → substituted c.def c.name c.space c.hides (as_written c.args) ≡ Ok put →
      limit < work + length put → ExpandsOnce macros here list work (Err TooLong)
  OncePuts : {list put : List Marked} {c : Call} {work : ℕ} {answer : Answer} →
      HasHead macros here list (Replaced c) → substituted c.def c.name c.space c.hides (as_written c.args) ≡ Ok put →
      work + length put ≤ limit → ExpandsOnce macros here c.rest (work + length put) answer →
      ExpandsOnce macros here list work (after put answer)

-- what a text expands to, where this is what lists expand to: a quote that nothing closes is rejected before all else
pub data Whole (Lists : List Marked → ℕ → Answer → Type 0) (tokens : List Token) : Result (List Token) ExpandFault → Type 0 where
  Lone : has_lone_quote tokens ≡ true → Whole Lists tokens (Err LoneQuote)
  Scanned : {answer : Answer} → has_lone_quote tokens ≡ false → Lists (map fresh tokens) 0 answer → Whole Lists tokens (tokens_of answer)

-- ExpandsTo macros here tokens answer: the text expands to the answer
abbrev pub ExpandsTo : Macros → Here → List Token → Result (List Token) ExpandFault → Type 0
ExpandsTo macros here = Whole (Expands macros here)

-- ExpandsOnceTo macros here tokens answer: the text gives the answer at a single level
abbrev pub ExpandsOnceTo : Macros → Here → List Token → Result (List Token) ExpandFault → Type 0
ExpandsOnceTo macros here = Whole (ExpandsOnce macros here)
