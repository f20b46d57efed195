-- What a list of tokens expands to, in big steps over whole lists (C17 6.10.3.4), as functions.
use Rattle.std.specs.Prelude.{ℕ, zero, suc, ◌+◌, ◌-◌, nat_le, Bool, true, false, ◌||◌, if◌then◌else◌, List, [], ◌∷◌, ◌++◌, map, length, Result, Ok, Err}
use Rattle.pp_tokens.specs.declared.token.Token.{Token}
use Rattle.mac_base.specs.Input.{◌>>=◌}
use Rattle.macro_expand.specs.declared.here.Here.{Here}
use Rattle.macro_expand.specs.declared.fault.ExpandFault.{ExpandFault}
use Rattle.macro_expand.specs.declared.fault.ExpandFault.TheVariants.{LoneQuote, TooLong}
use Rattle.macro_expand.specs.Marked.{Marked, fresh, is_lone_quote}
use Rattle.macro_expand.specs.Macros.{Macros}
use Rattle.macro_expand.specs.Calls.{Waiting}
use Rattle.macro_expand.specs.Substituted.{Argument, substituted}
use Rattle.macro_expand.specs.Heads.{Head, Finished, Stays, Replaced, Fails, head_of}

-- how much work one expansion may take
abbrev pub limit : ℕ
limit = 4194304

-- the tokens, and the work done so far with them, or the first fault
abbrev pub Answer : Type 0
Answer = Result (List Marked × ℕ) ExpandFault

-- the answer with tokens before it
abbrev pub after : List Marked → Answer → Answer
after ms (Ok r) = Ok (ms ++ r.0, r.1)
after ms (Err fault) = Err fault

-- go on with so much work, where it is allowed
abbrev pub within : ℕ → (ℕ → Answer) → Answer
within work go = elim (nat_le work limit) [ true ↦ go work | false ↦ Err TooLong ]

-- the arguments of a call in order, each expanded where its expansion is wanted
abbrev pub each : (List Marked → ℕ → Answer) → List Waiting → ℕ → Result (List Argument × ℕ) ExpandFault
each expand [] work = Ok ([], work)
each expand (a ∷ more) work = do
  first ← (if a.wanted then expand a.plain work else Ok ([], work))
  others ← each expand more first.1
  Ok (record { name = a.name; plain = a.plain; expanded = first.0 } ∷ others.0, others.1)

-- The expansion of a list with this head, where `go` expands the lists after it. What replaces a name goes before what follows the name, and both are expanded together (6.10.3.4 p1); its length is work.
abbrev pub step_from : (List Marked → ℕ → Answer) → Head → ℕ → Answer
step_from go Finished work = Ok ([], work)
step_from go (Stays m rest) work = after (m ∷ []) (go rest work)
step_from go (Fails fault) work = Err fault
step_from go (Replaced c) work = do
  args ← each go c.args work
  list ← substituted c.def c.name c.space c.hides args.0
  within (args.1 + length list) (go (list ++ c.rest))

-- The expansion of a list after so much work. The number bounds the steps, and is never used up: each step takes a token of the list, or adds the length of what it puts in to the work.
unfoldable pub expand : ℕ → Macros → Here → List Marked → ℕ → Answer
expand zero macros here list work = Err TooLong
expand (suc n) macros here list work = step_from (expand n macros here) (head_of macros here list) work

-- a bound on the steps that a list can take after so much work
abbrev pub steps : List Marked → ℕ → ℕ
steps list work = suc (length list + (limit - work))

-- the expansion of a list after so much work
abbrev pub expansion : Macros → Here → List Marked → ℕ → Answer
expansion macros here list work = expand (steps list work) macros here list work

-- arguments that go in as written
abbrev pub as_written : List Waiting → List Argument
as_written [] = []
as_written (a ∷ more) = record { name = a.name; plain = a.plain; expanded = a.plain } ∷ as_written more

-- A single level: the list that replaces a name is in the answer, and only what follows the name goes on.
abbrev pub once_from : (List Marked → ℕ → Answer) → Head → ℕ → Answer
once_from go Finished work = Ok ([], work)
once_from go (Stays m rest) work = after (m ∷ []) (go rest work)
once_from go (Fails fault) work = Err fault
once_from go (Replaced c) work = do
  list ← substituted c.def c.name c.space c.hides (as_written c.args)
  within (work + length list) (λ w. after list (go c.rest w))

-- the single level of a list after so much work; each step takes a token of the list
unfoldable pub expand_once : ℕ → Macros → Here → List Marked → ℕ → Answer
expand_once zero macros here list work = Err TooLong
expand_once (suc n) macros here list work = once_from (expand_once n macros here) (head_of macros here list) work

-- the single level of a list after so much work
abbrev pub single_level : Macros → Here → List Marked → ℕ → Answer
single_level macros here list work = expand_once (suc (length list)) macros here list work

-- whether a quote that nothing closes is among the tokens
abbrev pub has_lone_quote : List Token → Bool
has_lone_quote [] = false
has_lone_quote (t ∷ ts) = is_lone_quote t.kind || has_lone_quote ts

-- the answer's tokens without their hide sets
abbrev pub tokens_of : Answer → Result (List Token) ExpandFault
tokens_of (Ok r) = Ok (map (λ m. m.token) r.0)
tokens_of (Err fault) = Err fault

-- what a text expands to, by the answer for lists: a quote that nothing closes is rejected before all else
abbrev pub whole : (List Marked → ℕ → Answer) → List Token → Result (List Token) ExpandFault
whole go tokens = if has_lone_quote tokens then Err LoneQuote else tokens_of (go (map fresh tokens) 0)
