-- Private to the code, cited by no public contract. What the machine means.
use Rattle.std.specs.Prelude.{ℕ, ◌+◌, ◌-◌, ◌≡◌, ◌<◌, ◌≤◌, ◌⊎◌, zero, suc, Bool, true, false, List, [], ◌∷◌, ◌++◌, map, length, Vec, Result, Ok, Err}
use Rattle.mac_base.specs.Input.{◌>>=◌}
use Rattle.pp_tokens.specs.declared.token.Token.{Token}
use Rattle.macro_expand.specs.declared.here.Here.{Here}
use Rattle.macro_expand.specs.declared.fault.ExpandFault.{ExpandFault}
use Rattle.macro_expand.specs.declared.fault.ExpandFault.TheVariants.{NoMemory}
use Rattle.std.specs.declared.alloc.Global.{Global}
use Rattle.macro_expand.specs.declared.hide_set.hidden_token.HiddenToken.{HiddenToken}
use Rattle.macro_expand.specs.declared.substitution.argument_pass.Argument.{Argument as HeldArgument}
use Rattle.macro_expand.specs.declared.rescan.head.MacroCall.{MacroCall}
use Rattle.macro_expand.specs.declared.rescan.machine.Frame.{Frame}
use Rattle.macro_expand.specs.declared.rescan.machine.Machine.{Machine}
use Rattle.macro_expand.specs.Marked.{Marked}
use Rattle.macro_expand.specs.Macros.{Macros}
use Rattle.macro_expand.specs.Calls.{Waiting, stands_free, first_list, other_lists}
use Rattle.macro_expand.specs.Substituted.{Argument, substituted}
use Rattle.macro_expand.specs.Heads.{Call, Finished, head_of}
use Rattle.macro_expand.specs.Expansion.{limit, Answer, after, within, each, expansion}
use Rattle.macro_expand.specs.States.{marked, argument_of}
use Rattle.macro_expand.specs.Slots.{lists}
use Rattle.macro_expand.specs.Taking.{weight, call_of, skip}

-- a call of which these arguments are there
abbrev pub finishing : Macros → Here → Call → List Argument → ℕ → Answer
finishing macros here c done work = do
  args ← each (expansion macros here) c.args work
  list ← substituted c.def c.name c.space c.hides (done ++ args.0)
  within (args.1 + length list) (expansion macros here (list ++ c.rest))

-- the argument of a call that waits, with its expansion
abbrev pub argument_in : Frame → List Marked → Argument
argument_in f list = record { name = f.name; plain = map marked f.plain.items; expanded = list }

-- what a call that waits makes of the expansion of its argument
abbrev pub returned : Macros → Here → Frame → List (List Marked) → Answer → Answer
returned macros here f ls (Err fault) = Err fault
returned macros here f ls (Ok r) = after (map marked f.out.items) (finishing macros here (call_of f.call ls) (map argument_of f.done.items ++ argument_in f r.0 ∷ []) r.1)

-- the lists after those of some calls, the innermost of which is the last
abbrev pub outer : List Frame → List (List Marked) → List (List Marked)
outer [] ls = ls
outer (f ∷ more) ls = skip f.call (outer more ls)

-- what the calls that wait make of an answer for the innermost argument
abbrev pub resume : Macros → Here → List Frame → List (List Marked) → Answer → Answer
resume macros here [] ls answer = answer
resume macros here (f ∷ more) ls answer = returned macros here f (outer more ls) (resume macros here more ls answer)

-- what the whole text expands to, seen from here
abbrev pub meaning : Macros → Here → Machine → Answer
meaning macros here m =
    let ls = lists m.slots in
    resume macros here m.frames.items (other_lists ls) (after (map marked m.out.items) (expansion macros here (first_list ls) m.work))

-- the same where a name before the lists is being replaced, and these of its arguments are there
abbrev pub replacing : Macros → Here → Machine → MacroCall → List HeldArgument → Answer
replacing macros here m r done =
    let ls = lists m.slots in
    resume macros here m.frames.items (skip r ls) (after (map marked m.out.items) (finishing macros here (call_of r ls) (map argument_of done) m.work))

-- how much a call has before it
abbrev pub call_weight : MacroCall → List (List Marked) → ℕ
call_weight r ls = weight (call_of r ls).args + length (call_of r ls).rest

-- how much the calls that wait have before them
abbrev pub frames_size : List Frame → List (List Marked) → ℕ
frames_size [] ls = 0
frames_size (f ∷ more) ls = suc (call_weight f.call (outer more ls)) + frames_size more ls

-- how many steps are left, at most
abbrev pub size : Machine → ℕ
size m = let ls = lists m.slots in length (first_list ls) + frames_size m.frames.items (other_lists ls) + (limit - m.work)

-- the same where a name before the lists is being replaced
abbrev pub replacing_size : Machine → MacroCall → ℕ
replacing_size m r = let ls = lists m.slots in call_weight r ls + frames_size m.frames.items (skip r ls) + (limit - m.work)

-- the machine went on to one that is below a bound and means this
pub record GoesOn (macros : Macros) (here : Here) (answer : Answer) (bound : ℕ) (m : Machine) : Type 0 where
  pub same : meaning macros here m ≡ answer
  pub less : size m < bound
  pub work : m.work ≤ limit

-- the first list of a machine has ended, and this is the machine after it
pub record HasEnded (macros : Macros) (here : Here) (before behind : Machine) : Type 0 where
  pub head : head_of macros here (first_list (lists before.slots)) ≡ Finished
  pub others : lists behind.slots ≡ other_lists (lists before.slots)
  pub out : behind.out ≡ before.out
  pub work : behind.work ≡ before.work
  pub frames : behind.frames ≡ before.frames

-- a step that goes on keeps the meaning; the last one has it
abbrev pub IsStep : Macros → Here → Answer → ℕ → Machine → Bool → Type 0
IsStep macros here answer bound m true = GoesOn macros here answer bound m
IsStep macros here answer bound m false = answer ≡ Ok (map marked m.out.items, m.work)

-- the tokens of an answer without their hide sets, after those that were put out already
abbrev pub with_put : List Token → Answer → Result (List Token) ExpandFault
with_put text (Ok r) = Ok (text ++ map (λ m. m.token) r.0)
with_put text (Err fault) = Err fault

-- the token went out into the text, where no call waits and nothing else is put out
pub record GoesInText (before : Machine) (text : List Token) (k : HiddenToken) (behind : Machine) (more : List Token) : Type 0 where
  pub put : more ≡ text ++ k.token ∷ []
  pub frames : before.frames.items ≡ []
  pub out : before.out.items ≡ []
  pub same : behind ≡ before

-- the token went out with its hide set
pub record GoesInOut (before : Machine) (text : List Token) (k : HiddenToken) (behind : Machine) (more : List Token) : Type 0 where
  pub put : behind.out.items ≡ before.out.items ++ k ∷ []
  pub frames : behind.frames ≡ before.frames
  pub work : behind.work ≡ before.work
  pub slots : behind.slots ≡ before.slots
  pub same : more ≡ text

-- the token went out
abbrev pub IsPut : Machine → List Token → HiddenToken → Machine → List Token → Type 0
IsPut before text k behind more = GoesInText before text k behind more ⊎ GoesInOut before text k behind more

-- the machine went on to one that is below a bound and means, with the text that was put out, these tokens
pub record TextGoesOn (macros : Macros) (here : Here) (answer : Result (List Token) ExpandFault) (bound : ℕ) (text : List Token) (m : Machine) : Type 0 where
  pub same : with_put text (meaning macros here m) ≡ answer
  pub less : size m < bound
  pub work : m.work ≤ limit

-- a step that goes on keeps what the whole text comes to; the last one has it
abbrev pub IsTextStep : Macros → Here → Result (List Token) ExpandFault → ℕ → List Token → Machine → Bool → Type 0
IsTextStep macros here answer bound text m true = TextGoesOn macros here answer bound text m
IsTextStep macros here answer bound text m false = answer ≡ Ok (text ++ map (λ h. h.token) m.out.items)

-- a fault that is answered: want of memory, or the one that is read
abbrev pub IsFaultOf : {A : Type 0} → ExpandFault → Result A ExpandFault → Type 0
IsFaultOf fault reading = (fault ≡ NoMemory) ⊎ (reading ≡ Err fault)

-- the first of so many lists, no tokens where there are none
abbrev pub plain_of : ℕ → List (List Marked) → List Marked
plain_of zero ls = []
plain_of (suc k) ls = first_list ls

-- the lists after it
abbrev pub lists_after : ℕ → List (List Marked) → List (List Marked)
lists_after zero ls = ls
lists_after (suc k) ls = other_lists ls

-- whether there is a list, and it is wanted
abbrev pub wanted_in : ℕ → Bool → Bool
wanted_in zero wanted = false
wanted_in (suc k) wanted = wanted

-- the next argument of a call
abbrev pub waiting_in : MacroCall → List ℕ → List (List Marked) → Waiting
waiting_in r name ls = record { name = name; wanted = stands_free name false r.def.value.body; plain = plain_of r.count ls }

-- a list that is answered is the answer's; of the work nothing is said
abbrev pub AnswersList : Result (Vec HiddenToken Global) ExpandFault → Answer → Type 0
AnswersList (Ok list) (Ok r) = map marked list.items ≡ r.0
AnswersList (Ok list) (Err fault) = ⊥
AnswersList (Err fault) answer = (fault ≡ NoMemory) ⊎ (answer ≡ Err fault)
