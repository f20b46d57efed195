-- Private to the code, cited by no public contract. A single level, as the code goes through it.
use Rattle.std.specs.Prelude.{◌≡◌, ℕ, ◌<◌, ◌≤◌, Bool, true, false, List, map, length, Result, Ok}
use Rattle.macro_expand.specs.declared.here.Here.{Here}
use Rattle.macro_expand.specs.declared.fault.ExpandFault.{ExpandFault}
use Rattle.macro_expand.specs.declared.rescan.head.MacroCall.{MacroCall}
use Rattle.macro_expand.specs.declared.rescan.once.Level.{Level}
use Rattle.macro_expand.specs.Marked.{Marked}
use Rattle.macro_expand.specs.Macros.{Macros}
use Rattle.macro_expand.specs.Calls.{first_list}
use Rattle.macro_expand.specs.Substituted.{substituted}
use Rattle.macro_expand.specs.Heads.{Call, Replaced}
use Rattle.macro_expand.specs.Expansion.{limit, Answer, after, as_written, once_from, single_level}
use Rattle.macro_expand.specs.States.{marked}
use Rattle.macro_expand.specs.Slots.{lists}
use Rattle.macro_expand.specs.Taking.{call_of}

-- the list that replaces a name, where arguments go in as written
abbrev pub put_by : Call → Result (List Marked) ExpandFault
put_by c = substituted c.def c.name c.space c.hides (as_written c.args)

-- what the whole text gives, seen from here
abbrev pub level_meaning : Macros → Here → Level → Answer
level_meaning macros here l = after (map marked l.out.items) (single_level macros here (first_list (lists l.slots)) l.work)

-- the same where a name before the lists is being replaced
abbrev pub level_replacing : Macros → Here → Level → MacroCall → Answer
level_replacing macros here l r = after (map marked l.out.items) (once_from (single_level macros here) (Replaced (call_of r (lists l.slots))) l.work)

-- how many tokens are left
abbrev pub level_size : Level → ℕ
level_size l = length (first_list (lists l.slots))

-- the code went on to a place that is below a bound and means this
pub record LevelGoesOn (macros : Macros) (here : Here) (answer : Answer) (bound : ℕ) (l : Level) : Type 0 where
  pub same : level_meaning macros here l ≡ answer
  pub less : level_size l < bound
  pub work : l.work ≤ limit

-- a step that goes on keeps the meaning; the last one has it
abbrev pub IsLevelStep : Macros → Here → Answer → ℕ → Level → Bool → Type 0
IsLevelStep macros here answer bound l true = LevelGoesOn macros here answer bound l
IsLevelStep macros here answer bound l false = answer ≡ Ok (map marked l.out.items, l.work)
