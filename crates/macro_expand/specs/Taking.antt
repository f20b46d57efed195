-- Private to the code, cited by no public contract. What the head of the first list is, as the code finds it.
use Rattle.std.specs.Prelude.{ℕ, ◌+◌, ◌≡◌, ◌⊎◌, suc, Bool, true, false, not, ◌&&◌, if◌then◌else◌, codes, bytes_eq, List, [], ◌∷◌, length, take, drop, Option, Some, None, Result, Ok, Err}
use Rattle.macro_table.specs.Definitions.{DefValue}
use Rattle.macro_expand.specs.declared.fault.ExpandFault.{ExpandFault}
use Rattle.macro_expand.specs.declared.fault.ExpandFault.TheVariants.{NoMemory}
use Rattle.macro_expand.specs.declared.here.Here.{Here}
use Rattle.macro_expand.specs.declared.rescan.parsed_macro.ParsedMacro.{ParsedMacro}
use Rattle.macro_expand.specs.declared.rescan.head.MacroCall.{MacroCall}
use Rattle.macro_expand.specs.declared.rescan.head.NextHead.{NextHead}
use Rattle.macro_expand.specs.declared.rescan.head.NextHead.TheVariants as next
use Rattle.macro_expand.specs.declared.rescan.slots.Cut.{Cut}
use Rattle.macro_expand.specs.declared.delimiter.Delimiter.{Delimiter}
use Rattle.macro_expand.specs.declared.delimiter.Delimiter.TheVariants.{Opens, Closes, Comma, Inner}
use Rattle.macro_expand.specs.Marked.{Marked}
use Rattle.macro_expand.specs.Macros.{Macros, params_of}
use Rattle.macro_expand.specs.Calls.{Closed, closed, arguments, Waiting, waiting, first_list, other_lists}
use Rattle.macro_expand.specs.Heads.{Call, Head, Finished, Stays, Replaced, Fails, seen_head}
use Rattle.macro_expand.specs.States.{marked, hidden_names}

-- how much of a weight the arguments of a call have
abbrev pub weight : List Waiting → ℕ
weight [] = 0
weight (a ∷ more) = suc (length a.plain) + weight more

-- a call that is being replaced, where its arguments and what follows them are the first of these lists
abbrev pub call_of : MacroCall → List (List Marked) → Call
call_of r ls = record { def = r.def.value; name = r.name; space = r.space; hides = hidden_names r.hides; args = waiting r.def.value (drop r.next (params_of r.def.value)) (take r.count ls); rest = first_list (drop r.count ls) }

-- the lists after those of the call
abbrev pub skip : MacroCall → List (List Marked) → List (List Marked)
skip r ls = other_lists (drop r.count ls)

-- what the head of the first list is, where these are the lists before and after it was taken
abbrev pub IsHead : Result NextHead ExpandFault → List (List Marked) → List (List Marked) → Head → Type 0
IsHead (Ok next.Finished) old new head = (head ≡ Finished) × (new ≡ other_lists old)
IsHead (Ok (next.Stays h)) old new head = (head ≡ Stays (marked h) (first_list new)) × (other_lists new ≡ other_lists old)
IsHead (Ok (next.Replaced r)) old new head = (head ≡ Replaced (call_of r new)) × (skip r new ≡ other_lists old)
IsHead (Err fault) old new head = (fault ≡ NoMemory) ⊎ (head ≡ Fails fault)

-- whether a name stands for nothing, where this is known of it, and not for its place either
abbrev pub is_unknown : Option ParsedMacro → List ℕ → Bool
is_unknown None name = not (bytes_eq name (codes "__LINE__")) && not (bytes_eq name (codes "__FILE__"))
is_unknown (Some known) name = false

-- the head of a list that begins with a name
abbrev pub named_head : Macros → Here → Marked → List Marked → Head
named_head macros here m rest = if m.hides m.token.text then Stays m rest else seen_head macros here m rest

-- whether there is no named parameter
abbrev pub no_named : List (List ℕ) → Bool
no_named [] = true
no_named (p ∷ ps) = false

-- whether this is `)`
abbrev pub closes : Option Delimiter → Bool
closes None = false
closes (Some Opens) = false
closes (Some Closes) = true
closes (Some Comma) = false
closes (Some Inner) = false

-- the arguments of a call are the first of the lists, and what follows it is the next
abbrev pub IsCall : Option Cut → List (List Marked) → List (List Marked) → DefValue → Type 0
IsCall None old new d = closed (first_list old) 0 ≡ None
IsCall (Some cut) old new d = (c : Closed) × (closed (first_list old) 0 ≡ Some c) × (cut.count ≡ length (arguments d c.inside)) × (hidden_names cut.hides ≡ c.close.hides)
    × (take cut.count new ≡ arguments d c.inside) × (first_list (drop cut.count new) ≡ c.rest) × (other_lists (drop cut.count new) ≡ other_lists old)
