-- Private to the code, cited by no public contract. The definitions that were read from the texts of a table.
use Rattle.std.specs.Prelude.{ℕ, ◌≡◌, true, false, List, Option, Some, None}
use Rattle.std.specs.Option.{option_map}
use Rattle.std.specs.List.{AllByRecursion}
use Rattle.std.specs.Prelude.{Vec}
use Rattle.std.specs.declared.rc.Rc.{Rc}
use Rattle.macro_table.specs.Definitions.{DefValue}
use Rattle.macro_table.specs.Tables.{TableOf}
use Rattle.macro_expand.specs.declared.rescan.parsed_macro.ParsedMacro.{ParsedMacro}
use Rattle.macro_expand.specs.declared.hide_set.set.HideSet.{HideSet}
use Rattle.macro_expand.specs.declared.hide_set.hide_set_memo.HideSetMemo.{HideSetMemo}
use Rattle.macro_expand.specs.declared.rescan.lookup_memo.LookupMemo.{LookupMemo}
use Rattle.macro_expand.specs.Marked.{Names, with_name}
use Rattle.macro_expand.specs.Macros.{macros_of}
use Rattle.macro_expand.specs.States.{name_text, hidden_names}

-- a shared definition
abbrev pub def_value : {X : Type 0} → Rc DefValue X → DefValue
def_value def = def.value

-- the definition of a name that has a text, where the text is one
abbrev pub parsed_def : ParsedMacro → Option DefValue
parsed_def known = option_map def_value known.def

-- a name and its definition
abbrev pub parsed_value : ParsedMacro → List ℕ × Option DefValue
parsed_value known = (name_text known.name, parsed_def known)

-- what a name stands for, where this was found
abbrev pub IsMeaning : Option ParsedMacro → List ℕ → Option (Option DefValue) → Type 0
IsMeaning None name said = said ≡ None
IsMeaning (Some known) name said = (said ≡ Some (parsed_def known)) × (name_text known.name ≡ name)

-- the set that was made has the names of the set that it was made of, and one name more; whether that set had it is known
abbrev pub IsSoundHideSet : HideSetMemo → Type 0
IsSoundHideSet made = (hidden_names made.with ≡ with_name (name_text made.name) (hidden_names made.from)) × (made.had ≡ hidden_names made.from (name_text made.name))

-- the set has the name already, or this is the set with the name more
abbrev pub IsMore : Option HideSet → List ℕ → Names → Type 0
IsMore None name names = names name ≡ true
IsMore (Some more) name names = (names name ≡ false) × (hidden_names more ≡ with_name name names)

-- what is remembered is what the table says
abbrev pub AreParsed : {A : Type 0} → TableOf ℕ → List (Vec ℕ A × ParsedMacro) → Type 0
AreParsed table entries = AllByRecursion (λ e. IsMeaning (Some e.1) e.0.items (macros_of table e.0.items)) entries

-- what is remembered of a name is what the table says
abbrev pub IsSoundLookup : TableOf ℕ → Option LookupMemo → Type 0
IsSoundLookup table None = Unit {0}
IsSoundLookup table (Some r) = IsMeaning r.known r.name.items (macros_of table r.name.items)
