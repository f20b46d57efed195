-- What each name stands for under a table of macros, and the parameters of a definition (C17 6.10.3).
use Rattle.std.specs.Prelude.{ℕ, if◌then◌else◌, List, [], ◌∷◌, ◌++◌, codes, Option, None, Some, Result, Ok, Err}
use Rattle.std.specs.Option.{option_map}
use Rattle.std.specs.FinMap as finite
use Rattle.macro_table.specs.declared.fault.TextFault.{TextFault}
use Rattle.macro_table.specs.Definitions.{DefValue}
use Rattle.macro_table.specs.Texts.{def_of_text}
use Rattle.macro_table.specs.Tables.{TableOf}

-- What each name stands for: nothing, a text that is no definition, or a definition.
abbrev pub Macros : Type 0
Macros = List ℕ → Option (Option DefValue)

-- the definition, where the text is one
abbrev pub sound_def : Result DefValue TextFault → Option DefValue
sound_def (Ok d) = Some d
sound_def (Err fault) = None

-- what each name stands for under a table
abbrev pub macros_of : {P : Type 0} → TableOf P → Macros
macros_of table name = option_map (λ entry. sound_def (def_of_text entry.text)) (finite.get table name)

-- the names of a parameter list, where there is one
abbrev pub named_by : Option (List (List ℕ)) → List (List ℕ)
named_by None = []
named_by (Some names) = names

-- the parameters that have names, none of an object-like macro
abbrev pub named_params : DefValue → List (List ℕ)
named_params d = named_by d.params

-- the names that stand for arguments in the replacement list, `__VA_ARGS__` the last (6.10.3.1 p2)
abbrev pub params_of : DefValue → List (List ℕ)
params_of d = named_params d ++ (if d.variadic then codes "__VA_ARGS__" ∷ [] else [])
