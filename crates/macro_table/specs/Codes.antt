-- Codes of the tables' values, by which proofs tell them apart. They say nothing of the values.
use Rattle.std.specs.Prelude.{ℕ, List, refl}
use Rattle.std.specs.Coded.{Coded, code_by, coded×, coded_ℕ, coded_list}
use Rattle.std.specs.FinMap as finite
use Rattle.macro_table.specs.Tables.{EntryValue, TableOf}

-- entries
abbrev pub coded_value : Coded (EntryValue ℕ)
coded_value = code_by (List ℕ × (List (ℕ × ℕ) × ℕ)) (coded× (coded_list coded_ℕ) (coded× (coded_list (coded× coded_ℕ coded_ℕ)) coded_ℕ)) (λ e. (e.text, (e.files, e.line))) (λ p. record { text = p.0; files = p.1.0; line = p.1.1 }) (λ _. refl)

-- tables
abbrev pub coded_table : Coded (TableOf ℕ)
coded_table = finite.code (coded_list coded_ℕ) coded_value
