-- What a query answers by what it has to say.
use Rattle.std.specs.Prelude.{◌≡◌, ◌⊎◌, ℕ, nat_lt, if◌then◌else◌, List, length, Result, Ok, Err}
use Rattle.mac_base.specs.ReportText.{most_report}
use Rattle.macro_query.specs.declared.fault.QueryFault.{QueryFault}
use Rattle.macro_query.specs.declared.fault.QueryFault.TheVariants.{ReportTooLong, NoMemory as RanOut}

-- a report that is too long is not printed
abbrev pub limited : List ℕ → Result (List ℕ) QueryFault
limited text = if nat_lt most_report (length text) then Err ReportTooLong else Ok text

-- a report or a fault, where the report is tested last
abbrev pub within_limit : Result (List ℕ) QueryFault → Result (List ℕ) QueryFault
within_limit (Ok text) = limited text
within_limit (Err fault) = Err fault

-- A call answers what there is to be said, by this relation, unless memory ran out.
abbrev pub Answers : Result (List ℕ) QueryFault → (Result (List ℕ) QueryFault → Type 0) → Type 0
Answers result Says = (result ≡ Err RanOut) ⊎ ((said : Result (List ℕ) QueryFault) × Says said × (result ≡ within_limit said))
