-- The text of a report: the numbers in it, and how it is made under a limit on its length.
use Rattle.std.specs.Prelude.{◌≡◌, ◌<◌, ◌≤◌, ℕ, nat_lt, Bool, true, false, if◌then◌else◌, List, ◌++◌, length, codes, Option, Some, None}
use Rattle.std.specs.Fmt.{digits}
use Rattle.mac_base.specs.declared.report.ReportBuilder.{ReportBuilder}

-- a number in hexadecimal
abbrev pub hex : ℕ → List ℕ
hex n = codes "0x" ++ digits 16 false n

-- the most bytes that a report may have
abbrev pub most_report : ℕ
most_report = 1073741824

-- a report, unless it is too long
abbrev pub kept : List ℕ → Option (List ℕ)
kept whole = if nat_lt most_report (length whole) then None else Some whole

-- The text so far is the whole report up to here, or that is too long to be kept.
abbrev pub Tells : Bool → List ℕ → List ℕ → Type 0
Tells false text whole = (text ≡ whole) × (length text ≤ most_report)
Tells true text whole = most_report < length whole

-- the report grows by exactly these bytes
abbrev pub Adds : ReportBuilder → ReportBuilder → List ℕ → Type 0
Adds old new more = (whole : List ℕ) → Tells old.is_long old.text.items whole → Tells new.is_long new.text.items (whole ++ more)
