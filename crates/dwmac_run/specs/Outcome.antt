-- The answer that an outcome is, and how an outcome ends. Only private functions cite this.
use Rattle.std.specs.Prelude.{◌≡◌, ◌⊎◌, ℕ, ◌≤◌, List, [], Option, Some, None, Result, Ok, Err}
use Rattle.macro_query.specs.declared.fault.QueryFault.{QueryFault}
use Rattle.macro_query.specs.declared.fault.QueryFault.TheVariants.{Elf as QueryElf, Info as QueryInfo, Line as QueryLine, Unit as QueryUnit, NoSuchUnit as QueryNoSuchUnit, Position as QueryPosition, Text as QueryText, Expand as QueryExpand, ReportTooLong as QueryTooLong, NoMemory as QueryRanOut}
use Rattle.mac_base.specs.declared.memory.NoMemory.{NoMemory as RanOut}
use Rattle.mac_io.specs.Calls.{grown, GrowsByFront}
use Rattle.mac_io.specs.Causes.{Rose}
use Rattle.dwmac_run.specs.Answers.{Answer, Prints, Refuses, Misuse}
use Rattle.dwmac_run.specs.Answer.{answer_by}
use Rattle.dwmac_run.specs.Leaves.{State, IsCut, Leaves}
use Rattle.dwmac_run.specs.Refusals.{refusal_line, outside_line}
use Rattle.dwmac_run.specs.declared.status.Status.{Status}
use Rattle.dwmac_run.specs.declared.status.Status.TheVariants.{Ok as Fine, Outside}
use Rattle.dwmac_run.specs.declared.outcome.Outcome.{Outcome}
use Rattle.dwmac_run.specs.declared.outcome.Outcome.TheVariants.{Report, Written, Refused, Usage, NoMemory, Failed}

-- the answer, where it isn't that memory ran out or the shelf failed
abbrev pub answer_of : Outcome → Option Answer
answer_of (Report text) = Some (Prints [] text)
answer_of (Written files text) = Some (Prints files.items text)
answer_of (Refused fault) = Some (Refuses (refusal_line fault))
answer_of Usage = Some Misuse
answer_of NoMemory = None
answer_of Failed = None

-- the answer that a text is, where memory didn't run out
abbrev pub text_answer : Result (List ℕ) RanOut → Option Answer
text_answer (Ok text) = Some (Prints [] text)
text_answer (Err ran_out) = None

-- the answer that the report or the fault of a query is, where it isn't that memory ran out
abbrev pub query_answer : List ℕ → Result (List ℕ) QueryFault → Option Answer
query_answer file (Ok text) = Some (Prints [] text)
query_answer file (Err (QueryElf fault)) = Some (answer_by file (Err (QueryElf fault)))
query_answer file (Err (QueryInfo fault)) = Some (answer_by file (Err (QueryInfo fault)))
query_answer file (Err (QueryLine fault)) = Some (answer_by file (Err (QueryLine fault)))
query_answer file (Err QueryNoSuchUnit) = Some (answer_by file (Err QueryNoSuchUnit))
query_answer file (Err (QueryPosition fault)) = Some (answer_by file (Err (QueryPosition fault)))
query_answer file (Err (QueryUnit fault)) = Some (answer_by file (Err (QueryUnit fault)))
query_answer file (Err (QueryText fault)) = Some (answer_by file (Err (QueryText fault)))
query_answer file (Err (QueryExpand fault)) = Some (answer_by file (Err (QueryExpand fault)))
query_answer file (Err QueryTooLong) = Some (answer_by file (Err QueryTooLong))
query_answer file (Err QueryRanOut) = None

-- the shelf or a header store failed
abbrev pub HasFailed : Outcome → Type 0
HasFailed (Report text) = ⊥
HasFailed (Written files text) = ⊥
HasFailed (Refused fault) = ⊥
HasFailed Usage = ⊥
HasFailed NoMemory = ⊥
HasFailed Failed = Unit {0}

-- An answer ends as it has to; where there is none, any answer allows the end.
abbrev pub Ends : Option Answer → Status → State → State → Type 0
Ends None status old new = (answer : Answer) → Leaves answer status old new
Ends (Some answer) status old new = Leaves answer status old new

-- `out` has this text more and the run ends well, or a prefix of it and `err` a prefix of the line on the outside
abbrev pub EndsPrinting : List ℕ → Status → Option (List ℕ) → Option (List ℕ) → Option (List ℕ) → Option (List ℕ) → Type 0
EndsPrinting text result out_old out_new err_old err_new =
    ((result ≡ Fine) × (out_new ≡ grown out_old text) × (err_new ≡ err_old)) ⊎ ((result ≡ Outside) × GrowsByFront out_old out_new text × GrowsByFront err_old err_new outside_line)

-- `err` has this line more and the run ends with this status, or it broke off
abbrev pub EndsSaying : List ℕ → Status → Status → Option (List ℕ) → Option (List ℕ) → Type 0
EndsSaying line status result old new = ((result ≡ status) × (new ≡ grown old line)) ⊎ ((result ≡ Outside) × IsCut line old new)

-- A run fails only where the count of the path or of the shelf rose, and a count rises only where it fails. Neither falls.
pub record CausedBy (path_before path_now shelf_before shelf_now : ℕ) (failed : Type 0) : Type 0 where
  pub path_later : path_before ≤ path_now
  pub shelf_later : shelf_before ≤ shelf_now
  pub rose : failed → Rose path_before path_now ⊎ Rose shelf_before shelf_now
  pub kept : (failed → ⊥) → (path_now ≡ path_before) × (shelf_now ≡ shelf_before)
