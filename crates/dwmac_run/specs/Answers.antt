-- What a run has to say and to store: files and a text, a line, or that the words fit no command.
use Rattle.std.specs.Prelude.{ℕ, List}
use Rattle.dwmac_run.specs.declared.outcome.NewFile.{NewFile}

-- files for the shelf, in order, and then a text for `out`; a line for `err`; or that the words fit no command
pub data Answer : Type 0 where
  Prints : List NewFile → List ℕ → Answer
  Refuses : List ℕ → Answer
  Misuse : Answer
