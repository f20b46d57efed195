-- Words have exactly one answer, where what they ask for is read from told files.
use Rattle.std.specs.Prelude.{◌≡◌, ℕ, List, Option}
use Rattle.mac_io.specs.Files.{Files}
use Rattle.pp_unit.specs.Files.{Stores}
use Rattle.dwmac_run.specs.Roots.{IsPathFor}
use Rattle.dwmac_run.specs.Answers.{Answer}
use Rattle.dwmac_run.specs.Answer.{IsAnswer, IsTold}

-- there is an answer, and no other
abbrev pub OneAnswer : Type 0
OneAnswer = (words : List (List ℕ)) (told : Option Files) (stores : Stores) → IsPathFor words stores → IsTold words told stores →
    (answer : Answer) × IsAnswer words told stores answer × ((other : Answer) → IsAnswer words told stores other → other ≡ answer)
