-- The exit status of the program, by how its run ended.
use Rattle.std.specs.Prelude.{ℕ}
use Rattle.dwmac_run.specs.declared.status.Status.{Status}
use Rattle.dwmac_run.specs.declared.status.Status.TheVariants.{Ok, Refused, Usage, NoMemory, Outside}

abbrev pub exit_status : Status → ℕ
exit_status Ok = 0
exit_status Refused = 1
exit_status Usage = 2
exit_status NoMemory = 3
exit_status Outside = 4
