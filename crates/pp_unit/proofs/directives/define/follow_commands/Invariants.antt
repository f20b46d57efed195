use Rattle.std.proofs.Common.{◌≡◌, drop}
use Rattle.pp_unit.specs.Definitions.{all_commanded}
use Rattle.pp_unit.proofs.directives.define.follow_commands.Given as goal

abbrev pub invariant-loop-command : goal.invariant-loop-command
invariant-loop-command l = all_commanded l.log (drop l.command-index l.commands) ≡ all_commanded l.fn.log l.commands
