use Rattle.std.proofs.Common.{◌≡◌, map, drop}
use Rattle.macro_expand.specs.Substituted.{find_argument}
use Rattle.macro_expand.specs.States.{argument_of}
use Rattle.macro_expand.proofs.substitution.argument_pass.find_argument.Given as goal

abbrev pub invariant-loop-argument : goal.invariant-loop-argument
invariant-loop-argument l = find_argument (map argument_of (drop l.argument-index l.args)) l.token ≡ find_argument (map argument_of l.args) l.token
