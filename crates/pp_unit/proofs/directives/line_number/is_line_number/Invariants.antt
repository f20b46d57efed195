use Rattle.std.proofs.Common.{◌≡◌, ◌≤◌, drop}
use Rattle.pp_unit.specs.LineNumbers.{line_limit, is_line_number}
use Rattle.pp_unit.proofs.LineLemmas.{number_from}
use Rattle.pp_unit.proofs.directives.line_number.is_line_number.Given as goal

abbrev pub invariant-loop-byte : goal.invariant-loop-byte
invariant-loop-byte l = record { small : l.number ≤ line_limit; rest : number_from l.number (drop l.byte-index l.text) ≡ is_line_number l.text }
