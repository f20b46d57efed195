use Rattle.std.proofs.Common.{◌≡◌, drop}
use Rattle.unit_header.specs.Reading.{after_own}
use Rattle.unit_header.proofs.rows.pass_own.Given as goal

abbrev pub invariant-loop-code : goal.invariant-loop-code
invariant-loop-code l = after_own l.at (drop l.code-index l.own) l.cursor ≡ after_own l.at l.own l.fn.cursor
