use Rattle.std.proofs.Common.{◌≡◌, ◌-◌}
use Rattle.unit_header.specs.Reading.{after_known}
use Rattle.unit_header.proofs.rows.pass_known.Given as goal

abbrev pub invariant-loop : goal.invariant-loop
invariant-loop l = after_known (l.count - l.counter) l.cursor ≡ after_known l.count l.fn.cursor
