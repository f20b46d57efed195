use Rattle.std.proofs.Common.{◌≡◌, map, Some}
use Rattle.position_table.specs.Positions.{numbers_of}
use Rattle.position_table.proofs.parse.numbers.Given as goal

abbrev pub invariant-loop-field : goal.invariant-loop-field
invariant-loop-field l = numbers_of (map (λ field. field.now) l.yielded) ≡ Some l.numbers.items
