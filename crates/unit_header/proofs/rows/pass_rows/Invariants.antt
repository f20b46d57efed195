use Rattle.std.proofs.Common.{◌≡◌, ◌-◌, ℕ, List, length}
use Rattle.std.specs.Prelude.{[]}
use Rattle.unit_header.specs.Reading.{after_rows}
use Rattle.unit_header.proofs.RowLemmas.{IsSeen}
use Rattle.unit_header.proofs.rows.pass_rows.Given as goal

abbrev pub invariant-loop : goal.invariant-loop
invariant-loop l = (seen : List ℕ) × IsSeen l.seen seen × (length l.seen ≡ 256) × (after_rows seen (l.count - l.counter) l.cursor ≡ after_rows [] l.count l.fn.cursor)
