use Rattle.std.proofs.Common.{◌≡◌, ◌-◌}
use Rattle.line_names.specs.Header.{bytes_passed}
use Rattle.line_names.proofs.header.pass_bytes.Given as goal

abbrev pub invariant-loop-index : goal.invariant-loop-index
invariant-loop-index l = bytes_passed (l.count - l._index) l.cursor ≡ bytes_passed l.count l.fn.cursor
