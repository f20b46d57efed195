-- How deep the calls may still go, and what the loop over the lines of a file keeps.
use Rattle.std.proofs.Common.{◌≡◌, ◌+◌, ◌-◌, ◌*◌, length, drop}
use Rattle.pp_unit.proofs.WalkLemmas.{RunsOn}
use Rattle.pp_unit.proofs.walk.+walk.Given as goal

abbrev pub decreases-walk_file : goal.decreases-walk_file
decreases-walk_file g l = 6 * (201 - length l.open_file.frames) + 5

abbrev pub decreases-follow_lines : goal.decreases-follow_lines
decreases-follow_lines g l = 6 * (201 - length l.open_file.now.frames) + 4

abbrev pub decreases-follow_line : goal.decreases-follow_line
decreases-follow_line g l = 6 * (201 - length l.open_file.now.frames) + 3

abbrev pub decreases-include : goal.decreases-include
decreases-include g l = 6 * (201 - length l.open_file.now.frames) + 2

abbrev pub decreases-include_found : goal.decreases-include_found
decreases-include_found g l = 6 * (201 - length l.outer.now.frames) + 1

abbrev pub decreases-enter : goal.decreases-enter
decreases-enter g l = 6 * (201 - length l.outer.now.frames)

abbrev pub invariant-follow_lines-loop-line : goal.invariant-follow_lines-loop-line
invariant-follow_lines-loop-line g l =
    let stores = g.P.Headers.stores in
    let count = g.P.Headers.count in
    record {
      same : stores l.path ≡ stores l.fn.path;
      kept : count l.path ≡ count l.fn.path;
      runs : RunsOn (stores l.fn.path) l.open_file l.lines l.fn.log l.pending (drop l.line-index l.lines) l.log;
    }
