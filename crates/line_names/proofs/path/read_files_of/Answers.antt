use Rattle.std.proofs.Common.{◌≡◌, map, ◌+◌, ◌-◌, sym, ◌∙◌, arith}
use Rattle.line_names.specs.Entries.{name_of, tables_of}
use Rattle.line_names.specs.Files.{file_at}
use Rattle.line_names.proofs.RepeatLemmas.{repeat_more}
use Rattle.line_names.proofs.path.read_files_of.Goals as goal

pub loop-index-preserved : goal.loop-index-preserved
loop-index-preserved c =
    let less : c.args.count - (c.loop-index._index + 1) ≡ c.args.count - c.loop-index._index - 1 = omega arith in
    let read = file_at (tables_of c.args.tables.now) c.args.sizes (map name_of c.args.directories.now) c.args.format.now in
    let more = repeat_more read (c.args.count - c.loop-index._index) c.loop-index.paths c.loop-index.cursor c.read_path.new.cursor c.in_ok-path.path (omega arith) c.in_ok-path.ensures in
    rw (c.in_ok-push.ensures.ok, less) (sym more ∙ c.loop-index.invariant)
