use Rattle.std.proofs.Common.{◌≡◌, map, ◌+◌, ◌-◌, Ok, Err, inr, ap, sym, ◌∙◌, arith}
use Rattle.std.proofs.lemmas.Result.{err_from_is_err_and}
use Rattle.mac_base.specs.Input.{Input, ◌>>=◌}
use Rattle.line_names.specs.Entries.{Entry, name_of, tables_of}
use Rattle.line_names.specs.Files.{directory_at}
use Rattle.line_names.proofs.RepeatLemmas.{repeat_more, repeat_stop, map_one}
use Rattle.line_names.proofs.path.read_names.Goals as goal

pub returns-in_err-entry : goal.returns-in_err-entry
returns-in_err-entry c =
    let p = err_from_is_err_and c.from_residual.result c.from_residual.ensures.1 in
    let read = directory_at (tables_of c.args.tables.now) c.args.measures c.args.format.now in
    let fault : read c.loop-index.cursor ≡ Err c.in_err-entry.field-0.0 = ap (λ r. r >>= λ (e : Entry × Input). Ok (e.0.path, e.1)) c.in_err-entry.ensures in
    let stop = repeat_stop read (c.args.count - c.loop-index._index) (map name_of c.loop-index.names.items) c.loop-index.cursor c.in_err-entry.field-0.0 (omega arith) fault in
    rw (p.1, p.2) (inr (sym c.loop-index.invariant ∙ stop))

pub loop-index-preserved : goal.loop-index-preserved
loop-index-preserved c =
    let less : c.args.count - (c.loop-index._index + 1) ≡ c.args.count - c.loop-index._index - 1 = omega arith in
    let read = directory_at (tables_of c.args.tables.now) c.args.measures c.args.format.now in
    let next : read c.loop-index.cursor ≡ Ok (name_of c.in_ok-entry.entry.path, c.read_entry.new.cursor) = ap (λ r. r >>= λ (e : Entry × Input). Ok (e.0.path, e.1)) c.in_ok-entry.ensures in
    let more = repeat_more read (c.args.count - c.loop-index._index) (map name_of c.loop-index.names.items) c.loop-index.cursor c.read_entry.new.cursor (name_of c.in_ok-entry.entry.path) (omega arith) next in
    rw (c.in_ok-push.ensures.items, less, map_one name_of c.loop-index.names.items c.in_ok-entry.entry.path) (sym more ∙ c.loop-index.invariant)
