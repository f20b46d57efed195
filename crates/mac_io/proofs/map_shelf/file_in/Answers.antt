use Rattle.std.proofs.Common.{◌<◌, length, [], Some, ap, sym, ◌∙◌, arith}
use Rattle.std.proofs.lemmas.List.{get_or_read}
use Rattle.mac_io.proofs.FileLemmas.{no_place, file_at_place, place_within}
use Rattle.mac_io.proofs.map_shelf.file_in.Goals as goal

pub returns-in_err-place : goal.returns-in_err-place
returns-in_err-place c = rw c.from_residual.ensures (sym (no_place c.args.names.now c.args.contents.now c.args.name.now c.in_err-place.ensures))

pub returns : goal.returns
returns c =
    let names = c.args.names.now in
    let contents = c.args.contents.now in
    let place = c.in_ok-place.place in
    let within : place < length contents = omega (arith, place_within names c.args.name.now place c.in_ok-place.ensures, c.requires) in
    let read = get_or_read contents place c.index-contents-place.result within c.index-contents-place.is [] in
    ap Some (c.as_slice.ensures ∙ read) ∙ sym (file_at_place names contents c.args.name.now place c.requires c.in_ok-place.ensures)
