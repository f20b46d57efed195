use Rattle.std.proofs.Common.{ap, ◌∙◌}
use Rattle.std.specs.FinMap as map
use Rattle.mac_io.specs.Files.{files_of}
use Rattle.mac_io.proofs.FileLemmas.{replaced_file, pushed_file}
use Rattle.mac_io.proofs.map_shelf.store.Goals as goal

pub returns-in-Some-clause-ok : goal.returns-in-Some-clause-ok
returns-in-Some-clause-ok c =
    let names = c.args.names.now.items in
    let contents = c.args.contents.now.items in
    let content = c.in_ok-content.ensures.items in
    replaced_file names contents c.args.name.now c.in_ok-content.content c.in-Some.place c.requires (rw c.deref.ensures.value at c.in-Some.ensures)
    ∙ ap (map.insert (files_of names contents) c.args.name.now) content

pub returns-in_ok-add-in-None-clause-ok : goal.returns-in_ok-add-in-None-clause-ok
returns-in_ok-add-in-None-clause-ok c =
    let names = c.args.names.now.items in
    let contents = c.args.contents.now.items in
    let content = c.in_ok-content.ensures.items in
    rw (c.in_ok-add-in-None.ensures.names, c.in_ok-add-in-None.ensures.contents)
    (pushed_file names contents c.args.name.now c.in_ok-content.content c.requires (rw c.deref.ensures.value at c.in-None.ensures)
    ∙ ap (map.insert (files_of names contents) c.args.name.now) content)
