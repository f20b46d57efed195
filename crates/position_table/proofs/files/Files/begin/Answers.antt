use Rattle.std.proofs.Common.{◌+◌, ◌<◌, length, ap, arith}
use Rattle.std.proofs.lemmas.List.{length_push}
use Rattle.position_table.specs.declared.files.OpenFile.{OpenFile}
use Rattle.position_table.proofs.FileLemmas.{length_is, view_push, nested_push}
use Rattle.position_table.proofs.files.Files.begin.Goals as goal

pub invariant_of-self-2 : goal.invariant_of-self-2
invariant_of-self-2 c =
    let items = c.self.inside.items.items in
    let within : c.args.around.index < 1 + length items = omega (arith, length_is items c.args.self.now c.self.view_is) in
    rw c.in_ok-push.ensures.items (nested_push 1 items (record { around = c.args.around; frame = c.args.frame }) c.self.invariant within)

pub returns-clause-ok : goal.returns-clause-ok
returns-clause-ok c =
    let items = c.self.inside.items.items in
    let file : OpenFile = record { around = c.args.around; frame = c.args.frame } in (
      rw c.in_ok-push.ensures.items (view_push items c.args.self.now c.self.view_is file),
      omega (arith, length_is items c.args.self.now c.self.view_is, c.len.ensures, c.push.new.self.ok.0, ap length c.in_ok-push.ensures.items, length_push items file),
    )
