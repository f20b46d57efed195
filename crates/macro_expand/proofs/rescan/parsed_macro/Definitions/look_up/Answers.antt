use Rattle.std.proofs.Common.{◌∙◌}
use Rattle.macro_expand.proofs.ParsedLemmas.{recent_right}
use Rattle.macro_expand.proofs.rescan.parsed_macro.Definitions.look_up.Goals as goal

pub invariant_of-self-2 : goal.invariant_of-self-2
invariant_of-self-2 c =
    let table = c.self-2.inside.table.now in (
      c.self-2.invariant.0,
      c.self-2.invariant.1,
      c.put_lookup_memo.ensures table (c.make_places.ensures table c.self-2.invariant.2)
          (recent_right table c.args.self.now c.in_ok-known.known c.in_ok-same_meaning.field-0 c.args.name.now c.in_ok-from_slice.field-0.items (c.self-2.view_is ∙ c.read.ensures.kept) c.in_ok-from_slice.ensures.items c.in_ok-same_meaning.ensures c.in_ok-known.ensures.found),
    )
