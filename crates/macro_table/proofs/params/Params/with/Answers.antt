use Rattle.std.proofs.Common.{◌++◌, ◌∷◌, [], ap, ◌∙◌}
use Rattle.macro_table.proofs.ParamLemmas.{known_more}
use Rattle.macro_table.proofs.params.Params.with.Goals as goal

pub invariant_of-result : goal.invariant_of-result
invariant_of-result c =
    let put = c.in_ok-push.ensures.ok ∙ ap (λ n. c.self.inside.names ++ n ∷ []) c.in_ok-from_slice.ensures.items in
    known_more (λ name. name.items) c.self.inside.known.keys c.insert.new.self.keys c.in_ok-from_slice-2.field-0 c.self.inside.names c.push.new.self c.args.name.now c.in_ok-insert.ensures.keys c.in_ok-from_slice-2.ensures.items put c.self.invariant
