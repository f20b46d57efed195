use Rattle.std.proofs.Common.{ℕ, List, [], ◌∷◌, ◌++◌, ◌∙◌, ap, length}
use Rattle.macro_expand.specs.Listed.{names_in}
use Rattle.macro_expand.proofs.NameLists.{name_behind}
use Rattle.macro_expand.proofs.hide_set.names.Names.with.Goals as goal

pub returns : goal.returns
returns c =
    let lengths : List ℕ = c.self.inside.lengths.items in
    let text : List ℕ = c.self.inside.text.items in
    let name : List ℕ = c.args.name.now in
    ap (λ l. names_in l c.extend_from_slice.new.self.items) c.in_ok-push.ensures.ok ∙ ap (names_in (lengths ++ length name ∷ [])) c.in_ok-extend_from_slice.ensures.ok
    ∙ name_behind lengths text name c.self.invariant ∙ ap (λ l. l ++ name ∷ []) c.self.view_is
