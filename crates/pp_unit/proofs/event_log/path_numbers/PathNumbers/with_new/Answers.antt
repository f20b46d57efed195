use Rattle.std.proofs.Common.{◌≡◌, ℕ, List, [], ◌∷◌, ◌++◌, ap, ◌∙◌}
use Rattle.std.specs.Prelude.{position, None}
use Rattle.pp_tokens.specs.Kinds.{same}
use Rattle.pp_unit.proofs.KnownLemmas.{numbered_new}
use Rattle.pp_unit.proofs.event_log.path_numbers.PathNumbers.with_new.Goals as goal

pub invariant_of-result : goal.invariant_of-result
invariant_of-result c =
    let inside = c.self.inside in
    let path = c.args.path.now in
    let new : position (same path) inside.paths ≡ None = ap (λ (paths : List (List ℕ)). position (same path) paths) c.self.view_is ∙ c.requires in
    let after : c.push.new.self ≡ inside.paths ++ path ∷ [] =
    c.in_ok-push.ensures.ok ∙ ap (λ (p : List ℕ). inside.paths ++ p ∷ []) c.in_ok-from_slice-2.ensures.items in
    rw (c.in_ok-insert.ensures.entries, after)
    (numbered_new (λ k. k.items) inside.numbers.entries c.in_ok-from_slice.field-0 c.len.result inside.paths path c.in_ok-from_slice.ensures.items c.len.ensures new c.self.invariant)
