use Rattle.std.proofs.Common.{◌≡◌, ℕ, List, ap, sym, ◌∙◌}
use Rattle.std.specs.Prelude.{position, Some, None}
use Rattle.std.specs.List.{list_any}
use Rattle.mac_io.specs.declared.headers.FileId.{FileId}
use Rattle.pp_tokens.specs.Kinds.{same}
use Rattle.pp_unit.specs.Seen.{same_file}
use Rattle.pp_unit.proofs.KnownLemmas.{has_some, has_none}
use Rattle.pp_unit.proofs.event_log.once_files.OnceFiles.has.Goals as goal

pub returns-in-Some : goal.returns-in-Some
returns-in-Some c =
    let inside = c.self.inside in
    let id = c.args.id.now in
    let there : position (same id.name) inside.names ≡ Some c.in-Some.number =
    ap (λ (name : List ℕ). position (same name) inside.names) (sym c.as_slice.ensures) ∙ sym c.in-Some.ensures in
    c.contains.ensures
    ∙ has_some inside.names inside.files.items inside.known id c.in-Some.number c.self.invariant there
    ∙ ap (λ (ids : List FileId). list_any (same_file id) ids) c.self.view_is

pub returns-in-None : goal.returns-in-None
returns-in-None c =
    let inside = c.self.inside in
    let id = c.args.id.now in
    let none : position (same id.name) inside.names ≡ None =
    ap (λ (name : List ℕ). position (same name) inside.names) (sym c.as_slice.ensures) ∙ sym c.in-None.ensures in
    has_none inside.names inside.files.items inside.known id c.self.invariant none
    ∙ ap (λ (ids : List FileId). list_any (same_file id) ids) c.self.view_is
