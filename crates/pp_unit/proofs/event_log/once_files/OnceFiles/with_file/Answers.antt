use Rattle.std.proofs.Common.{ℕ, List, [], ◌∷◌, ◌++◌, map, ap, ◌∙◌}
use Rattle.mac_io.specs.declared.headers.FileId.{FileId}
use Rattle.pp_unit.specs.Recorded.{file_of}
use Rattle.pp_unit.proofs.KnownLemmas.{known_more, files_more}
use Rattle.pp_unit.proofs.event_log.once_files.OnceFiles.with_file.Goals as goal

pub invariant_of-result : goal.invariant_of-result
invariant_of-result c =
    let inside = c.self.inside in
    rw c.in_ok-push.ensures.items
    (known_more inside.names c.in_ok-names.names inside.files.items inside.known c.insert.new.self c.as_slice-name.result.now c.args.id.now.store c.number_of-number.result
    c.self.invariant c.in_ok-names.ensures c.number_of-number.ensures.number c.in_ok-insert.ensures.updates.0)

pub returns : goal.returns
returns c =
    let inside = c.self.inside in
    ap (λ (files : List (ℕ × ℕ)). map (file_of c.in_ok-names.names) files) c.in_ok-push.ensures.items
    ∙ files_more inside.names c.in_ok-names.names inside.files.items inside.known c.as_slice-name.result.now c.args.id.now c.number_of-number.result
    c.self.invariant c.as_slice-name.ensures c.in_ok-names.ensures c.number_of-number.ensures.number
    ∙ ap (λ (ids : List FileId). ids ++ c.args.id.now ∷ []) c.self.view_is
