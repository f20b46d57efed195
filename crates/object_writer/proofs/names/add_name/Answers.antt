use Rattle.std.proofs.Common.{◌≡◌, List, ap, ◌∙◌, map}
use Rattle.std.specs.List.{list_any}
use Rattle.std.specs.Str.{bytes_eq}
use Rattle.object_writer.specs.declared.section.SectionName.{SectionName}
use Rattle.object_writer.specs.Elf.{name_of}
use Rattle.object_writer.proofs.NameLemmas.{added_new, added_old}
use Rattle.object_writer.proofs.names.add_name.Goals as goal

pub returns-in_ok-push-clause-added : goal.returns-in_ok-push-clause-added
returns-in_ok-push-clause-added c =
    let has : c.has_name.result ≡ list_any (λ other. bytes_eq (name_of c.args.name) (name_of other)) c.args.names.now.items = c.has_name.ensures ∙ ap (λ (ns : List SectionName). list_any (λ other. bytes_eq (name_of c.args.name) (name_of other)) ns) c.as_slice.ensures.value in
    ap (map name_of) c.in_ok-push.ensures.items ∙ added_new c.args.name c.args.names.now.items c.has_name.result has c.if-not-has_name.true

pub returns-else-not-has_name-clause-added : goal.returns-else-not-has_name-clause-added
returns-else-not-has_name-clause-added c =
    let has : c.has_name.result ≡ list_any (λ other. bytes_eq (name_of c.args.name) (name_of other)) c.args.names.now.items = c.has_name.ensures ∙ ap (λ (ns : List SectionName). list_any (λ other. bytes_eq (name_of c.args.name) (name_of other)) ns) c.as_slice.ensures.value in
    added_old c.args.name c.args.names.now.items c.has_name.result has c.if-not-has_name.false
