use Rattle.std.proofs.Common.{◌∙◌}
use Rattle.section_views.proofs.Strings.{is_text-behind, is_text-apart}
use Rattle.section_views.proofs.names.begins.Goals as goal

pub returns-in-Some : goal.returns-in-Some
returns-in-Some c =
    let stands = c.in-Some.ensures.cases in
    c.starts_with.ensures.value ∙ is_text-behind c.args.text.now c.args.bytes.now c.in-Some.rest.now c.requires stands.0 stands.1

pub returns-in-None : goal.returns-in-None
returns-in-None c = is_text-apart c.args.text.now c.args.bytes.now c.requires c.in-None.ensures.cases
