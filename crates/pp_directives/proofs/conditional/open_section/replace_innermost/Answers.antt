-- A store at the last index puts the section in the place of the innermost.
use Rattle.pp_directives.proofs.OpenLemmas.{replaced}
use Rattle.pp_directives.proofs.conditional.open_section.replace_innermost.Goals as goal

pub returns-then-n-gt0 : goal.returns-then-n-gt0
returns-then-n-gt0 c = replaced c.args.section c.args.items.now
