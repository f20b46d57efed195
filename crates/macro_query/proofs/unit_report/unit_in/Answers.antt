use Rattle.std.proofs.Common.{Err, inr, refl}
use Rattle.mac_base.specs.SectionBytes.{bytes_of}
use Rattle.macro_query.proofs.QueryLemmas.{outside_section}
use Rattle.macro_query.proofs.unit_report.unit_in.Goals as goal

pub returns-then-at-s : goal.returns-then-at-s
returns-then-at-s c = inr (Err _, outside_section c.args.at (bytes_of c.args.s.now) c.if-at-s.true, refl)
