use Rattle.mac_base.specs.SectionBytes.{bytes_of}
use Rattle.macro_query.specs.Queries.{SectionSays}
use Rattle.macro_query.proofs.QueryLemmas.{of_sections, of_elf}
use Rattle.macro_query.proofs.unit_report.unit.Goals as goal

pub returns-in_err-s : goal.returns-in_err-s
returns-in_err-s c = of_elf (SectionSays c.args.at) c.args.file.now _ _ c.in_err-s.ensures.err c.from_residual.ensures.1

pub returns : goal.returns
returns c = of_sections (SectionSays c.args.at) c.args.file.now (bytes_of c.in_ok-s.s) c.unit_in.result c.in_ok-s.ensures.ok c.unit_in.ensures
