use Rattle.mac_base.specs.SectionBytes.{bytes_of}
use Rattle.macro_query.specs.Roots.{RootsSay, DumpOf}
use Rattle.macro_query.proofs.QueryLemmas.{of_sections, of_elf}
use Rattle.macro_query.proofs.dump_report.dump.Goals as goal

pub returns-in_err-s : goal.returns-in_err-s
returns-in_err-s c = of_elf (RootsSay (λ view. DumpOf view 0)) c.args.file.now _ _ c.in_err-s.ensures.err c.from_residual.ensures.1

pub returns : goal.returns
returns c = of_sections (RootsSay (λ view. DumpOf view 0)) c.args.file.now (bytes_of c.in_ok-s.s) c.dump_sections.result c.in_ok-s.ensures.ok c.dump_sections.ensures
