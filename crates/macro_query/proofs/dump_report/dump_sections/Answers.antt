use Rattle.mac_base.specs.SectionBytes.{bytes_of}
use Rattle.macro_query.specs.Roots.{DumpOf}
use Rattle.macro_query.proofs.QueryLemmas.{of_roots, of_info}
use Rattle.macro_query.proofs.dump_report.dump_sections.Goals as goal

pub returns-in_err-roots : goal.returns-in_err-roots
returns-in_err-roots c = of_info (λ view. DumpOf view 0) (bytes_of c.args.s.now) _ _ c.in_err-roots.ensures.err c.from_residual.ensures.1

pub returns : goal.returns
returns c = of_roots (λ view. DumpOf view 0) (bytes_of c.args.s.now) c.in_ok-roots.roots.items _ c.dump_roots.result c.in_ok-roots.ensures.ok c.as_slice.ensures.value c.dump_roots.ensures
