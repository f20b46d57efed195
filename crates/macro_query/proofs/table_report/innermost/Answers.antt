use Rattle.std.proofs.Common.{◌∙◌, sym}
use Rattle.macro_query.proofs.TableLemmas.{innermost_of}
use Rattle.macro_query.proofs.table_report.innermost.Goals as goal

pub returns-in-Some : goal.returns-in-Some
returns-in-Some c = c.path_of.ensures ∙ sym (innermost_of c.args.graph.now.paths c.args.frames.now _ c.in-Some.frame.now c.in-Some.ensures.cases.0)
