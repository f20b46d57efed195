use Rattle.std.proofs.Common.{◌++◌, Option, ap, sym, ◌∙◌}
use Rattle.std.specs.Option.{option_map, option_copied}
use Rattle.std.specs.Borrow.{Bor}
use Rattle.macro_table.specs.declared.entry.Entry.{Entry}
use Rattle.macro_table.specs.Tables.{entry_value, renamed_value}
use Rattle.mac_base.specs.ItemLines.{path_in}
use Rattle.macro_query.specs.Tables.{info_by}
use Rattle.macro_query.proofs.TableLemmas.{found_by}
use Rattle.macro_query.proofs.table_report.push_info.Goals as goal

pub returns-in_ok-push_found-in-Some : goal.returns-in_ok-push_found-in-Some
returns-in_ok-push_found-in-Some c =
    let name = renamed_value (path_in c.args.graph.now.paths) in
    c.in_ok-push_found-in-Some.ensures ∙ ap (λ xs. c.args.text.now.items ++ xs) (found_by c.args.graph.now.paths c.args.name.now c.in-Some.entry.now)
    ∙ ap (λ (o : Option (Bor Entry)). c.args.text.now.items ++ info_by c.args.name.now (option_map name (option_map entry_value (option_copied o)))) (sym c.in-Some.is)
