use Rattle.std.proofs.Common.{ap, sym, ◌∙◌}
use Rattle.std.specs.Option.{option_map}
use Rattle.std.specs.FinMap as finite
use Rattle.macro_table.specs.Tables.{entry_value, TableOf}
use Rattle.std.proofs.Common.{ℕ}
use Rattle.mac_base.proofs.TableLemmas.{get_keyed}
use Rattle.macro_table.proofs.table.Table.get.Goals as goal

pub returns : goal.returns
returns c =
    ap (option_map entry_value) c.get.ensures.value ∙ sym (get_keyed (λ k. k.items) entry_value c.self.inside.entries.entries c.args.name.now)
    ∙ ap (λ (table : TableOf ℕ). finite.get table c.args.name.now) c.self.view_is
