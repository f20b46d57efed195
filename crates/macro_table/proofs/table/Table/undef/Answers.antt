use Rattle.std.proofs.Common.{ℕ, ap, ◌∙◌}
use Rattle.std.specs.FinMap as finite
use Rattle.macro_table.specs.Tables.{entry_value, TableOf}
use Rattle.mac_base.proofs.TableLemmas.{removed}
use Rattle.macro_table.proofs.table.Table.undef.Goals as goal

pub returns : goal.returns
returns c =
    rw c.remove.ensures.entries
    (removed (λ k. k.items) entry_value c.self.inside.entries.entries c.args.name.now (rw c.remove.ensures.entries at c.remove.ensures.updates.1)
    ∙ ap (λ (table : TableOf ℕ). finite.remove table c.args.name.now) c.self.view_is)
