use Rattle.std.proofs.Common.{◌≡◌, ℕ, List, ap, ◌∙◌}
use Rattle.std.specs.FinMap as finite
use Rattle.mac_base.specs.Names.{name_of}
use Rattle.macro_table.specs.Tables.{entry_value, TableOf}
use Rattle.mac_base.proofs.TableLemmas.{inserted}
use Rattle.macro_table.proofs.table.Table.define.Goals as goal

pub returns-in-Ok-clause-ok : goal.returns-in-Ok-clause-ok
returns-in-Ok-clause-ok c =
    let name = c.in_ok-name.ensures.items ∙ c.name_of.ensures in
    let text = c.in_ok-text.ensures.items in
    let entry : entry_value (record { text = c.in_ok-text.text; place = c.in_ok-place.place }) ≡ entry_value (record { text = c.args.text.now; place = c.args.place.now }) = rw (text, c.in_ok-place.ensures) in
    rw c.in-Ok.ensures.entries
    (inserted (λ k. k.items) entry_value c.self.inside.entries.entries c.in_ok-name.name (record { text = c.in_ok-text.text; place = c.in_ok-place.place })
    ∙ ap (λ (table : TableOf ℕ). finite.insert table c.in_ok-name.name.items (entry_value (record { text = c.in_ok-text.text; place = c.in_ok-place.place }))) c.self.view_is
    ∙ ap (λ (n : List ℕ). finite.insert c.args.self.now n (entry_value (record { text = c.in_ok-text.text; place = c.in_ok-place.place }))) name
    ∙ ap (finite.insert c.args.self.now (name_of c.args.text.now)) entry)
