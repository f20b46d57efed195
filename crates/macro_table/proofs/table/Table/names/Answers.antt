use Rattle.std.proofs.Common.{◌≡◌, ℕ, map, ap, sym, ◌∙◌, rules}
use Rattle.std.specs.BTreeMap.{keys}
use Rattle.std.specs.Map.Iter.{deref}
use Rattle.std.proofs.lemmas.Map.Iter.{iter_end}
use Rattle.std.specs.FinMap as finite
use Rattle.macro_table.specs.Tables.{entry_value, TableOf}
use Rattle.mac_base.proofs.TableLemmas.{names_keyed, map_behind}
use Rattle.macro_table.proofs.table.Table.names.Goals as goal

pub returns : goal.returns
returns c =
    let all : map deref c.loop-name.yielded ≡ keys c.self.inside.entries = search (rules, iter_end) in
    c.loop-name.invariant ∙ map_behind (λ k. k.items) c.loop-name.yielded ∙ ap (map (λ k. k.items)) all
    ∙ sym (names_keyed (λ k. k.items) entry_value c.self.inside.entries.entries c.keys-name-items.ensures.ordered)
    ∙ ap (λ (table : TableOf ℕ). finite.keys table) c.self.view_is
