use Rattle.std.proofs.Common.{ℕ, [], Some, subst, Option}
use Rattle.object_writer.specs.declared.relocation.Target.{Target}
use Rattle.object_writer.specs.Object.{root_line, root_items}
use Rattle.object_writer.specs.Growing.{IsStarted}
use Rattle.object_writer.proofs.UnitLemmas.{ended}
use Rattle.object_writer.proofs.unit.root_unit.Goals as goal

pub returns-clause-unit : goal.returns-clause-unit
returns-clause-unit c =
    let line : ℕ → Option Target = λ n. Some (record { symbol = n; addend = 0 }) in
    let started : IsStarted c.args.wide (root_line c.args.layout) c.in_ok-unit.unit = subst (λ n. IsStarted c.args.wide (line n) c.in_ok-unit.unit) c.lines.ensures.number c.in_ok-unit.ensures in
    let items = root_items c.args.layout c.push_root_entries.new.strings c.args.entries.now in
    let both = ended c.args.wide (root_line c.args.layout) c.in_ok-unit.unit c.push_root_entries.new.self items c.end.new.self.contents.items c.end.new.self.relocations.items started (c.in_ok-push_root_entries.ensures.items []) c.in_ok-end.ensures.contents c.in_ok-end.ensures.relocations in
    record { contents = both.0; relocations = both.1 }
