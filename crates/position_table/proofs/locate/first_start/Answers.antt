use Rattle.std.proofs.Common.{◌≡◌, ◌+◌, ◌<◌, ◌∷◌, length, drop, refl, ap, sym, ◌∙◌, arith}
use Rattle.std.specs.List.{position_from}
use Rattle.mac_base.specs.Items.{is_start}
use Rattle.import_graph.specs.Numbers.{item_of}
use Rattle.position_table.proofs.ScanLemmas.{drop_next, position_from_first, taken, not_start, later_from}
use Rattle.position_table.proofs.locate.first_start.Goals as goal
use Rattle.position_table.proofs.locate.first_start.Goals.{In_ok-entry}

next : (c : In_ok-entry) → c.loop-entry.entries ≡ item_of c.in_ok-entry.field-0 ∷ c.next.new.self
next c = taken c.in-Some.entry c.in_ok-entry.field-0 c.loop-entry.entries c.next.new.self c.in_ok-entry.was c.in-Some.ensures.steps

rest : (c : In_ok-entry) → (drop (c.loop-entry.passed + 1) c.args.entries.now ≡ c.next.new.self) × (c.loop-entry.passed < length c.args.entries.now)
rest c = drop_next c.loop-entry.passed c.args.entries.now (item_of c.in_ok-entry.field-0) c.next.new.self (sym c.loop-entry.invariant.rest ∙ next c)

pub loop-entry-init : goal.loop-entry-init
loop-entry-init c = record { result = position_from_first is_start c.args.entries.now; rest = refl; count = omega arith }

pub returns-in-Start-clause-behind : goal.returns-in-Start-clause-behind
returns-in-Start-clause-behind c =
    let behind = rest (goal.at.returns-in-Start-clause-behind c).In_ok-entry in
    (sym behind.0, behind.1)

pub loop-entry-preserved : goal.loop-entry-preserved
loop-entry-preserved c =
    let before = next (goal.at.loop-entry-preserved c).In_ok-entry in
    let behind = rest (goal.at.loop-entry-preserved c).In_ok-entry in
    record {
      result = later_from is_start c.loop-entry.passed (item_of c.in_ok-entry.field-0) c.next.new.self (not_start c.in_ok-entry.field-0 c.in_default-2.not-Start)
          ∙ ap (position_from is_start c.loop-entry.passed) (sym before) ∙ c.loop-entry.invariant.result;
      rest = sym behind.0;
      count = omega (arith, ap length before);
    }
