use Rattle.std.proofs.Common.{◌≡◌, ℕ, ◌+◌, ◌<◌, List, ◌∷◌, length, drop, refl, ap, sym, ◌∙◌, arith}
use Rattle.mac_base.specs.Items.{Item, starts_at}
use Rattle.import_graph.specs.Numbers.{item_of}
use Rattle.position_table.proofs.ScanLemmas.{drop_next, inside_from, inside_from_first, taken, inside_later, depth_more}
use Rattle.position_table.proofs.locate.first_start_at.Goals as goal
use Rattle.position_table.proofs.locate.first_start_at.Goals.{In_ok-entry}

next : (c : In_ok-entry) → c.loop-entry.entries ≡ item_of c.in_ok-entry.entry ∷ c.next.new.self
next c = taken c.in-Some.entry c.in_ok-entry.entry c.loop-entry.entries c.next.new.self c.in_ok-entry.was c.in-Some.ensures.steps

rest : (c : In_ok-entry) → (drop (c.loop-entry.passed + 1) c.args.entries.now ≡ c.next.new.self) × (c.loop-entry.passed < length c.args.entries.now)
rest c = drop_next c.loop-entry.passed c.args.entries.now (item_of c.in_ok-entry.entry) c.next.new.self (sym c.loop-entry.invariant.rest ∙ next c)

pub loop-entry-init : goal.loop-entry-init
loop-entry-init c = record { result = inside_from_first (starts_at c.args.line) c.args.entries.now 0; rest = refl; count = omega arith; within = omega arith }

pub returns-then-starts_here-clause-behind : goal.returns-then-starts_here-clause-behind
returns-then-starts_here-clause-behind c =
    let behind = rest (goal.at.returns-then-starts_here-clause-behind c).In_ok-entry in
    (sym behind.0, behind.1)

pub loop-entry-preserved : goal.loop-entry-preserved
loop-entry-preserved c =
    let before = next (goal.at.loop-entry-preserved c).In_ok-entry in
    let behind = rest (goal.at.loop-entry-preserved c).In_ok-entry in
    let item = item_of c.in_ok-entry.entry in
    record {
      result = inside_later (starts_at c.args.line) c.loop-entry.passed item c.next.new.self c.loop-entry.depth c.in-Some-depth_behind.inner c.if-starts_here.ensures c.in-Some-depth_behind.ensures
          ∙ ap (λ (items : List (Item ℕ)). inside_from (starts_at c.args.line) c.loop-entry.passed items c.loop-entry.depth) (sym before) ∙ c.loop-entry.invariant.result;
      rest = sym behind.0;
      count = omega (arith, ap length before);
      within = omega (arith, depth_more item c.loop-entry.depth c.in-Some-depth_behind.inner c.in-Some-depth_behind.ensures);
    }
