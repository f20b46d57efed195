use Rattle.std.proofs.Common.{◌≡◌, ◌∷◌, length, ap, sym, subst, ◌∙◌, arith}
use Rattle.std.specs.Prelude.{position}
use Rattle.std.specs.List.{position_from}
use Rattle.import_graph.specs.Nodes.{AreNumbered}
use Rattle.import_graph.specs.Numbers.{item_of}
use Rattle.position_table.specs.Paths.{begins_path}
use Rattle.position_table.proofs.ScanLemmas.{position_from_first, taken, later_from, numbered_first, numbered_later}
use Rattle.position_table.proofs.by_path.locate_path.Goals as goal
use Rattle.position_table.proofs.by_path.locate_path.Goals.{In_ok-entry}

next : (c : In_ok-entry) → c.loop-entry.entries ≡ item_of c.in_ok-entry.field-0 ∷ c.next.new.self
next c = taken c.in-Some.entry c.in_ok-entry.field-0 c.loop-entry.entries c.next.new.self c.in_ok-entry.was c.in-Some.ensures.steps

numbered : (c : In_ok-entry) → AreNumbered (length c.args.graph.now.paths) (item_of c.in_ok-entry.field-0 ∷ c.next.new.self)
numbered c = subst (AreNumbered (length c.args.graph.now.paths)) (next c) c.loop-entry.invariant.numbered

pub loop-entry-init : goal.loop-entry-init
loop-entry-init c =
    let test = begins_path c.args.graph.now.paths c.args.path.now in
    record {
      result = position_from_first test c.in_ok-entries.entries ∙ ap (position test) c.in_ok-entries.ensures;
      count = omega (arith, ap length c.in_ok-entries.ensures);
      numbered = subst (AreNumbered (length c.args.graph.now.paths)) (sym c.in_ok-entries.ensures) (subst (λ n. AreNumbered n c.args.graph.now.items) c.paths-paths.ensures.count c.paths-paths.ensures.numbers);
    }

pub begins_path-requires : goal.begins_path-requires
begins_path-requires c = numbered_first (length c.args.graph.now.paths) (item_of c.in_ok-entry.field-0) c.next.new.self (numbered c)

pub loop-entry-preserved : goal.loop-entry-preserved
loop-entry-preserved c =
    let test = begins_path c.args.graph.now.paths c.args.path.now in
    let item = item_of c.in_ok-entry.field-0 in
    let before = next (goal.at.loop-entry-preserved c).In_ok-entry in
    record {
      result = later_from test c.loop-entry.passed item c.next.new.self (sym c.if-begins_path.ensures) ∙ ap (position_from test c.loop-entry.passed) (sym before) ∙ c.loop-entry.invariant.result;
      count = omega (arith, ap length before);
      numbered = numbered_later (length c.args.graph.now.paths) item c.next.new.self (numbered (goal.at.loop-entry-preserved c).In_ok-entry);
    }
