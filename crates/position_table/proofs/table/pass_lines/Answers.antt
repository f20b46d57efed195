use Rattle.std.proofs.Common.{ℕ, List, length, ap, sym, ◌∙◌, arith}
use Rattle.import_graph.specs.Numbers.{item_of}
use Rattle.mac_base.specs.Items.{Item, ends_or_reaches}
use Rattle.position_table.specs.Standing.{Standing, behind_all}
use Rattle.position_table.proofs.ScanLemmas.{taken, depth_more}
use Rattle.position_table.proofs.TableLemmas.{upto, upto_miss}
use Rattle.position_table.proofs.table.pass_lines.Goals as goal

pub loop-entry-preserved : goal.loop-entry-preserved
loop-entry-preserved c =
    let item = item_of c.in_ok-entry.entry in
    let rest = c.next.new.self in
    let test = ends_or_reaches c.args.line in
    let before = taken c.in-Some.entry c.in_ok-entry.entry c.loop-entry.entries rest c.in_ok-entry.was c.in-Some.ensures.steps in
    record {
      passed = ap (λ (s : Standing). behind_all s (upto test rest c.in-Some-depth_behind.inner)) c.in_ok-pass.ensures
          ∙ ap (behind_all c.loop-entry.draft) (sym (upto_miss test item rest c.loop-entry.depth c.in-Some-depth_behind.inner c.if-is_over.ensures c.in-Some-depth_behind.ensures))
          ∙ ap (λ (items : List (Item ℕ)). behind_all c.loop-entry.draft (upto test items c.loop-entry.depth)) (sym before) ∙ c.loop-entry.invariant.passed;
      within = omega (arith, ap length before, depth_more item c.loop-entry.depth c.in-Some-depth_behind.inner c.in-Some-depth_behind.ensures);
    }
