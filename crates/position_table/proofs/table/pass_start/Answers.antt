use Rattle.std.proofs.Common.{◌≡◌, ℕ, ◌+◌, ◌-◌, List, take, drop, ap, sym, ◌∙◌, arith}
use Rattle.import_graph.specs.Numbers.{item_of}
use Rattle.mac_base.specs.Items.{Item}
use Rattle.position_table.specs.Standing.{Standing, behind_all}
use Rattle.std.specs.Prelude.{slice_get}
use Rattle.position_table.proofs.ScanLemmas.{taken, at_later, begun_here, begun_nowhere}
use Rattle.position_table.proofs.TableLemmas.{take_first, drop_first}
use Rattle.position_table.proofs.table.pass_start.Goals as goal

pub loop-entry-preserved : goal.loop-entry-preserved
loop-entry-preserved c =
    let item = item_of c.in_ok-passed.passed in
    let rest = c.next.new.self in
    let before = taken c.in-Some.entry c.in_ok-passed.passed c.loop-entry.entries rest c.in_ok-passed.was c.in-Some.ensures.steps in
    let less : c.loop-entry.before - 1 + 1 ≡ c.loop-entry.before = omega arith in
    record {
      passed = ap (λ n. behind_all c.pass.new.self (take n rest)) less ∙ ap (λ (s : Standing). behind_all s (take c.loop-entry.before rest)) c.in_ok-pass.ensures
          ∙ sym (take_first c.loop-entry.draft item rest c.loop-entry.before) ∙ ap (λ (items : List (Item ℕ)). behind_all c.loop-entry.draft (take (c.loop-entry.before + 1) items)) (sym before)
          ∙ c.loop-entry.invariant.passed;
      place = at_later item rest c.loop-entry.entries c.args.entries.now c.args.start c.loop-entry.before before c.if-before-eq0.false c.loop-entry.invariant.place;
      left = ap (λ n. drop n rest) less ∙ sym (drop_first item rest c.loop-entry.before) ∙ ap (drop (c.loop-entry.before + 1)) (sym before) ∙ c.loop-entry.invariant.left;
    }

pub returns-then-before-eq0-clause-file : goal.returns-then-before-eq0-clause-file
returns-then-before-eq0-clause-file c =
    let item = item_of c.in_ok-passed.passed in
    let before = taken c.in-Some.entry c.in_ok-passed.passed c.loop-entry.entries c.next.new.self c.in_ok-passed.was c.in-Some.ensures.steps in
    c.file_of.ensures ∙ begun_here item c.next.new.self c.loop-entry.entries c.args.entries.now c.args.start c.loop-entry.before before c.if-before-eq0.true c.loop-entry.invariant.place

pub returns-clause-file : goal.returns-clause-file
returns-clause-file c = begun_nowhere c.loop-entry.entries c.args.entries.now c.args.start c.loop-entry.before c.in_default.ensures.steps.0 c.loop-entry.invariant.place
