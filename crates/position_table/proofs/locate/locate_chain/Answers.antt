use Rattle.std.proofs.Common.{◌≡◌, ℕ, ◌+◌, Option, Some, None, drop, ap, sym, ◌∙◌, arith}
use Rattle.std.specs.Prelude.{position}
use Rattle.std.specs.Option.{option_map}
use Rattle.mac_base.specs.Items.{is_start}
use Rattle.macro_table.specs.FileTable.{levels}
use Rattle.position_table.proofs.ScanLemmas.{not_some, levels_none, level_more, some_behind, rest_more}
use Rattle.position_table.proofs.locate.locate_chain.Goals as goal

pub returns-in_default : goal.returns-in_default
returns-in_default c =
    let items = c.args.graph.now.items in
    let none : position is_start items ≡ None = ap (position is_start) (sym c.in_ok-entries.ensures) ∙ sym c.in_ok-start.ensures.found ∙ not_some c.in_ok-start.field-0 c.in_default.not-Some in
    ap (levels items c.args.lines.now 0) none ∙ levels_none items c.args.lines.now 0

pub returns-in_default-2 : goal.returns-in_default-2
returns-in_default-2 c =
    let items = c.args.graph.now.items in
    sym c.loop-included.invariant.result
    ∙ level_more items c.loop-included.entries c.args.lines.now c.loop-included.included-index c.loop-included.depth c.loop-included.start c.from.result c.in_ok-passed.field-0 (omega arith) c.from.ensures c.loop-included.invariant.rest c.in_ok-passed.ensures.found
    ∙ ap (λ (o : Option ℕ). levels items (drop (c.loop-included.included-index + 1) c.args.lines.now) (c.loop-included.depth + 1) (option_map (λ n. c.loop-included.start + 1 + n) o)) (not_some c.in_ok-passed.field-0 c.in_default-2.not-Some)
    ∙ levels_none items (drop (c.loop-included.included-index + 1) c.args.lines.now) (c.loop-included.depth + 1)

pub loop-included-preserved : goal.loop-included-preserved
loop-included-preserved c =
    let items = c.args.graph.now.items in
    let behind = some_behind c.in_ok-passed.field-0 c.in-Some-2.passed c.loop-included.entries c.first_start_at.new.entries c.in-Some-2.is c.in_ok-passed.ensures.behind in
    let rest = rest_more items c.loop-included.entries c.first_start_at.new.entries c.loop-included.start c.in-Some-2.passed c.loop-included.invariant.rest c.loop-included.invariant.within behind in
    let place : c.loop-included.start + 1 + c.in-Some-2.passed ≡ c.loop-included.start + (1 + c.in-Some-2.passed) = omega arith in
    let more = level_more items c.loop-included.entries c.args.lines.now c.loop-included.included-index c.loop-included.depth c.loop-included.start c.from.result c.in_ok-passed.field-0 (omega arith) c.from.ensures c.loop-included.invariant.rest c.in_ok-passed.ensures.found in
    record {
      result = sym (ap (λ (o : Option ℕ). levels items (drop (c.loop-included.included-index + 1) c.args.lines.now) (c.loop-included.depth + 1) (option_map (λ n. c.loop-included.start + 1 + n) o)) c.in-Some-2.is
          ∙ ap (λ n. levels items (drop (c.loop-included.included-index + 1) c.args.lines.now) (c.loop-included.depth + 1) (Some n)) place) ∙ sym more ∙ c.loop-included.invariant.result;
      rest = rest.0;
      within = rest.1;
      few = omega arith;
    }
