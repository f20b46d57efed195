use Rattle.std.proofs.Common.{◌∙◌, sym}
use Rattle.std.proofs.lemmas.Result.{err_from_is_err_and}
use Rattle.std.proofs.lemmas.List.{nil_from_length}
use Rattle.macro_expand.proofs.PassLemmas.{paste_start, paste_none, paste_word, paste_last, paste_joined, paste_fault, paste_end}
use Rattle.macro_expand.proofs.substitution.paste_pass.paste_cells.Goals as goal

pub returns-in_default : goal.returns-in_default
returns-in_default c = paste_none c.args.rest.items c.new-done.result.items (nil_from_length _ (sym c.args.rest.ok.0 ∙ c.in_default.ensures.cases.0)) c.new-done.ensures.items

pub loop-cell-init : goal.loop-cell-init
loop-cell-init c = paste_start c.args.rest.items c.pop.new.self.items c.new-done.result.items c.in-Some.last c.in-Some.ensures.items c.new-done.ensures.items

pub returns-in_default-pop-2 : goal.returns-in_default-pop-2
returns-in_default-pop-2 c = paste_last c.args.rest.items c.loop-cell.rest.items c.pop-in-loop-cell.new.self.items c.loop-cell.done.items c.loop-cell.last c.in-Some-pop.cell c.loop-cell.invariant c.in-Some-pop.ensures.items c.push.new.self.items c.push-in_default-pop-2.new.self.items (nil_from_length _ (sym c.pop-in-loop-cell.new.self.ok.0 ∙ c.in_default-pop-2.ensures.cases.0)) c.in_ok-push.ensures.items c.in_ok-push-2.ensures.items

pub returns-in_err-last : goal.returns-in_err-last
returns-in_err-last c =
    let p = err_from_is_err_and c.from_residual-in_err-last.result c.from_residual-in_err-last.ensures.1 in
    rw (p.1, p.2) (paste_fault c.args.rest.items c.loop-cell.rest.items c.pop-in-loop-cell.new.self.items c.loop-cell.done.items c.loop-cell.last c.in-Some-pop.cell c.loop-cell.invariant c.in-Some-pop.ensures.items c.pop-then-is_joins.new.self.items c.in-Some-pop-2.right c.in-Some-pop-2.ensures.items (sym c.is_joins.ensures ∙ c.if-is_joins.true) c.in_err-last.field-0.0 c.in_err-last.ensures)

pub loop-cell-preserved-in_ok-last-3 : goal.loop-cell-preserved-in_ok-last-3
loop-cell-preserved-in_ok-last-3 c = paste_joined c.args.rest.items c.loop-cell.rest.items c.pop-in-loop-cell.new.self.items c.loop-cell.done.items c.loop-cell.last c.in-Some-pop.cell c.loop-cell.invariant c.in-Some-pop.ensures.items c.pop-then-is_joins.new.self.items c.in-Some-pop-2.right c.in-Some-pop-2.ensures.items (sym c.is_joins.ensures ∙ c.if-is_joins.true) c.in_ok-last.last c.in_ok-last.ensures

pub loop-cell-preserved-in_ok-last-4 : goal.loop-cell-preserved-in_ok-last-4
loop-cell-preserved-in_ok-last-4 c = paste_joined c.args.rest.items c.loop-cell.rest.items c.pop-in-loop-cell.new.self.items c.loop-cell.done.items c.loop-cell.last c.in-Some-pop.cell c.loop-cell.invariant c.in-Some-pop.ensures.items c.pop-then-is_joins.new.self.items c.in-Some-pop-2.right c.in-Some-pop-2.ensures.items (sym c.is_joins.ensures ∙ c.if-is_joins.true) c.in_ok-last.last c.in_ok-last.ensures

pub loop-cell-preserved : goal.loop-cell-preserved
loop-cell-preserved c = paste_word c.args.rest.items c.loop-cell.rest.items c.pop-in-loop-cell.new.self.items c.loop-cell.done.items c.loop-cell.last c.in-Some-pop.cell c.loop-cell.invariant c.in-Some-pop.ensures.items c.push-else-is_joins.new.self.items c.in_ok-push-3.ensures.items (sym c.is_joins.ensures ∙ c.if-is_joins.false)

pub returns : goal.returns
returns c = paste_end c.args.rest.items c.loop-cell.rest.items c.loop-cell.done.items c.push-2.new.self.items c.loop-cell.last c.loop-cell.invariant (nil_from_length _ (sym c.loop-cell.rest.ok.0 ∙ c.in_default-pop.ensures.cases.0)) c.in_ok-push-4.ensures.items
