use Rattle.std.proofs.Common.{◌∙◌, [], sym, refl, suc, true}
use Rattle.std.proofs.lemmas.Result.{err_from_is_err_and}
use Rattle.macro_expand.specs.declared.here.Here.{Here}
use Rattle.macro_expand.specs.declared.rescan.machine.Machine.{Machine}
use Rattle.macro_expand.specs.Macros.{Macros, macros_of}
use Rattle.macro_expand.specs.Slots.{lists}
use Rattle.macro_expand.specs.Machine.{meaning, replacing, replacing_size, size}
use Rattle.macro_expand.proofs.Moves.{on_head_fault, on_put, text_step, on_replaced, fault_as, goes_on_from}
use Rattle.macro_expand.proofs.rescan.machine.step.Goals as goal

pub returns-in_err-token-clause-err : goal.returns-in_err-token-clause-err
returns-in_err-token-clause-err c =
    let p = err_from_is_err_and c.from_residual.result c.from_residual.ensures.1 in
    rw (p.1, p.2) (on_head_fault (macros_of c.args.definitions.now) c.args.here.now c.args.machine.now c.in_err-token.field-0.0 c.in_err-token.ensures.head)

pub returns-in_err-begin-in-Replaced-clause-err : goal.returns-in_err-begin-in-Replaced-clause-err
returns-in_err-begin-in-Replaced-clause-err c =
    let p = err_from_is_err_and c.from_residual-in_err-begin-in-Replaced.result c.from_residual-in_err-begin-in-Replaced.ensures.1 in
    let M : Macros = macros_of c.args.definitions.now in
    let H : Here = c.args.here.now in
    let m : Machine = c.args.machine.now in
    let h = rw c.in-Replaced.is at c.in_ok-token.ensures.head in
    let n : Machine = record m { slots = c.take_head.new.slots } in
    let k = on_replaced M H m (lists m.slots) refl n (lists c.take_head.new.slots) refl refl c.in-Replaced.call h.0 h.1 refl refl in
    rw (p.1, p.2) (fault_as c.in_err-begin-in-Replaced.field-0.0 (replacing M H n c.in-Replaced.call []) (meaning M H m) (λ e. sym k.0 ∙ e) (c.in_err-begin-in-Replaced.ensures.err M H))

pub returns-in_err-more-in-Finished-clause-err : goal.returns-in_err-more-in-Finished-clause-err
returns-in_err-more-in-Finished-clause-err c =
    let p = err_from_is_err_and c.from_residual-in_err-more-in-Finished.result c.from_residual-in_err-more-in-Finished.ensures.1 in
    let h = rw c.in-Finished.is at c.in_ok-token.ensures.head in
    rw (p.1, p.2) (c.in_err-more-in-Finished.ensures.err (macros_of c.args.definitions.now) c.args.here.now c.args.machine.now (record { head = h.0; others = h.1; out = refl; work = refl; frames = refl }))

pub returns-in_ok-put_out-in-Stays-clause-ok : goal.returns-in_ok-put_out-in-Stays-clause-ok
returns-in_ok-put_out-in-Stays-clause-ok c =
    let M : Macros = macros_of c.args.definitions.now in
    let H : Here = c.args.here.now in
    let m : Machine = c.args.machine.now in
    let h = rw c.in-Stays.is at c.in_ok-token.ensures.head in
    let b : Machine = record m { slots = c.take_head.new.slots } in
    on_put M H m (lists m.slots) refl b c.put_out.new.machine (lists c.take_head.new.slots) refl refl refl refl c.args.text.now.items c.put_out.new.text.items c.in-Stays.token h.0 h.1 c.requires.work c.in_ok-put_out-in-Stays.ensures

pub returns-in_ok-begin-in-Replaced-clause-ok : goal.returns-in_ok-begin-in-Replaced-clause-ok
returns-in_ok-begin-in-Replaced-clause-ok c =
    let M : Macros = macros_of c.args.definitions.now in
    let H : Here = c.args.here.now in
    let m : Machine = c.args.machine.now in
    let h = rw c.in-Replaced.is at c.in_ok-token.ensures.head in
    let n : Machine = record m { slots = c.take_head.new.slots } in
    let k = on_replaced M H m (lists m.slots) refl n (lists c.take_head.new.slots) refl refl c.in-Replaced.call h.0 h.1 refl refl in
    text_step M H (meaning M H m) (size m) c.args.text.now.items c.begin.new.machine true
    (goes_on_from M H (replacing M H n c.in-Replaced.call []) (meaning M H m) (suc (replacing_size n c.in-Replaced.call)) (size m) c.begin.new.machine (c.in_ok-begin-in-Replaced.ensures.ok M H) (sym k.0) k.1)

pub returns-in_ok-more-in-Finished-clause-ok : goal.returns-in_ok-more-in-Finished-clause-ok
returns-in_ok-more-in-Finished-clause-ok c =
    let h = rw c.in-Finished.is at c.in_ok-token.ensures.head in
    let M : Macros = macros_of c.args.definitions.now in
    let H : Here = c.args.here.now in
    let m : Machine = c.args.machine.now in
    text_step M H (meaning M H m) (size m) c.args.text.now.items c.end_list.new.machine c.in_ok-more-in-Finished.more (c.in_ok-more-in-Finished.ensures.ok M H m (record { head = h.0; others = h.1; out = refl; work = refl; frames = refl }))
