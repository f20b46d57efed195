use Rattle.std.proofs.Common.{ap, ◌∙◌, subst, arith, ◌≡◌, ◌+◌, map, inr, Ok, refl}
use Rattle.std.proofs.lemmas.Result.{err_from_is_err_and}
use Rattle.macro_expand.specs.Substituted.{substituted}
use Rattle.macro_expand.specs.States.{marked, hidden_names, argument_of}
use Rattle.macro_expand.specs.Slots.{in_front}
use Rattle.macro_expand.specs.Machine.{IsFaultOf}
use Rattle.macro_expand.proofs.Moves.{on_list_fault, on_too_long, on_list}
use Rattle.macro_expand.proofs.rescan.machine.replace.Goals as goal

pub returns-in_err-list-clause-err : goal.returns-in_err-list-clause-err
returns-in_err-list-clause-err c =
    let p = err_from_is_err_and c.from_residual.result c.from_residual.ensures.1 in
    rw (p.1, p.2) (λ macros here. on_list_fault macros here c.args.machine.now c.args.call.now c.args.done.now c.in_err-list.field-0.0 c.requires.all
    (subst (λ d. IsFaultOf c.in_err-list.field-0.0 (substituted d c.args.call.now.name c.args.call.now.space (hidden_names c.args.call.now.hides) (map argument_of c.args.done.now))) c.deref.ensures
    (subst (λ n. IsFaultOf c.in_err-list.field-0.0 (substituted c.deref.result.now n c.args.call.now.space (hidden_names c.args.call.now.hides) (map argument_of c.args.done.now))) c.as_slice.ensures c.in_err-list.ensures)))

pub returns-then-count-machine-clause-err : goal.returns-then-count-machine-clause-err
returns-then-count-machine-clause-err c = λ macros here.
    inr (on_too_long macros here c.args.machine.now c.args.call.now c.args.done.now c.in_ok-list.list.items c.requires.all
    (subst (λ d. substituted d c.args.call.now.name c.args.call.now.space (hidden_names c.args.call.now.hides) (map argument_of c.args.done.now) ≡ Ok (map marked c.in_ok-list.list.items)) c.deref.ensures
    (subst (λ n. substituted c.deref.result.now n c.args.call.now.space (hidden_names c.args.call.now.hides) (map argument_of c.args.done.now) ≡ Ok (map marked c.in_ok-list.list.items)) c.as_slice.ensures c.in_ok-list.ensures))
    (omega (arith, c.in_ok-list.list.ok.0)))

pub returns-clause-ok : goal.returns-clause-ok
returns-clause-ok c = λ macros here.
    on_list macros here c.args.machine.now c.args.call.now c.args.done.now c.in_ok-list.list.items c.requires.all
    (subst (λ d. substituted d c.args.call.now.name c.args.call.now.space (hidden_names c.args.call.now.hides) (map argument_of c.args.done.now) ≡ Ok (map marked c.in_ok-list.list.items)) c.deref.ensures
    (subst (λ n. substituted c.deref.result.now n c.args.call.now.space (hidden_names c.args.call.now.hides) (map argument_of c.args.done.now) ≡ Ok (map marked c.in_ok-list.list.items)) c.as_slice.ensures c.in_ok-list.ensures))
    _ (ap (λ k. c.args.machine.now.work + k) (c.len-count.ensures ∙ c.in_ok-list.list.ok.0)) (omega (arith, c.in_ok-list.list.ok.0)) refl refl (c.in_ok-put_back.ensures ∙ ap (in_front (map marked c.in_ok-list.list.items)) c.in_ok-drop_lists.ensures)
