use Rattle.std.proofs.Common.{◌∙◌, sym, ap, refl, suc, map, Ok}
use Rattle.std.proofs.lemmas.Result.{err_from_is_err_and}
use Rattle.std.proofs.lemmas.List.{nil_from_length}
use Rattle.macro_expand.specs.declared.substitution.argument_pass.Argument.{Argument as HeldArgument}
use Rattle.macro_expand.specs.declared.rescan.machine.Frame.{Frame}
use Rattle.macro_expand.specs.declared.rescan.machine.Machine.{Machine}
use Rattle.macro_expand.specs.States.{marked}
use Rattle.macro_expand.specs.Slots.{lists}
use Rattle.macro_expand.specs.Machine.{meaning, replacing, replacing_size, size}
use Rattle.macro_expand.proofs.Moves.{on_end, on_return, given_in, fault_as, goes_on_from}
use Rattle.macro_expand.proofs.rescan.machine.end_list.Goals as goal

pub returns-in_default-clause-ok : goal.returns-in_default-clause-ok
returns-in_default-clause-ok c = λ macros here m h.
    let n : Machine = c.args.machine.now in
    on_end macros here m (lists m.slots) refl (ap (λ v. v.items) (sym h.frames) ∙ nil_from_length _ (sym n.frames.ok.0 ∙ c.in_default.ensures.cases.0)) h.head
    ∙ ap (λ v. Ok (map marked v.items, m.work)) (sym h.out) ∙ ap (λ w. Ok (map marked n.out.items, w)) (sym h.work)

pub returns-in_err-advance-clause-err : goal.returns-in_err-advance-clause-err
returns-in_err-advance-clause-err c =
    let p = err_from_is_err_and c.from_residual-in_err-advance.result c.from_residual-in_err-advance.ensures.1 in
    rw (p.1, p.2) (λ macros here m h.
    let n : Machine = record { slots = c.args.machine.now.slots; out = c.replace-expanded.new.dest; work = c.args.machine.now.work; frames = c.pop.new.self } in
    let f : Frame = c.in-Some.frame in
    let g : HeldArgument = record { name = f.name; plain = f.plain; expanded = c.replace-expanded.result } in
    let k = on_return macros here m (lists m.slots) refl n (lists n.slots) refl h.work c.pop.new.self.items f g c.push.new.self.items h.head h.others (ap (λ v. v.items) (sym h.frames) ∙ c.in-Some.ensures.items)
    (given_in f g m.out.items refl refl (ap (λ v. v.items) (c.replace-expanded.ensures.value ∙ h.out))) c.in_ok-push.ensures.ok c.replace-expanded.ensures.after refl in
    fault_as c.in_err-advance.field-0.0 (replacing macros here n f.call c.push.new.self.items) (meaning macros here m) (λ e. sym k.0 ∙ e) (c.in_err-advance.ensures.err macros here))

pub returns-clause-ok : goal.returns-clause-ok
returns-clause-ok c = λ macros here m h.
    let n : Machine = record { slots = c.args.machine.now.slots; out = c.replace-expanded.new.dest; work = c.args.machine.now.work; frames = c.pop.new.self } in
    let f : Frame = c.in-Some.frame in
    let g : HeldArgument = record { name = f.name; plain = f.plain; expanded = c.replace-expanded.result } in
    let k = on_return macros here m (lists m.slots) refl n (lists n.slots) refl h.work c.pop.new.self.items f g c.push.new.self.items h.head h.others (ap (λ v. v.items) (sym h.frames) ∙ c.in-Some.ensures.items)
    (given_in f g m.out.items refl refl (ap (λ v. v.items) (c.replace-expanded.ensures.value ∙ h.out))) c.in_ok-push.ensures.ok c.replace-expanded.ensures.after refl in
    goes_on_from macros here (replacing macros here n f.call c.push.new.self.items) (meaning macros here m) (suc (replacing_size n f.call)) (size m) c.advance.new.machine (c.in_ok-advance.ensures.ok macros here) (sym k.0) k.1
