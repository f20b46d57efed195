use Rattle.std.proofs.Common.{rules, ◌≡◌, ◌<◌, ◌∙◌, ◌+◌, ◌∷◌, sym, ap, subst, refl, arith, drop, suc, false, None, [], length}
use Rattle.macro_expand.specs.declared.here.Here.{Here}
use Rattle.macro_expand.specs.declared.rescan.head.MacroCall.{MacroCall}
use Rattle.macro_expand.specs.declared.substitution.argument_pass.Argument.{Argument as HeldArgument}
use Rattle.macro_expand.specs.declared.rescan.machine.Frame.{Frame}
use Rattle.macro_expand.specs.declared.rescan.machine.Machine.{Machine}
use Rattle.macro_expand.specs.Macros.{Macros, params_of}
use Rattle.macro_expand.specs.Calls.{stands_free}
use Rattle.macro_expand.specs.States.{stands_bound}
use Rattle.macro_expand.specs.Slots.{lists}
use Rattle.macro_expand.specs.Machine.{replacing, replacing_size, GoesOn, wanted_in}
use Rattle.macro_expand.proofs.Moves.{same_argument, param_is, on_plain, on_wanted, goes_on_from}
use Rattle.macro_expand.proofs.rescan.machine.advance.Goals as goal

pub returns-then-is_wanted-clause-ok : goal.returns-then-is_wanted-clause-ok
returns-then-is_wanted-clause-ok c = λ macros here.
    let r : MacroCall = c.loop-done.call in
    let q : MacroCall = record { def = r.def; name = r.name; space = r.space; hides = r.hides; next = r.next + 1; count = c.saturating_sub.result } in
    let ps : drop r.next (params_of r.def.value) ≡ c.in-Some.name ∷ drop (r.next + 1) (params_of r.def.value) =
    ap (λ d. drop r.next (params_of d)) (sym c.deref.ensures) ∙ param_is c.in_ok-name.field-0 c.in-Some.name (drop r.next (params_of c.deref.result.now)) (drop (r.next + 1) (params_of c.deref.result.now)) c.in-Some.is c.in_ok-name.ensures.name
    ∙ ap (λ d. c.in-Some.name ∷ drop (r.next + 1) (params_of d)) c.deref.ensures in
    let body : c.as_slice-in-Some.result.now ≡ r.def.value.body = search rules in
    let is : wanted_in r.count (stands_free c.in-Some.name false r.def.value.body) ≡ c.is_wanted.result =
    ap (λ b. wanted_in r.count (stands_free c.in-Some.name false b)) (sym body) ∙ ap (λ n. wanted_in r.count (stands_free n false c.as_slice-in-Some.result.now)) (sym c.as_slice.ensures) ∙ sym c.is_wanted.ensures in
    let whole : c.as_slice-then-is_wanted-2.result.now ≡ r.def.value.body = search rules in
    let kept : c.stands_bound-kept.result ≡ stands_bound c.in-Some.name false r.def.value.body =
    c.stands_bound-kept.ensures ∙ ap (λ n. stands_bound n false c.as_slice-then-is_wanted-2.result.now) c.as_slice-then-is_wanted.ensures ∙ ap (stands_bound c.in-Some.name false) whole in
    let n : Machine = record { slots = c.loop-done.machine.slots; out = c.replace-out.new.dest; work = c.loop-done.machine.work; frames = c.push.new.self } in
    let f : Frame = record { out = c.replace-out.result; call = q; done = c.loop-done.done; name = c.in-Some.name; plain = c.in_ok-plain.plain } in
    goes_on_from macros here (replacing macros here c.loop-done.machine r c.loop-done.done.items) _ (suc (replacing_size c.loop-done.machine r)) _ n
    (on_wanted macros here r q c.in-Some.name (lists c.loop-done.machine.slots) refl refl refl refl c.saturating_sub.ensures ps c.loop-done.machine n f c.loop-done.done.items refl (is ∙ c.if-is_wanted.true)
    refl (ap (λ v. v.items) c.replace-out.ensures.after ∙ c.new.ensures.items) refl c.in_ok-push.ensures.items c.loop-done.invariant.work c.replace-out.ensures.value refl refl refl
    c.stands_bound-kept.result kept
    c.in_ok-plain.ensures)
    (sym (c.loop-done.invariant.same macros here)) (omega (arith, c.loop-done.invariant.less))

pub loop-done-smaller : goal.loop-done-smaller
loop-done-smaller c =
    let r : MacroCall = c.loop-done.call in
    let q : MacroCall = record { def = r.def; name = r.name; space = r.space; hides = r.hides; next = r.next + 1; count = c.saturating_sub.result } in
    let ps : drop r.next (params_of r.def.value) ≡ c.in-Some.name ∷ drop (r.next + 1) (params_of r.def.value) =
    ap (λ d. drop r.next (params_of d)) (sym c.deref.ensures) ∙ param_is c.in_ok-name.field-0 c.in-Some.name (drop r.next (params_of c.deref.result.now)) (drop (r.next + 1) (params_of c.deref.result.now)) c.in-Some.is c.in_ok-name.ensures.name
    ∙ ap (λ d. c.in-Some.name ∷ drop (r.next + 1) (params_of d)) c.deref.ensures in
    omega (arith, ap length ps)

pub loop-done-preserved : goal.loop-done-preserved
loop-done-preserved c =
    let r : MacroCall = c.loop-done.call in
    let q : MacroCall = record { def = r.def; name = r.name; space = r.space; hides = r.hides; next = r.next + 1; count = c.saturating_sub.result } in
    let ps : drop r.next (params_of r.def.value) ≡ c.in-Some.name ∷ drop (r.next + 1) (params_of r.def.value) =
    ap (λ d. drop r.next (params_of d)) (sym c.deref.ensures) ∙ param_is c.in_ok-name.field-0 c.in-Some.name (drop r.next (params_of c.deref.result.now)) (drop (r.next + 1) (params_of c.deref.result.now)) c.in-Some.is c.in_ok-name.ensures.name
    ∙ ap (λ d. c.in-Some.name ∷ drop (r.next + 1) (params_of d)) c.deref.ensures in
    let body : c.as_slice-in-Some.result.now ≡ r.def.value.body = search rules in
    let is : wanted_in r.count (stands_free c.in-Some.name false r.def.value.body) ≡ c.is_wanted.result =
    ap (λ b. wanted_in r.count (stands_free c.in-Some.name false b)) (sym body) ∙ ap (λ n. wanted_in r.count (stands_free n false c.as_slice-in-Some.result.now)) (sym c.as_slice.ensures) ∙ sym c.is_wanted.ensures in
    let n : Machine = record { slots = c.take_argument.new.slots; out = c.loop-done.machine.out; work = c.loop-done.machine.work; frames = c.loop-done.machine.frames } in
    let g : HeldArgument = record { name = c.in-Some.name; plain = c.in_ok-plain-2.plain; expanded = c.new-in-Some.result } in
    let go : (macros : Macros) (here : Here) → (replacing macros here n q c.push-in-Some.new.self.items ≡ replacing macros here c.loop-done.machine r c.loop-done.done.items) × (replacing_size n q < replacing_size c.loop-done.machine r) = λ macros here. on_plain macros here r q c.in-Some.name (lists c.loop-done.machine.slots) refl refl refl refl c.saturating_sub.ensures ps c.loop-done.machine n g c.loop-done.done.items c.push-in-Some.new.self.items refl (is ∙ c.if-is_wanted.false)
    c.in_ok-plain-2.ensures.others refl refl refl (same_argument g c.in-Some.name _ refl c.in_ok-plain-2.ensures.list c.new-in-Some.ensures.items) c.in_ok-push-2.ensures.ok in
    record {
      same = λ macros here. (go macros here).0 ∙ c.loop-done.invariant.same macros here;
      less = omega (arith, (go (λ n. None) (record { line = 0; file = [] })).1, c.loop-done.invariant.less);
      work = c.loop-done.invariant.work;
    }

pub returns-clause-ok : goal.returns-clause-ok
returns-clause-ok c = λ macros here.
    goes_on_from macros here (replacing macros here c.loop-done.machine c.loop-done.call c.loop-done.done.items) _ (suc (replacing_size c.loop-done.machine c.loop-done.call)) _ c.replace.new.machine
    (subst (λ d. GoesOn macros here (replacing macros here c.loop-done.machine c.loop-done.call d) (suc (replacing_size c.loop-done.machine c.loop-done.call)) c.replace.new.machine) c.as_slice-2.ensures (c.in_ok-replace.ensures.ok macros here))
    (sym (c.loop-done.invariant.same macros here)) (omega (arith, c.loop-done.invariant.less))
