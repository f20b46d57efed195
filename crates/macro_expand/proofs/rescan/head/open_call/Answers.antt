use Rattle.std.proofs.Common.{refl, sym, ◌∙◌}
use Rattle.macro_expand.specs.States.{marked}
use Rattle.macro_expand.specs.Slots.{lists}
use Rattle.macro_expand.proofs.CallLemmas.{bare_is, cut_is}
use Rattle.macro_expand.proofs.rescan.head.open_call.Goals as goal

pub returns-then-is_bare : goal.returns-then-is_bare
returns-then-is_bare c =
    bare_is c.args.def.now (lists c.args.slots.now) (lists c.next_token.new.slots) (marked c.in-Some.close) (record { count = 0; hides = c.in-Some.close.hides })
    (sym c.is_bare.ensures ∙ c.if-is_bare.true) c.in-Some.ensures.takes refl refl

pub returns : goal.returns
returns c =
    cut_is c.args.def.now c.args.slots.now c.cut_arguments.new.slots c.commas_in-commas.result c.in_ok-cut.cut
    (sym c.is_bare.ensures ∙ c.if-is_bare.false)
    c.commas_in-commas.ensures c.in_ok-cut.ensures
