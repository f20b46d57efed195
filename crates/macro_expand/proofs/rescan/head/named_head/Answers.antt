use Rattle.std.proofs.Common.{ℕ, ◌∙◌, sym, subst, Ok}
use Rattle.macro_table.specs.Tables.{TableOf}
use Rattle.macro_expand.specs.Heads.{Head, seen_head}
use Rattle.macro_expand.specs.Macros.{macros_of}
use Rattle.macro_expand.specs.Calls.{first_list}
use Rattle.macro_expand.specs.States.{marked}
use Rattle.macro_expand.specs.Slots.{lists}
use Rattle.macro_expand.specs.Taking.{IsHead}
use Rattle.macro_expand.proofs.HeadLemmas.{named_seen}
use Rattle.macro_expand.proofs.rescan.head.named_head.Goals as goal

pub returns-clause-head : goal.returns-clause-head
returns-clause-head c =
    let m = rw c.in-Some.is at c.in_ok-hides.ensures.set in
    subst (λ (h : Head). IsHead (Ok c.in_ok-head.head) (lists c.args.slots.now) (lists c.seen_head.new.slots) h)
    (sym (named_seen (macros_of c.args.definitions.now) c.args.here.now (marked c.args.hidden) (first_list (lists c.args.slots.now)) m.0))
    (subst (λ (d : TableOf ℕ). IsHead (Ok c.in_ok-head.head) (lists c.args.slots.now) (lists c.seen_head.new.slots) (seen_head (macros_of d) c.args.here.now (marked c.args.hidden) (first_list (lists c.args.slots.now)))) (c.hide_own_name.ensures.kept ∙ c.look_up.ensures.kept) c.in_ok-head.ensures.head)
