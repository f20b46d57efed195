use Rattle.std.proofs.Common.{rules, ◌≡◌, true, false, Ok}
use Rattle.std.specs.Option.{option_map, is_none}
use Rattle.macro_expand.specs.Calls.{first_list}
use Rattle.macro_expand.specs.Heads.{opens}
use Rattle.macro_expand.specs.States.{marked}
use Rattle.macro_expand.specs.Slots.{lists}
use Rattle.macro_expand.proofs.HeadLemmas.{called_head}
use Rattle.macro_expand.proofs.rescan.head.macro_head.Goals as goal

pub returns-clause-head : goal.returns-clause-head
returns-clause-head c =
    let some : is_none c.args.def.value.params ≡ false = search rules in
    let opening : opens (first_list (lists c.args.slots.now)) ≡ true = search rules in
    called_head c.args.def.value c.args.def.value.params (marked c.args.hidden) (lists c.args.slots.now) (lists c.next_token.new.slots) (lists c.call_head.new.slots) (option_map marked c.next_token.result) (Ok c.in_ok-head.head)
    some opening c.next_token.ensures.takes c.in_ok-head.ensures.head
