use Rattle.std.proofs.Common.{rules, ◌≡◌, refl, sym, subst, Ok, Some, false, bytes_eq, codes}
use Rattle.macro_expand.specs.Macros.{macros_of}
use Rattle.macro_expand.specs.Calls.{first_list}
use Rattle.macro_expand.specs.States.{marked}
use Rattle.macro_expand.specs.Slots.{lists}
use Rattle.macro_expand.specs.Taking.{IsHead}
use Rattle.macro_expand.proofs.HeadLemmas.{seen_is, found_is}
use Rattle.macro_expand.proofs.rescan.head.seen_head.Goals as goal

pub returns-clause-head : goal.returns-clause-head
returns-clause-head c =
    let line : bytes_eq c.args.hidden.token.text (codes "__LINE__") ≡ false = search rules in
    let file : bytes_eq c.args.hidden.token.text (codes "__FILE__") ≡ false = search rules in
    let found : macros_of c.args.definitions.now c.args.hidden.token.text ≡ Some (Some c.in-Some-def.def.value) = found_is (macros_of c.args.definitions.now) c.args.known c.in-Some.known c.in-Some-def.def c.args.hidden.token.text c.args.hidden.token.text c.in-Some.is c.in-Some-def.is c.requires.known refl in
    subst (λ h. IsHead (Ok c.in_ok-head.head) (lists c.args.slots.now) (lists c.macro_head.new.slots) h) (sym (seen_is (macros_of c.args.definitions.now) c.args.here.now (marked c.args.hidden) (first_list (lists c.args.slots.now)) c.in-Some-def.def.value line file found)) c.in_ok-head.ensures.head
