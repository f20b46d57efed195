use Rattle.std.proofs.Common.{◌≡◌, subst, Ok}
use Rattle.mac_base.specs.Items.{Define}
use Rattle.pp_unit.specs.Seen.{Seen, added}
use Rattle.pp_unit.proofs.DefiningLemmas.{predefined_is}
use Rattle.pp_unit.proofs.directives.define.predefine.Goals as goal

pub returns : goal.returns
returns c =
    predefined_is c.in_ok-first.first c.in_ok-second.second c.in_ok-third.third c.in_ok-from_slice.field-0 c.in_ok-from_slice-2.field-0 c.in_ok-from_slice-3.field-0 c.in_ok-from_slice.ensures.items c.in_ok-from_slice-2.ensures.items c.in_ok-from_slice-3.ensures.items
    (subst (λ (s : Seen). added s (Define 0 c.in_ok-from_slice.field-0) ≡ Ok c.in_ok-first.first) c.empty-none.ensures c.in_ok-first.ensures) c.in_ok-second.ensures c.in_ok-third.ensures
