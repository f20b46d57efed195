-- Equal events and parts are the same.
use Rattle.std.proofs.Common.{◌≡◌, ℕ, Bool, true, false, ◌==◌, ◌&&◌, List, refl, subst}
use Rattle.std.specs.Cmp.Lexicographic.{pointwise}
use Rattle.std.specs.Prelude.{nat_eq}
use Rattle.std.proofs.lemmas.Bool.Decides.{Decides-eqb}
use Rattle.std.proofs.lemmas.Slice.Eq.{bytes_eq-Decides}
use lib.Pointwise.{pointwise_decides}
use Rattle.mac_base.specs.declared.events.Event.{Event}
use Rattle.mac_base.specs.declared.events.Event.TheVariants.{Define, Undef, Start, End}
use Rattle.unit_splitter.specs.Split.{same_event, same_part}

both_of : (a b : Bool) → (a && b) ≡ true → (a ≡ true) × (b ≡ true)
both_of true b is = (refl, is)
both_of false b is = cc

both_to : (a b : Bool) → a ≡ true → b ≡ true → (a && b) ≡ true
both_to true b one other = other
both_to false b one other = cc

same_number : (m n : ℕ) → (m == n) ≡ true → m ≡ n
same_number m n is = (Decides-eqb m n).0 is

own_number : (n : ℕ) → (n == n) ≡ true
own_number n = (Decides-eqb n n).1 refl

same_text : (a b : List ℕ) → pointwise nat_eq a b ≡ true → a ≡ b
same_text a b is = (bytes_eq-Decides a b).0 is

own_text : (a : List ℕ) → pointwise nat_eq a a ≡ true
own_text a = (bytes_eq-Decides a a).1 refl

event_is : (one other : Event) → same_event one other ≡ true → one ≡ other
event_is (Define line text) (Define other words) is =
    let are = both_of (line == other) (pointwise nat_eq text words) is in
    λ i. Define (same_number line other are.0 i) (same_text text words are.1 i)
event_is (Define line text) (Undef other words) is = cc
event_is (Define line text) (Start other number) is = cc
event_is (Define line text) End is = cc
event_is (Undef line name) (Undef other words) is =
    let are = both_of (line == other) (pointwise nat_eq name words) is in
    λ i. Undef (same_number line other are.0 i) (same_text name words are.1 i)
event_is (Undef line name) (Define other words) is = cc
event_is (Undef line name) (Start other number) is = cc
event_is (Undef line name) End is = cc
event_is (Start line file) (Start other number) is =
    let are = both_of (line == other) (file == number) is in
    λ i. Start (same_number line other are.0 i) (same_number file number are.1 i)
event_is (Start line file) (Define other words) is = cc
event_is (Start line file) (Undef other words) is = cc
event_is (Start line file) End is = cc
event_is End End is = refl
event_is End (Define other words) is = cc
event_is End (Undef other words) is = cc
event_is End (Start other number) is = cc

own_event : (event : Event) → same_event event event ≡ true
own_event (Define line text) = both_to (line == line) (pointwise nat_eq text text) (own_number line) (own_text text)
own_event (Undef line name) = both_to (line == line) (pointwise nat_eq name name) (own_number line) (own_text name)
own_event (Start line file) = both_to (line == line) (file == file) (own_number line) (own_number file)
own_event End = refl

events_decide : (one other : Event) → (same_event one other ≡ true → one ≡ other) × (one ≡ other → same_event one other ≡ true)
events_decide one other = (event_is one other, λ e. subst (λ event. same_event one event ≡ true) e (own_event one))

pub part_is : (one other : List Event) → same_part one other ≡ true → one ≡ other
part_is one other is = (pointwise_decides events_decide one other).0 is

pub own_part : (part : List Event) → same_part part part ≡ true
own_part part = (pointwise_decides events_decide part part).1 refl
