-- The first part of events, and what follows it.
use Rattle.std.proofs.Common.{◌≡◌, ℕ, suc, ◌+◌, Bool, true, false, cond, ◌&&◌, List, [], ◌∷◌, take, drop, refl, ap, sym, ◌∙◌, arith}
use Rattle.std.specs.List.{prefix_len}
use Rattle.mac_base.specs.declared.events.Event.{Event}
use Rattle.mac_base.specs.declared.events.Event.TheVariants.{Define, Undef, Start, End}
use Rattle.unit_splitter.specs.Split.{is_change, is_included, depth_after, parts_from, before_parts}
use Rattle.unit_splitter.specs.Growing.{first_length}

-- a change opens and closes no file
pub change_stays : (depth : ℕ) (event : Event) → is_change event ≡ true → depth_after depth event ≡ depth
change_stays depth (Define line text) is = refl
change_stays depth (Undef line name) is = refl
change_stays depth (Start line file) is = cc
change_stays depth End is = cc

alone_by : (event : Event) (parts : List (List Event)) → before_parts false event parts ≡ (event ∷ []) ∷ parts
alone_by event [] = refl
alone_by event ([] ∷ parts) = refl
alone_by event ((first ∷ more) ∷ parts) = refl

-- what the first part has, in a list of parts that it begins
Begins : ℕ → Event → List Event → Type 0
Begins depth event events = parts_from depth (event ∷ events) ≡ take (first_length depth (event ∷ events)) (event ∷ events) ∷ parts_from (depth_after depth event) (drop (first_length depth (event ∷ events)) (event ∷ events))

alone : (depth : ℕ) (event : Event) (events : List Event) → (is_included depth && is_change event) ≡ false → parts_from depth (event ∷ events) ≡ (event ∷ []) ∷ parts_from (depth_after depth event) events
unfolding parts_from
alone depth event events is = ap (λ b. before_parts b event (parts_from (depth_after depth event) events)) is ∙ alone_by event (parts_from (depth_after depth event) events)

with_others : (depth : ℕ) (event : Event) (events : List Event) → (is_included depth && is_change event) ≡ true → is_change event ≡ true → parts_from depth (event ∷ events) ≡ before_parts true event (parts_from depth events)
unfolding parts_from
with_others depth event events is change =
    ap (λ b. before_parts b event (parts_from (depth_after depth event) events)) is ∙ ap (λ n. before_parts true event (parts_from n events)) (change_stays depth event change)

both_are : (a b : Bool) → a ≡ true → b ≡ true → (a && b) ≡ true
both_are true b one other = other
both_are false b one other = cc

second_fails : (a b : Bool) → b ≡ false → (a && b) ≡ false
second_fails true b is = is
second_fails false b is = refl

counted : (event : Event) (events : List Event) → is_change event ≡ true → prefix_len is_change (event ∷ events) ≡ suc (prefix_len is_change events)
counted event events is = let one : 1 + prefix_len is_change events ≡ suc (prefix_len is_change events) = omega arith in ap (λ b. cond b (1 + prefix_len is_change events) 0) is ∙ one

uncounted : (event : Event) (events : List Event) → is_change event ≡ false → prefix_len is_change (event ∷ events) ≡ 0
uncounted event events is = ap (λ b. cond b (1 + prefix_len is_change events) 0) is

-- a change before parts, the first of which are changes
Joined : ℕ → Event → List Event → Type 0
Joined depth event events = before_parts true event (parts_from depth events) ≡ (event ∷ take (prefix_len is_change events) events) ∷ parts_from depth (drop (prefix_len is_change events) events)

joined_by : (depth : ℕ) (event first : Event) (more : List Event) (change : Bool) → is_change first ≡ change → is_included depth ≡ true → (is_change first ≡ true → Joined depth first more) → Joined depth event (first ∷ more)
unfolding Joined
joined_by depth event first more true is inside next =
    let k = prefix_len is_change more in
    let whole : parts_from depth (first ∷ more) ≡ (first ∷ take k more) ∷ parts_from depth (drop k more) =
    with_others depth first more (both_are (is_included depth) (is_change first) inside is) is ∙ next is in
    ap (before_parts true event) whole
    ∙ ap (λ b. cond b ((event ∷ first ∷ take k more) ∷ parts_from depth (drop k more)) ((event ∷ []) ∷ (first ∷ take k more) ∷ parts_from depth (drop k more))) is
    ∙ sym (ap (λ n. (event ∷ take n (first ∷ more)) ∷ parts_from depth (drop n (first ∷ more))) (counted first more is))
joined_by depth event first more false is inside next =
    let rest = parts_from (depth_after depth first) more in
    let whole : parts_from depth (first ∷ more) ≡ (first ∷ []) ∷ rest = alone depth first more (second_fails (is_included depth) (is_change first) is) in
    ap (before_parts true event) whole
    ∙ ap (λ b. cond b ((event ∷ first ∷ []) ∷ rest) ((event ∷ []) ∷ (first ∷ []) ∷ rest)) is
    ∙ ap (λ ps. (event ∷ []) ∷ ps) (sym whole)
    ∙ sym (ap (λ n. (event ∷ take n (first ∷ more)) ∷ parts_from depth (drop n (first ∷ more))) (uncounted first more is))

joined : (depth : ℕ) (event : Event) (events : List Event) → is_included depth ≡ true → Joined depth event events
unfolding Joined parts_from
joined depth event [] inside = refl
joined depth event (first ∷ more) inside = joined_by depth event first more (is_change first) refl inside (λ is. joined depth first more inside)

first_of : (a b : Bool) → (a && b) ≡ true → a ≡ true
first_of true b is = refl
first_of false b is = cc

second_of : (a b : Bool) → (a && b) ≡ true → b ≡ true
second_of true b is = is
second_of false b is = cc

cut_by : (depth : ℕ) (event : Event) (events : List Event) (joins : Bool) → (is_included depth && is_change event) ≡ joins → Begins depth event events
unfolding Begins Joined
cut_by depth event events true is =
    let k = prefix_len is_change events in
    let change = second_of (is_included depth) (is_change event) is in
    let one : 1 + k ≡ suc k = omega arith in
    let long : first_length depth (event ∷ events) ≡ suc k = ap (λ b. cond b (1 + k) 1) is ∙ one in
    with_others depth event events is change
    ∙ joined depth event events (first_of (is_included depth) (is_change event) is)
    ∙ ap (λ n. (event ∷ take k events) ∷ parts_from n (drop k events)) (sym (change_stays depth event change))
    ∙ sym (ap (λ n. take n (event ∷ events) ∷ parts_from (depth_after depth event) (drop n (event ∷ events))) long)
cut_by depth event events false is =
    let long : first_length depth (event ∷ events) ≡ 1 = ap (λ b. cond b (1 + prefix_len is_change events) 1) is in
    alone depth event events is
    ∙ sym (ap (λ n. take n (event ∷ events) ∷ parts_from (depth_after depth event) (drop n (event ∷ events))) long)

-- the first part and those after it
pub cut : (depth : ℕ) (event : Event) (events : List Event) → parts_from depth (event ∷ events) ≡ take (first_length depth (event ∷ events)) (event ∷ events) ∷ parts_from (depth_after depth event) (drop (first_length depth (event ∷ events)) (event ∷ events))
unfolding Begins
cut depth event events = cut_by depth event events (is_included depth && is_change event) refl
