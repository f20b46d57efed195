use Rattle.std.proofs.Common.{◌≡◌, ◌<◌, ◌-◌, [], ◌∷◌, length, ◌∙◌, arith}
use Rattle.mac_io.specs.declared.headers.Located.TheVariants.{Absent}
use Rattle.mac_io.proofs.SearchLemmas.{moved, stops_here, goes_on, none_left, all_absent, is_other, is_absent, no_fault}
use Rattle.mac_io.proofs.search.ask_behind.Goals as goal

pub returns-then-not-is_absent-clause-answer : goal.returns-then-not-is_absent-clause-answer
returns-then-not-is_absent-clause-answer g c =
    let stores = g.S.Stores.stores c.args.stores.now in
    let old = c.args.into.now.items in
    let new = c.ask-answer.new.into.items in
    let answer = c.ask-answer.result in
    let inv = c.loop-store.invariant in
    let below : c.loop-store.store < length stores = omega (arith, inv.5, c.loop-store-test.true) in
    let here = moved stores _ _ answer old c.loop-store.into.items new inv.0 inv.4 c.ask-answer.ensures.answer in
    inv.6 answer new (stops_here stores c.loop-store.store (length stores) c.args.name.now answer old new below (is_other _ answer c.is_absent.ensures c.if-not-is_absent.true) here)

pub loop-store-preserved : goal.loop-store-preserved
loop-store-preserved g c =
    let stores = g.S.Stores.stores c.args.stores.now in
    let old = c.args.into.now.items in
    let left = c.ask-answer.new.into.items in
    let inv = c.loop-store.invariant in
    let below : c.loop-store.store < length stores = omega (arith, inv.5, c.loop-store-test.true) in
    let none = is_absent _ c.ask-answer.result c.is_absent.ensures c.if-not-is_absent.false in
    let here = moved stores _ _ c.ask-answer.result old c.loop-store.into.items left inv.0 inv.4 c.ask-answer.ensures.answer in
    let ids = record { store = c.loop-store.store; name = c.args.name.now } ∷ [] in
    let absent = all_absent stores ids c.ask-answer.result old left none here in (
      c.ask-answer.ensures.same ∙ inv.0,
      c.ask-answer.ensures.cause.kept (no_fault c.ask-answer.result none) ∙ inv.1,
      c.ask-answer.ensures.store_cause.kept (no_fault c.ask-answer.result none) ∙ inv.2,
      c.ask-answer.ensures.places ∙ inv.3,
      absent.1,
      inv.5,
      λ answer new found. inv.6 answer new (goes_on stores c.loop-store.store (length stores) c.args.name.now c.ask-answer.result old left below none here answer new found),
    )

pub returns-clause-answer : goal.returns-clause-answer
returns-clause-answer g c =
    let stores = g.S.Stores.stores c.args.stores.now in
    let inv = c.loop-store.invariant in
    let over : length stores - c.loop-store.store ≡ 0 = omega (arith, inv.5, c.loop-store-test.false) in
    let found = inv.6 Absent c.args.into.now.items (none_left stores c.loop-store.store (length stores) c.args.name.now c.args.into.now.items over) in
    (found.0, inv.4)
