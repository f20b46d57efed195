use Rattle.std.proofs.Common.{◌≡◌, ◌≤◌, ◌<◌, ◌+◌, ◌++◌, ℕ, List, Some, None, length, take, drop, refl, ap, sym, ◌∙◌, arith, length-drop}
use Rattle.std.specs.List.{All}
use Rattle.std.proofs.lemmas.List.{take-append-drop}
use Rattle.std.proofs.lemmas.List.Elements.{All-drop}
use Rattle.mac_io.specs.declared.shelf.Fetched.{Fetched}
use Rattle.mac_io.specs.declared.shelf.Fetched.TheVariants.{TooLong, Failed, NoMemory}
use Rattle.mac_io.specs.Calls.{FetchesSome}
use Rattle.mac_io.proofs.SomeFileLemmas.{too_long}
use Rattle.mac_io.proofs.real_file.read_up_to.Goals as goal
use Rattle.mac_io.proofs.real_file.read_up_to.Goals.{in-Ok-2, in-Err+in-OutOfMemory, in-Err+in_default}

appended : (old new : List ℕ) → take (length old) new ≡ old → new ≡ old ++ drop (length old) new
appended old new begins = sym (take-append-drop (length old) new) ∙ ap (λ xs. xs ++ drop (length old) new) begins

longer : (old new : List ℕ) (l k n : ℕ) → l ≡ length new → k ≡ length old → l ≡ k + n → length (drop (length old) new) ≡ n
longer old new l k n is was more = omega (arith, length-drop (length old) new)

pub returns-in-Ok-clause-some : goal.returns-in-Ok-clause-some
returns-in-Ok-clause-some g c =
    let old = c.args.into.now.items in
    let new = c.read_to_end.new.buf.items in
    let long = longer old new _ _ c.in-Ok.count c.read_to_end.new.buf.ok.0 c.args.into.now.ok.0 c.in-Ok.ensures.ok in
    let within : c.in-Ok.count ≤ c.args.limit = c.if-count-limit.true in
    let bytes : All (λ (byte : ℕ). byte < 256) new = rw (sym c.as_slice.ensures.value) c.each_is_a_byte.ensures in
    (Some (drop (length old) new), All-drop (λ (byte : ℕ). byte < 256) (length old) new bytes, (drop (length old) new, refl, omega (arith, long, within), appended old new c.read_to_end.ensures.appends))

long_text : (limit : ℕ) (answer : Fetched) (old new : List ℕ) → answer ≡ TooLong → new ≡ old → FetchesSome limit answer old new
long_text limit answer old new is same = rw is (too_long limit old new same)

no_memory : (limit : ℕ) (answer : Fetched) (old new : List ℕ) → answer ≡ NoMemory → new ≡ old → FetchesSome limit answer old new
no_memory limit answer old new is same = rw is (None, tt, same)

failed : (limit : ℕ) (answer : Fetched) (old new : List ℕ) → answer ≡ Failed → new ≡ old → FetchesSome limit answer old new
failed limit answer old new is same = rw is (None, tt, same)

restored : (old new cut : List ℕ) (n l : ℕ) → cut ≡ take n new → n ≡ l → l ≡ length old → take (length old) new ≡ old → cut ≡ old
restored old new cut n l is start long begins = is ∙ ap (λ k. take k new) (start ∙ long) ∙ begins

pub returns-clause-some : goal.returns-clause-some
returns-clause-some g c =
    let old = c.args.into.now.items in
    let new = c.read_to_end.new.buf.items in
    let same : c.truncate.new.self.items ≡ old =
    restored old new c.truncate.new.self.items _ _ c.truncate.ensures.items c.len-start.ensures c.args.into.now.ok.0 c.read_to_end.ensures.appends in
    elim c.match-read_to_end.branch [
      | in-Ok-2 w ↦ long_text c.args.limit _ old _ w.answer-is same
      | in-Err+in-OutOfMemory w ↦ no_memory c.args.limit _ old _ w.answer-is same
      | in-Err+in_default w ↦ failed c.args.limit _ old _ w.answer-is same
    ]
