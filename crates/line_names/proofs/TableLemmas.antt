-- A line table that is read is spelled at its offset, and one that is spelled there is read.
use Rattle.std.proofs.Common.{◌≡◌, ℕ, ◌+◌, ◌-◌, ◌≤◌, Bool, List, ◌++◌, length, take, drop, Result, Ok, Err, refl, ap, subst, ◌∙◌, sym, arith, append_assoc, length-append, length-drop}
use Rattle.std.proofs.lemmas.List.{take_at, drop_at, length-take-le, take-append-drop, drop-append-le}
use borrow.Author.Tests.{le-ltb}
use Rattle.mac_base.specs.Input.{Input, rest, ahead}
use Rattle.mac_base.specs.LengthSpelling.{IsLength}
use Rattle.mac_base.specs.declared.extent.Extent.{Extent}
use Rattle.mac_base.specs.declared.extent.ExtentFault.{ExtentFault}
use Rattle.mac_base.specs.Extents.{bounded_by, extent_of}
use Rattle.mac_base.proofs.Choices.{bind_ok, same_ok}
use Rattle.mac_base.proofs.InputLemmas.{between_front}
use Rattle.mac_base.proofs.LengthLemmas.{length-takes, length-again}
use Rattle.line_names.specs.declared.fault.LineFault.{LineFault}
use Rattle.line_names.specs.Faults.{extent_field}
use Rattle.line_names.specs.Entries.{Tables}
use Rattle.line_names.specs.Files.{unit_at, fields_of, files_of}
use Rattle.line_names.specs.Spelling.{StringSections, IsBody, IsTable, IsAt}
use Rattle.line_names.specs.Laws.{strings_in}
use Rattle.line_names.proofs.BodyLemmas.{body_takes, body_again}

extent_ok : {A : Type 0} (r : Result A ExtentFault) (x : A) → extent_field r ≡ Ok x → r ≡ Ok x
extent_ok (Ok y) x is = cc
extent_ok (Err e) x is = cc

-- the bytes of a unit, and what follows it
cut_at : (xs : List ℕ) (start end : ℕ) → start ≤ end → end ≤ length xs → drop start xs ≡ drop start (take end xs) ++ drop end xs
cut_at xs start end ordered within =
    let inside : start ≤ length (take end xs) = omega (arith, length-take-le end xs within) in
    ap (drop start) (sym (take-append-drop end xs)) ∙ drop-append-le start (take end xs) (drop end xs) inside

pub table_takes : (t : Tables) (off : ℕ) (paths : List (List ℕ)) → files_of t off ≡ Ok paths → (bytes : List ℕ) × IsAt t.lines off bytes × IsTable (strings_in t) bytes paths
table_takes t off paths is =
    let p : Input = record { bytes = t.lines; at = off } in
    let extent = bind_ok (extent_field (extent_of t.lines off)) _ paths is in
    let e = extent.0 in
    let unit = bind_ok (unit_at t e.wide (fields_of t.lines e)) _ paths extent.2 in
    let same = same_ok {E = LineFault} unit.0.0 paths unit.2 in
    let length_is = length-takes p e (extent_ok (extent_of t.lines off) e extent.1) in
    let unit_length = length_is.1 in
    let body : List ℕ = drop e.start (take e.end t.lines) in
    let is_body = body_takes t e.wide (fields_of t.lines e) unit.0.1 unit.0.0 unit.1 in
    let ordered : e.start ≤ e.end = omega (arith, length_is.5, length_is.6) in
    let long : length body ≡ length_is.2 = length-drop e.start (take e.end t.lines) ∙ ap (λ n. n - e.start) (length-take-le e.end t.lines length_is.7) ∙ omega (arith, length_is.5, length_is.6) in
    let ahead_by : e.start ≡ off + length unit_length = length_is.5 ∙ ap (λ (z : Input). z.at) length_is.3.place in
    let inside : off ≤ length t.lines = omega (arith, length_is.7) in
    let left : rest length_is.0 ≡ drop e.start t.lines = ap rest length_is.3.place ∙ ap (λ n. drop n t.lines) (sym ahead_by) in
    let after : drop off t.lines ≡ (unit_length ++ body) ++ drop e.end t.lines =
    length_is.3.front ∙ ap (λ (xs : List ℕ). unit_length ++ xs) (left ∙ cut_at t.lines e.start e.end ordered length_is.7) ∙ sym (append_assoc unit_length body (drop e.end t.lines)) in (
      unit_length ++ body,
      record {
        before = take off t.lines;
        after = drop e.end t.lines;
        parts = sym (take-append-drop off t.lines) ∙ ap (λ (xs : List ℕ). take off t.lines ++ xs) after;
        place = length-take-le off t.lines inside;
      },
      record {
        wide = e.wide;
        unit_length = unit_length;
        body = body;
        spelled = refl {a = unit_length ++ body};
        is_length = subst (IsLength e.wide unit_length) (sym long) length_is.4;
        is_body = subst (IsBody (strings_in t) e.wide body) same is_body;
      },
    )

rest_at : (section : List ℕ) (off : ℕ) (bytes : List ℕ) → (at : IsAt section off bytes) → drop off section ≡ bytes ++ at.after
rest_at section off bytes at = ap (drop off) at.parts ∙ drop_at at.before (bytes ++ at.after) off at.place

bounded_within : (section at : ℕ) (wide : Bool) (start long : ℕ) → start + long ≤ section → bounded_by section at wide start long ≡ Ok (record { wide = wide; start = start; end = start + long })
bounded_within section at wide start long within = rw (le-ltb section (start + long) within) refl

-- where the unit of a table lies
record TableExtent (section : List ℕ) (off : ℕ) (bytes body : List ℕ) (wide : Bool) : Type 0 where
  extent : Extent
  found : extent_of section off ≡ Ok extent
  is_wide : extent.wide ≡ wide
  fields : drop extent.start (take extent.end section) ≡ body
  ends : extent.end ≡ off + length bytes

extent_at : (section : List ℕ) (off : ℕ) (bytes : List ℕ) (s : StringSections) (paths : List (List ℕ)) → IsAt section off bytes → (is : IsTable s bytes paths) → TableExtent section off bytes is.body is.wide
extent_at section off bytes s paths at is =
    let p : Input = record { bytes = section; at = off } in
    let body = is.body in
    let left : drop off section ≡ is.unit_length ++ (body ++ at.after) = rest_at section off bytes at ∙ ap (λ (xs : List ℕ). xs ++ at.after) is.spelled ∙ append_assoc is.unit_length body at.after in
    let between = between_front p is.unit_length (body ++ at.after) left in
    let start = off + length is.unit_length in
    let end = start + length body in
    let long : length bytes ≡ length is.unit_length + length body = ap length is.spelled ∙ length-append is.unit_length body in
    let whole : length section ≡ off + (length bytes + length at.after) = ap length at.parts ∙ length-append at.before (bytes ++ at.after) ∙ ap (λ n. n + length (bytes ++ at.after)) at.place ∙ ap (λ n. off + n) (length-append bytes at.after) in
    let within : end ≤ length section = omega arith in
    let front : List ℕ = at.before ++ is.unit_length in
    let front_long : length front ≡ start = length-append at.before is.unit_length ∙ ap (λ n. n + length is.unit_length) at.place in
    let all : section ≡ (front ++ body) ++ at.after =
    at.parts ∙ ap (λ (xs : List ℕ). at.before ++ (xs ++ at.after)) is.spelled ∙ sym (append_assoc at.before (is.unit_length ++ body) at.after) ∙ ap (λ (xs : List ℕ). xs ++ at.after) (sym (append_assoc at.before is.unit_length body)) in
    let end_long : length (front ++ body) ≡ end = length-append front body ∙ ap (λ n. n + length body) front_long in
    record {
      extent = record { wide = is.wide; start = start; end = end };
      found = length-again p (ahead p (length is.unit_length)) is.unit_length is.wide (length body) between is.is_length ∙ bounded_within (length section) off is.wide start (length body) within;
      is_wide = refl;
      fields = ap (drop start) (ap (take end) all ∙ take_at (front ++ body) at.after end end_long) ∙ drop_at front body start front_long;
      ends = omega arith;
    }

pub table_again : (t : Tables) (off : ℕ) (bytes : List ℕ) (paths : List (List ℕ)) → IsAt t.lines off bytes → IsTable (strings_in t) bytes paths → files_of t off ≡ Ok paths
table_again t off bytes paths at is =
    let e = extent_at t.lines off bytes (strings_in t) paths at is in
    let body : IsBody (strings_in t) e.extent.wide (drop e.extent.start (take e.extent.end t.lines)) paths =
    subst (λ (w : Bool). IsBody (strings_in t) w (drop e.extent.start (take e.extent.end t.lines)) paths) (sym e.is_wide) (subst (λ (xs : List ℕ). IsBody (strings_in t) is.wide xs paths) (sym e.fields) is.is_body) in
    let unit = body_again t e.extent.wide (fields_of t.lines e.extent) paths body in
    rw (e.found, unit.1) refl

pub one_table : (s : StringSections) (lines : List ℕ) (off : ℕ) (bytes other : List ℕ) (paths found : List (List ℕ)) → IsAt lines off bytes → IsTable s bytes paths → IsAt lines off other → IsTable s other found → (bytes ≡ other) × (paths ≡ found)
one_table s lines off bytes other paths found at is also_at also =
    let t : Tables = record { lines = lines; strs = s.strs; line_strs = s.line_strs } in
    let first = extent_at lines off bytes s paths at is in
    let second = extent_at lines off other s found also_at also in
    let same = same_ok {E = ExtentFault} first.extent second.extent (sym first.found ∙ second.found) in
    let ends : off + length bytes ≡ off + length other = sym first.ends ∙ ap (λ (e : Extent). e.end) same ∙ second.ends in
    let long : length bytes ≡ length other = omega arith in (
      sym (take_at bytes at.after (length bytes) refl) ∙ ap (take (length bytes)) (sym (rest_at lines off bytes at) ∙ rest_at lines off other also_at) ∙ take_at other also_at.after (length bytes) (sym long),
      same_ok {E = LineFault} paths found (sym (table_again t off bytes paths at is) ∙ table_again t off other found also_at also),
    )
