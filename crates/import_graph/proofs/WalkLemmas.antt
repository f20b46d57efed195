-- A walk with a list of open units is the walk that enters each unit at its first import.
use Rattle.std.proofs.Common.{◌≡◌, ℕ, IsTrue, IsFalse, List, [], ◌∷◌, Result, Ok, Err, refl, sym, subst, ◌∙◌}
use Rattle.mac_base.specs.Input.{Input}
use Rattle.mac_base.specs.SectionBytes.{SectionBytes}
use Rattle.info_roots.specs.declared.root.Root.{Root}
use Rattle.unit_header.specs.declared.fault.UnitKind.TheVariants.{ImportCycle}
use Rattle.import_graph.specs.declared.fault.FileFault.{FileFault}
use Rattle.import_graph.specs.Faults.{fault_at}
use Rattle.import_graph.specs.Meaning.{Lent}
use Rattle.import_graph.specs.Units.{Reader, begun, root_begun, lent_by}
use Rattle.import_graph.specs.Progress.{Level, around, After, Left}
use Rattle.import_graph.specs.Walk.{Ends, Passes, Enters, turn_at, is_among, Walk, Finishes, Stops, Goes, Again, Cycle, Bars, Fails, Returns, RootWalk, Walks}

pub left_stops : (s : SectionBytes) (lent : Lent) (l : Level) (levels : List Level) (walked : List ℕ) (fault : FileFault) →
    turn_at s lent l.unit l.files l.place ≡ Err fault → Left s lent (l ∷ levels) walked (Err fault)
left_stops s lent l levels walked fault is = (Err fault, Stops l.unit (l.at ∷ around levels) walked l.files l.place fault is, refl)

pub left_ends : (s : SectionBytes) (lent : Lent) (l : Level) (levels : List Level) (walked : List ℕ) (answer : Result (List ℕ) FileFault) →
    turn_at s lent l.unit l.files l.place ≡ Ok Ends → Left s lent levels (l.at ∷ walked) answer → Left s lent (l ∷ levels) walked answer
left_ends s lent l levels walked answer is rest = (Ok walked, Finishes l.unit (l.at ∷ around levels) walked l.files l.place is, rest)

pub left_passes : (s : SectionBytes) (lent : Lent) (l : Level) (levels : List Level) (walked : List ℕ) (answer : Result (List ℕ) FileFault) (more : ℕ) (q : Input) →
    turn_at s lent l.unit l.files l.place ≡ Ok (Passes more q) → Left s lent (record l { files = more; place = q } ∷ levels) walked answer → Left s lent (l ∷ levels) walked answer
left_passes s lent l levels walked answer more q is rest = (rest.0, Goes l.unit (l.at ∷ around levels) walked l.files more l.place q rest.0 is rest.1, rest.2)

pub left_again : (s : SectionBytes) (lent : Lent) (l : Level) (levels : List Level) (walked : List ℕ) (answer : Result (List ℕ) FileFault) (at target : ℕ) (q : Input) →
    turn_at s lent l.unit l.files l.place ≡ Ok (Enters at target q) → IsTrue (is_among target walked) → Left s lent (record l { place = q } ∷ levels) walked answer → Left s lent (l ∷ levels) walked answer
left_again s lent l levels walked answer at target q is among rest = (rest.0, Again l.unit (l.at ∷ around levels) walked l.files at target l.place q rest.0 is among rest.1, rest.2)

pub left_cycle : (s : SectionBytes) (lent : Lent) (l : Level) (levels : List Level) (walked : List ℕ) (at target : ℕ) (q : Input) →
    turn_at s lent l.unit l.files l.place ≡ Ok (Enters at target q) → IsFalse (is_among target walked) → IsTrue (is_among target (l.at ∷ around levels)) → Left s lent (l ∷ levels) walked (Err (fault_at at ImportCycle))
left_cycle s lent l levels walked at target q is new walks = (Err (fault_at at ImportCycle), Cycle l.unit (l.at ∷ around levels) walked l.files at target l.place q is new walks, refl)

pub left_bars : (s : SectionBytes) (lent : Lent) (l : Level) (levels : List Level) (walked : List ℕ) (at target : ℕ) (q : Input) (fault : FileFault) →
    turn_at s lent l.unit l.files l.place ≡ Ok (Enters at target q) → IsFalse (is_among target walked) → IsFalse (is_among target (l.at ∷ around levels)) → begun s lent target ≡ Err fault → Left s lent (l ∷ levels) walked (Err fault)
left_bars s lent l levels walked at target q fault is new closed fails = (Err fault, Bars l.unit (l.at ∷ around levels) walked l.files at target l.place q fault is new closed fails, refl)

left_entered : (s : SectionBytes) (lent : Lent) (l : Level) (levels : List Level) (walked : List ℕ) (answer inner : Result (List ℕ) FileFault) (at target : ℕ) (q start : Input) (other : Reader) →
    turn_at s lent l.unit l.files l.place ≡ Ok (Enters at target q) → IsFalse (is_among target walked) → IsFalse (is_among target (l.at ∷ around levels)) → begun s lent target ≡ Ok (other, start) →
    Walk s lent other (target ∷ l.at ∷ around levels) walked 0 start inner → After (λ more. Left s lent (record l { place = q } ∷ levels) more answer) target answer inner → Left s lent (l ∷ levels) walked answer
left_entered s lent l levels walked answer (Err fault) at target q start other is new closed begins walk rest =
    (Err fault, Fails l.unit (l.at ∷ around levels) walked l.files at target l.place q other start fault is new closed begins walk, rest)
left_entered s lent l levels walked answer (Ok more) at target q start other is new closed begins walk rest =
    (rest.0, Returns l.unit (l.at ∷ around levels) walked l.files at target l.place q other start more rest.0 is new closed begins walk rest.1, rest.2)

pub left_enters : (s : SectionBytes) (lent : Lent) (l : Level) (levels : List Level) (walked : List ℕ) (answer : Result (List ℕ) FileFault) (at target : ℕ) (q start : Input) (other : Reader) →
    turn_at s lent l.unit l.files l.place ≡ Ok (Enters at target q) → IsFalse (is_among target walked) → IsFalse (is_among target (l.at ∷ around levels)) → begun s lent target ≡ Ok (other, start) →
    Left s lent (record { at = target; unit = other; files = 0; place = start } ∷ record l { place = q } ∷ levels) walked answer → Left s lent (l ∷ levels) walked answer
left_enters s lent l levels walked answer at target q start other is new closed begins rest = left_entered s lent l levels walked answer rest.0 at target q start other is new closed begins rest.1 rest.2

-- the whole walk, from the root's unit on
root_answers : (s : SectionBytes) (root : Root) (lent : Lent) (unit : Reader) (start : Input) (inner : Result (List ℕ) FileFault) (answer : Result (List ℕ) FileFault) →
    lent_by s root ≡ Ok lent → root_begun s lent root.macros ≡ Ok (unit, start) → Walk s lent unit (root.macros ∷ []) [] 0 start inner → After (λ more. answer ≡ Ok more) root.macros answer inner → ((fault : FileFault) → answer ≡ Err fault → RootWalk s root (Err fault)) × ((walked : List ℕ) → answer ≡ Ok walked → (more : List ℕ) × RootWalk s root (Ok more))
root_answers s root lent unit start (Ok more) answer lends begins walk rest =
    ((λ fault is. cc), (λ walked is. (more, Walks lent unit start (Ok more) lends begins walk)))
root_answers s root lent unit start (Err found) answer lends begins walk rest =
    ((λ fault is. let same : ◌≡◌ {A = Result (List ℕ) FileFault} (Err found) (Err fault) = sym rest ∙ is in subst (λ (r : Result (List ℕ) FileFault). RootWalk s root r) same (Walks lent unit start (Err found) lends begins walk)), (λ walked is. cc))

pub root_left : (s : SectionBytes) (root : Root) (lent : Lent) (unit : Reader) (start : Input) (answer : Result (List ℕ) FileFault) →
    lent_by s root ≡ Ok lent → root_begun s lent root.macros ≡ Ok (unit, start) → Left s lent (record { at = root.macros; unit = unit; files = 0; place = start } ∷ []) [] answer →
    ((fault : FileFault) → answer ≡ Err fault → RootWalk s root (Err fault)) × ((walked : List ℕ) → answer ≡ Ok walked → (more : List ℕ) × RootWalk s root (Ok more))
root_left s root lent unit start answer lends begins left = root_answers s root lent unit start left.0 answer lends begins left.1 left.2
