-- The walk of a unit comes to at most one answer.
use Rattle.std.proofs.Common.{◌≡◌, ℕ, Bool, true, false, IsFalse, List, [], ◌∷◌, Result, Ok, Err, refl, subst, sym}
use Rattle.mac_base.specs.Input.{Input}
use Rattle.mac_base.specs.SectionBytes.{SectionBytes}
use Rattle.info_roots.specs.declared.root.Root.{Root}
use Rattle.unit_header.specs.declared.fault.UnitKind.TheVariants.{ImportCycle}
use Rattle.import_graph.specs.declared.fault.FileFault.{FileFault}
use Rattle.import_graph.specs.Faults.{fault_at}
use Rattle.import_graph.specs.Meaning.{Lent}
use Rattle.import_graph.specs.Units.{Reader, begun, root_begun, lent_by}
use Rattle.import_graph.specs.Walk.{Turn, Ends, Passes, Enters, turn_at, is_among, Walk, Finishes, Stops, Goes, Again, Cycle, Bars, Fails, Returns, RootWalk, NoTable, NoUnit, Walks}

-- an answer of a walk, and what is asked of its rest
abbrev Inner : SectionBytes → Lent → Reader → List ℕ → ℕ → Input → ℕ → Result (List ℕ) FileFault → Result (List ℕ) FileFault → Type 0
Inner s lent unit around files q target (Ok more) answer = Walk s lent unit around (target ∷ more) files q answer
Inner s lent unit around files q target (Err fault) answer = answer ≡ Err fault

-- what comes of a unit that is entered
abbrev Begun : SectionBytes → Lent → Reader → List ℕ → List ℕ → ℕ → Input → ℕ → Result (Reader × Input) FileFault → Result (List ℕ) FileFault → Type 0
Begun s lent unit around walked files q target (Err fault) answer = answer ≡ Err fault
Begun s lent unit around walked files q target (Ok start) answer =
    (inner : Result (List ℕ) FileFault) × Walk s lent start.0 (target ∷ around) walked 0 start.1 inner × Inner s lent unit around files q target inner answer

-- what comes of an import, by whether its unit was walked, or is being walked
abbrev Entered : SectionBytes → Lent → Reader → List ℕ → List ℕ → ℕ → Input → ℕ → ℕ → Bool → Bool → Result (List ℕ) FileFault → Type 0
Entered s lent unit around walked files q at target true closed answer = Walk s lent unit around walked files q answer
Entered s lent unit around walked files q at target false true answer = answer ≡ Err (fault_at at ImportCycle)
Entered s lent unit around walked files q at target false false answer = Begun s lent unit around walked files q target (begun s lent target) answer

-- what comes of a turn
abbrev Behind : SectionBytes → Lent → Reader → List ℕ → List ℕ → ℕ → Result Turn FileFault → Result (List ℕ) FileFault → Type 0
Behind s lent unit around walked files (Err fault) answer = answer ≡ Err fault
Behind s lent unit around walked files (Ok Ends) answer = answer ≡ Ok walked
Behind s lent unit around walked files (Ok (Passes more q)) answer = Walk s lent unit around walked more q answer
Behind s lent unit around walked files (Ok (Enters at target q)) answer = Entered s lent unit around walked files q at target (is_among target walked) (is_among target around) answer

turned : (s : SectionBytes) (lent : Lent) (unit : Reader) (around walked : List ℕ) (files : ℕ) (t u : Result Turn FileFault) (answer : Result (List ℕ) FileFault) → t ≡ u → Behind s lent unit around walked files u answer → Behind s lent unit around walked files t answer
turned s lent unit around walked files t u answer is behind = subst (λ (r : Result Turn FileFault). Behind s lent unit around walked files r answer) (sym is) behind

among : (s : SectionBytes) (lent : Lent) (unit : Reader) (around walked : List ℕ) (files : ℕ) (q : Input) (at target : ℕ) (w a x y : Bool) (answer : Result (List ℕ) FileFault) → w ≡ x → a ≡ y →
    Entered s lent unit around walked files q at target x y answer → Entered s lent unit around walked files q at target w a answer
among s lent unit around walked files q at target w a x y answer first second is =
    subst (λ (b : Bool). Entered s lent unit around walked files q at target b a answer) (sym first) (subst (λ (b : Bool). Entered s lent unit around walked files q at target x b answer) (sym second) is)

-- a walk is one of its turn
behind_of : (s : SectionBytes) (lent : Lent) (unit : Reader) (around walked : List ℕ) (files : ℕ) (p : Input) (answer : Result (List ℕ) FileFault) → Walk s lent unit around walked files p answer → Behind s lent unit around walked files (turn_at s lent unit files p) answer
behind_of s lent _ _ _ _ _ _ (Finishes unit around walked files p is) = turned s lent unit around walked files (turn_at s lent unit files p) (Ok Ends) (Ok walked) is refl
behind_of s lent _ _ _ _ _ _ (Stops unit around walked files p fault is) = turned s lent unit around walked files (turn_at s lent unit files p) (Err fault) (Err fault) is refl
behind_of s lent _ _ _ _ _ _ (Goes unit around walked files more p q answer is rest) = turned s lent unit around walked files (turn_at s lent unit files p) (Ok (Passes more q)) answer is rest
behind_of s lent _ _ _ _ _ _ (Again unit around walked files at target p q answer is there rest) =
    turned s lent unit around walked files (turn_at s lent unit files p) (Ok (Enters at target q)) answer is
    (among s lent unit around walked files q at target (is_among target walked) (is_among target around) true (is_among target around) answer there refl rest)
behind_of s lent _ _ _ _ _ _ (Cycle unit around walked files at target p q is new open_so) =
    turned s lent unit around walked files (turn_at s lent unit files p) (Ok (Enters at target q)) (Err (fault_at at ImportCycle)) is
    (among s lent unit around walked files q at target (is_among target walked) (is_among target around) false true (Err (fault_at at ImportCycle)) new open_so refl)
behind_of s lent _ _ _ _ _ _ (Bars unit around walked files at target p q fault is new closed fails) =
    turned s lent unit around walked files (turn_at s lent unit files p) (Ok (Enters at target q)) (Err fault) is
    (among s lent unit around walked files q at target (is_among target walked) (is_among target around) false false (Err fault) new closed
    (subst (λ (b : Result (Reader × Input) FileFault). Begun s lent unit around walked files q target b (Err fault)) (sym fails) refl))
behind_of s lent _ _ _ _ _ _ (Fails unit around walked files at target p q other start fault is new closed begins walk) =
    turned s lent unit around walked files (turn_at s lent unit files p) (Ok (Enters at target q)) (Err fault) is
    (among s lent unit around walked files q at target (is_among target walked) (is_among target around) false false (Err fault) new closed
    (subst (λ (b : Result (Reader × Input) FileFault). Begun s lent unit around walked files q target b (Err fault)) (sym begins) (Err fault, walk, refl)))
behind_of s lent _ _ _ _ _ _ (Returns unit around walked files at target p q other start more answer is new closed begins walk rest) =
    turned s lent unit around walked files (turn_at s lent unit files p) (Ok (Enters at target q)) answer is
    (among s lent unit around walked files q at target (is_among target walked) (is_among target around) false false answer new closed
    (subst (λ (b : Result (Reader × Input) FileFault). Begun s lent unit around walked files q target b answer) (sym begins) (Ok more, walk, rest)))

-- the same, by a turn that is known
behind_by : (s : SectionBytes) (lent : Lent) (unit : Reader) (around walked : List ℕ) (files : ℕ) (p : Input) (t : Result Turn FileFault) (answer : Result (List ℕ) FileFault) → turn_at s lent unit files p ≡ t → Walk s lent unit around walked files p answer → Behind s lent unit around walked files t answer
behind_by s lent unit around walked files p t answer is walk = subst (λ (r : Result Turn FileFault). Behind s lent unit around walked files r answer) is (behind_of s lent unit around walked files p answer walk)

entered_by : (s : SectionBytes) (lent : Lent) (unit : Reader) (around walked : List ℕ) (files : ℕ) (p q : Input) (at target : ℕ) (x y : Bool) (answer : Result (List ℕ) FileFault) → turn_at s lent unit files p ≡ Ok (Enters at target q) → is_among target walked ≡ x → is_among target around ≡ y →
    Walk s lent unit around walked files p answer → Entered s lent unit around walked files q at target x y answer
entered_by s lent unit around walked files p q at target x y answer is first second walk =
    among s lent unit around walked files q at target x y (is_among target walked) (is_among target around) answer (sym first) (sym second) (behind_by s lent unit around walked files p (Ok (Enters at target q)) answer is walk)

begun_by : (s : SectionBytes) (lent : Lent) (unit : Reader) (around walked : List ℕ) (files : ℕ) (p q : Input) (at target : ℕ) (b : Result (Reader × Input) FileFault) (answer : Result (List ℕ) FileFault) → turn_at s lent unit files p ≡ Ok (Enters at target q) → IsFalse (is_among target walked) → IsFalse (is_among target around) →
    begun s lent target ≡ b → Walk s lent unit around walked files p answer → Begun s lent unit around walked files q target b answer
begun_by s lent unit around walked files p q at target b answer is new closed begins walk =
    subst (λ (r : Result (Reader × Input) FileFault). Begun s lent unit around walked files q target r answer) begins (entered_by s lent unit around walked files p q at target false false answer is new closed walk)

pub one_walk : (s : SectionBytes) (lent : Lent) (unit : Reader) (around walked : List ℕ) (files : ℕ) (p : Input) (answer other : Result (List ℕ) FileFault) → Walk s lent unit around walked files p answer → Walk s lent unit around walked files p other → answer ≡ other
one_walk s lent _ _ _ _ _ _ other (Finishes unit around walked files p is) second = sym (behind_by s lent unit around walked files p (Ok Ends) other is second)
one_walk s lent _ _ _ _ _ _ other (Stops unit around walked files p fault is) second = sym (behind_by s lent unit around walked files p (Err fault) other is second)
one_walk s lent _ _ _ _ _ _ other (Goes unit around walked files more p q answer is rest) second =
    one_walk s lent unit around walked more q answer other rest (behind_by s lent unit around walked files p (Ok (Passes more q)) other is second)
one_walk s lent _ _ _ _ _ _ other (Again unit around walked files at target p q answer is there rest) second =
    one_walk s lent unit around walked files q answer other rest (entered_by s lent unit around walked files p q at target true (is_among target around) other is there refl second)
one_walk s lent _ _ _ _ _ _ other (Cycle unit around walked files at target p q is new open_so) second = sym (entered_by s lent unit around walked files p q at target false true other is new open_so second)
one_walk s lent _ _ _ _ _ _ other (Bars unit around walked files at target p q fault is new closed fails) second = sym (begun_by s lent unit around walked files p q at target (Err fault) other is new closed fails second)
one_walk s lent _ _ _ _ _ _ other (Fails unit around walked files at target p q reader start fault is new closed begins walk) second =
    let found = begun_by s lent unit around walked files p q at target (Ok (reader, start)) other is new closed begins second in
    let same = one_walk s lent reader (target ∷ around) walked 0 start (Err fault) found.0 walk found.1 in
    sym (subst (λ (r : Result (List ℕ) FileFault). Inner s lent unit around files q target r other) (sym same) found.2)
one_walk s lent _ _ _ _ _ _ other (Returns unit around walked files at target p q reader start more answer is new closed begins walk rest) second =
    let found = begun_by s lent unit around walked files p q at target (Ok (reader, start)) other is new closed begins second in
    let same = one_walk s lent reader (target ∷ around) walked 0 start (Ok more) found.0 walk found.1 in
    one_walk s lent unit around (target ∷ more) files q answer other rest (subst (λ (r : Result (List ℕ) FileFault). Inner s lent unit around files q target r other) (sym same) found.2)

-- what the walk of a root comes to, by what it lends and where its unit begins
abbrev RootBegun : SectionBytes → Root → Lent → Result (Reader × Input) FileFault → Result (List ℕ) FileFault → Type 0
RootBegun s root lent (Err fault) answer = answer ≡ Err fault
RootBegun s root lent (Ok start) answer = Walk s lent start.0 (root.macros ∷ []) [] 0 start.1 answer

abbrev RootLent : SectionBytes → Root → Result Lent FileFault → Result (List ℕ) FileFault → Type 0
RootLent s root (Err fault) answer = answer ≡ Err fault
RootLent s root (Ok lent) answer = RootBegun s root lent (root_begun s lent root.macros) answer

root_of : (s : SectionBytes) (root : Root) (answer : Result (List ℕ) FileFault) → RootWalk s root answer → RootLent s root (lent_by s root) answer
root_of s root _ (NoTable fault is) = subst (λ (r : Result Lent FileFault). RootLent s root r (Err fault)) (sym is) refl
root_of s root _ (NoUnit lent fault lends is) =
    subst (λ (r : Result Lent FileFault). RootLent s root r (Err fault)) (sym lends) (subst (λ (r : Result (Reader × Input) FileFault). RootBegun s root lent r (Err fault)) (sym is) refl)
root_of s root _ (Walks lent unit start answer lends is walk) =
    subst (λ (r : Result Lent FileFault). RootLent s root r answer) (sym lends) (subst (λ (r : Result (Reader × Input) FileFault). RootBegun s root lent r answer) (sym is) walk)

root_lent_by : (s : SectionBytes) (root : Root) (answer : Result (List ℕ) FileFault) (r : Result Lent FileFault) → lent_by s root ≡ r → RootWalk s root answer → RootLent s root r answer
root_lent_by s root answer r is walk = subst (λ (z : Result Lent FileFault). RootLent s root z answer) is (root_of s root answer walk)

root_begun_by : (s : SectionBytes) (root : Root) (answer : Result (List ℕ) FileFault) (lent : Lent) (b : Result (Reader × Input) FileFault) → lent_by s root ≡ Ok lent → root_begun s lent root.macros ≡ b → RootWalk s root answer → RootBegun s root lent b answer
root_begun_by s root answer lent b lends is walk = subst (λ (z : Result (Reader × Input) FileFault). RootBegun s root lent z answer) is (root_lent_by s root answer (Ok lent) lends walk)

pub one_root_walk : (s : SectionBytes) (root : Root) (answer other : Result (List ℕ) FileFault) → RootWalk s root answer → RootWalk s root other → answer ≡ other
one_root_walk s root _ other (NoTable fault is) second = sym (root_lent_by s root other (Err fault) is second)
one_root_walk s root _ other (NoUnit lent fault lends is) second = sym (root_begun_by s root other lent (Err fault) lends is second)
one_root_walk s root _ other (Walks lent unit start answer lends is walk) second =
    one_walk s lent unit (root.macros ∷ []) [] 0 start answer other walk (root_begun_by s root other lent (Ok (unit, start)) lends is second)
