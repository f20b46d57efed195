-- Each root's walk comes to an answer.
use Rattle.std.proofs.Common.{◌≡◌, ℕ, zero, suc, ◌+◌, ◌<◌, ◌≤◌, Bool, true, false, ◌||◌, cond, eqb, IsTrue, IsFalse, List, [], ◌∷◌, length, Some, Result, Ok, Err, refl, subst, sym, arith}
use Rattle.std.proofs.lemmas.Bool.{eqb-true, eq-eqb}
use Rattle.mac_base.specs.Input.{Input, rest}
use Rattle.mac_base.specs.SectionBytes.{SectionBytes}
use Rattle.info_roots.specs.declared.root.Root.{Root}
use Rattle.unit_header.specs.declared.fault.UnitKind.TheVariants.{ImportCycle}
use Rattle.import_graph.specs.declared.fault.FileFault.{FileFault}
use Rattle.import_graph.specs.Faults.{fault_at}
use Rattle.import_graph.specs.Meaning.{Lent}
use Rattle.import_graph.specs.Units.{Reader, begun, root_begun, lent_by}
use Rattle.import_graph.specs.Walk.{Turn, Ends, Passes, Enters, turn_at, is_among, Walk, Finishes, Stops, Goes, Again, Cycle, Bars, Fails, Returns, RootWalk, NoTable, NoUnit, Walks}
use Rattle.import_graph.proofs.TurnLemmas.{moves_by}
use Rattle.import_graph.proofs.SaidLemmas.{said_of, imports_inside}
use Rattle.import_graph.proofs.MeasureLemmas.{sums_kept, sums_below, below_other}
use Rattle.import_graph.proofs.WholeLemmas.{err_is_no_ok}

-- of the first n offsets, those of units that are neither around nor walked
abbrev free : ℕ → List ℕ → List ℕ → ℕ
free zero around walked = 0
free (suc n) around walked = free n around walked + cond (is_among n around || is_among n walked) 0 1

weight_kept : (b c : Bool) → (IsTrue b → IsTrue c) → cond c 0 1 ≤ cond b 0 1
weight_kept true c kept = rw (kept refl) (omega arith)
weight_kept false true kept = omega arith
weight_kept false false kept = omega arith

here_by : (a b : ℕ) (x y : Bool) → IsFalse x → IsTrue y → a ≤ b → a + cond y 0 1 + 1 ≤ b + cond x 0 1
here_by a b x y old new less = rw (old, new) (omega arith)

few_kept : (a b n : ℕ) → a ≤ b → b < suc n → a < suc n
few_kept a b n first second = omega arith

few_less : (a b k : ℕ) → a < b → b < suc k → a < k
few_less a b k first second = omega arith

fewer_still : (a b n : ℕ) → a + 1 ≤ b → b < suc n → a < n
fewer_still a b n first second = omega arith

lt_more : (a : ℕ) → a < a + 1
lt_more a = omega arith

-- each unit that is around or walked in the first is so in the second
abbrev Covers : List ℕ → List ℕ → List ℕ → List ℕ → Type 0
Covers around walked others more = (t : ℕ) → IsTrue (is_among t around || is_among t walked) → IsTrue (is_among t others || is_among t more)

free_kept : (n : ℕ) (around walked others more : List ℕ) → Covers around walked others more → free n others more ≤ free n around walked
free_kept zero around walked others more covers = omega arith
free_kept (suc n) around walked others more covers =
    sums_kept (free n others more) (free n around walked) (cond (is_among n others || is_among n more) 0 1) (cond (is_among n around || is_among n walked) 0 1) (free_kept n around walked others more covers)
    (weight_kept (is_among n around || is_among n walked) (is_among n others || is_among n more) (covers n))

free_less_by : (n t : ℕ) (around walked others more : List ℕ) (b : Bool) → eqb t n ≡ b → t < suc n → IsFalse (is_among t around || is_among t walked) → IsTrue (is_among t others || is_among t more) → Covers around walked others more →
    (t < n → free n others more + 1 ≤ free n around walked) → free (suc n) others more + 1 ≤ free (suc n) around walked
free_less_by n t around walked others more true same within old new covers on =
    let here : t ≡ n = eqb-true t n same in
    here_by (free n others more) (free n around walked) (is_among n around || is_among n walked) (is_among n others || is_among n more)
    (subst (λ (k : ℕ). IsFalse (is_among k around || is_among k walked)) here old) (subst (λ (k : ℕ). IsTrue (is_among k others || is_among k more)) here new) (free_kept n around walked others more covers)
free_less_by n t around walked others more false other within old new covers on =
    sums_below (free n others more) (free n around walked) (cond (is_among n others || is_among n more) 0 1) (cond (is_among n around || is_among n walked) 0 1) (on (below_other t n within other))
    (weight_kept (is_among n around || is_among n walked) (is_among n others || is_among n more) (covers n))

free_less : (n t : ℕ) (around walked others more : List ℕ) → t < n → IsFalse (is_among t around || is_among t walked) → IsTrue (is_among t others || is_among t more) → Covers around walked others more → free n others more + 1 ≤ free n around walked
free_less zero t around walked others more within old new covers = absurd (omega arith)
free_less (suc n) t around walked others more within old new covers =
    free_less_by n t around walked others more (eqb t n) refl within old new covers (λ less. free_less n t around walked others more less old new covers)

-- tests that are joined
or_false : (a b : Bool) → IsFalse a → IsFalse b → IsFalse (a || b)
or_false true b first second = first
or_false false b first second = second

or_right : (a b : Bool) → IsTrue b → IsTrue (a || b)
or_right true b is = refl
or_right false b is = is

or_wider : (e a w : Bool) → IsTrue (a || w) → IsTrue ((e || a) || w)
or_wider true a w is = refl
or_wider false a w is = is

or_kept : (e a w m : Bool) → (IsTrue w → IsTrue m) → IsTrue (a || w) → IsTrue (a || (e || m))
or_kept e true w m kept is = refl
or_kept e false w m kept is = or_right e m (kept is)

same_is : (t : ℕ) → eqb t t ≡ true
same_is t = eq-eqb t t refl

there_first : (t : ℕ) (around walked : List ℕ) → IsTrue ((eqb t t || is_among t around) || is_among t walked)
there_first t around walked = subst (λ (b : Bool). IsTrue ((b || is_among t around) || is_among t walked)) (sym (same_is t)) refl

-- all that was walked stays walked
abbrev Keeps : List ℕ → List ℕ → Type 0
Keeps walked more = (t : ℕ) → IsTrue (is_among t walked) → IsTrue (is_among t more)

walk_keeps : (s : SectionBytes) (lent : Lent) (unit : Reader) (around walked : List ℕ) (files : ℕ) (p : Input) (answer : Result (List ℕ) FileFault) (more : List ℕ) → Walk s lent unit around walked files p answer → answer ≡ Ok more → Keeps walked more
walk_keeps s lent _ _ _ _ _ _ more (Finishes unit around walked files p is) same = λ t there. let alike : walked ≡ more = cc in subst (λ (us : List ℕ). IsTrue (is_among t us)) alike there
walk_keeps s lent _ _ _ _ _ _ more (Stops unit around walked files p fault is) same = absurd (err_is_no_ok fault more same)
walk_keeps s lent _ _ _ _ _ _ more (Goes unit around walked files open_files p q answer is walk) same = walk_keeps s lent unit around walked open_files q answer more walk same
walk_keeps s lent _ _ _ _ _ _ more (Again unit around walked files at target p q answer is there walk) same = walk_keeps s lent unit around walked files q answer more walk same
walk_keeps s lent _ _ _ _ _ _ more (Cycle unit around walked files at target p q is new closed) same = absurd (err_is_no_ok (fault_at at ImportCycle) more same)
walk_keeps s lent _ _ _ _ _ _ more (Bars unit around walked files at target p q fault is new closed fails) same = absurd (err_is_no_ok fault more same)
walk_keeps s lent _ _ _ _ _ _ more (Fails unit around walked files at target p q other start fault is new closed begins walk) same = absurd (err_is_no_ok fault more same)
walk_keeps s lent _ _ _ _ _ _ more (Returns unit around walked files at target p q other start inner answer is new closed begins walk on) same = λ t there.
    walk_keeps s lent unit around (target ∷ inner) files q answer more on same t (or_right (eqb target t) (is_among t inner) (walk_keeps s lent other (target ∷ around) walked 0 start (Ok inner) inner walk refl t there))

-- an answer of the walk of the rest of a unit
abbrev Answered : SectionBytes → Lent → Reader → List ℕ → List ℕ → ℕ → Input → Type 0
Answered s lent unit around walked files p = (answer : Result (List ℕ) FileFault) × Walk s lent unit around walked files p answer

by_inner : (s : SectionBytes) (lent : Lent) (unit : Reader) (around walked : List ℕ) (files at target : ℕ) (p q start : Input) (other : Reader) (inner : Result (List ℕ) FileFault) → turn_at s lent unit files p ≡ Ok (Enters at target q) → IsFalse (is_among target walked) → IsFalse (is_among target around) →
    begun s lent target ≡ Ok (other, start) → Walk s lent other (target ∷ around) walked 0 start inner → ((more : List ℕ) → Keeps walked more → Answered s lent unit around (target ∷ more) files q) → Answered s lent unit around walked files p
by_inner s lent unit around walked files at target p q start other (Err fault) is new closed begins walk on = (Err fault, Fails unit around walked files at target p q other start fault is new closed begins walk)
by_inner s lent unit around walked files at target p q start other (Ok more) is new closed begins walk on =
    let later = on more (walk_keeps s lent other (target ∷ around) walked 0 start (Ok more) more walk refl) in
    (later.0, Returns unit around walked files at target p q other start more later.0 is new closed begins walk later.1)

by_begun : (s : SectionBytes) (lent : Lent) (unit : Reader) (around walked : List ℕ) (files at target : ℕ) (p q : Input) (b : Result (Reader × Input) FileFault) → turn_at s lent unit files p ≡ Ok (Enters at target q) → IsFalse (is_among target walked) → IsFalse (is_among target around) → begun s lent target ≡ b →
    ((other : Reader) (start : Input) → Answered s lent other (target ∷ around) walked 0 start) → ((more : List ℕ) → Keeps walked more → Answered s lent unit around (target ∷ more) files q) → Answered s lent unit around walked files p
by_begun s lent unit around walked files at target p q (Err fault) is new closed begins enter on = (Err fault, Bars unit around walked files at target p q fault is new closed begins)
by_begun s lent unit around walked files at target p q (Ok (other, start)) is new closed begins enter on =
    let inner = enter other start in
    by_inner s lent unit around walked files at target p q start other inner.0 is new closed begins inner.1 on

by_tests : (s : SectionBytes) (lent : Lent) (unit : Reader) (around walked : List ℕ) (files at target : ℕ) (p q : Input) (w a : Bool) → turn_at s lent unit files p ≡ Ok (Enters at target q) → is_among target walked ≡ w → is_among target around ≡ a → Answered s lent unit around walked files q →
    (IsFalse (is_among target around || is_among target walked) → (other : Reader) (start : Input) → Answered s lent other (target ∷ around) walked 0 start) → ((more : List ℕ) → Keeps walked more → Answered s lent unit around (target ∷ more) files q) → Answered s lent unit around walked files p
by_tests s lent unit around walked files at target p q true a is first second again enter on = (again.0, Again unit around walked files at target p q again.0 is first again.1)
by_tests s lent unit around walked files at target p q false true is first second again enter on = (Err (fault_at at ImportCycle), Cycle unit around walked files at target p q is first second)
by_tests s lent unit around walked files at target p q false false is first second again enter on =
    by_begun s lent unit around walked files at target p q (begun s lent target) is first second refl (enter (or_false (is_among target around) (is_among target walked) second first)) on

-- the walk of a place where no more than so many offsets are free, if all with fewer have an answer
by_turn : (s : SectionBytes) (lent : Lent) (unit : Reader) (around walked : List ℕ) (files : ℕ) (p : Input) (t : Result Turn FileFault) → turn_at s lent unit files p ≡ t →
    ((other : Reader) (units : List ℕ) (n : ℕ) (q : Input) → free (length s.macros) around units ≤ free (length s.macros) around walked → length (rest q) < length (rest p) → Answered s lent unit around units n q) →
    ((other : Reader) (units : List ℕ) (start : Input) → free (length s.macros) units walked + 1 ≤ free (length s.macros) around walked → Answered s lent other units walked 0 start) → Answered s lent unit around walked files p
by_turn s lent unit around walked files p (Err fault) is on enter = (Err fault, Stops unit around walked files p fault is)
by_turn s lent unit around walked files p (Ok Ends) is on enter = (Ok walked, Finishes unit around walked files p is)
by_turn s lent unit around walked files p (Ok (Passes more q)) is on enter =
    let found = said_of s lent unit files p (Passes more q) is in
    let later = on unit walked more q (omega arith) (moves_by unit.header p q (Some found.0) found.1) in
    (later.0, Goes unit around walked files more p q later.0 is later.1)
by_turn s lent unit around walked files p (Ok (Enters at target q)) is on enter =
    let found = said_of s lent unit files p (Enters at target q) is in
    let less = moves_by unit.header p q (Some found.0) found.1 in
    let within = imports_inside s lent unit.paths found.0 target found.2 in
    by_tests s lent unit around walked files at target p q (is_among target walked) (is_among target around) is refl refl (on unit walked files q (omega arith) less)
    (λ new other start. enter other (target ∷ around) start (free_less (length s.macros) target around walked (target ∷ around) walked within new (there_first target around walked) (λ t. or_wider (eqb target t) (is_among t around) (is_among t walked))))
    (λ more keeps. on unit (target ∷ more) files q (free_kept (length s.macros) around walked around (target ∷ more) (λ t. or_kept (eqb target t) (is_among t around) (is_among t walked) (is_among t more) (keeps t))) less)

-- with a bound on the bytes that are left
by_bytes : (s : SectionBytes) (lent : Lent) (n : ℕ) → ((other : Reader) (units more : List ℕ) (start : Input) → free (length s.macros) units more < n → Answered s lent other units more 0 start) →
    (k : ℕ) (unit : Reader) (around walked : List ℕ) (files : ℕ) (p : Input) → free (length s.macros) around walked < suc n → length (rest p) < k → Answered s lent unit around walked files p
by_bytes s lent n enter zero unit around walked files p few small = absurd (omega arith)
by_bytes s lent n enter (suc k) unit around walked files p few small =
    by_turn s lent unit around walked files p (turn_at s lent unit files p) refl
    (λ other units open_files q fewer less. by_bytes s lent n enter k unit around units open_files q (few_kept (free (length s.macros) around units) (free (length s.macros) around walked) n fewer few) (few_less (length (rest q)) (length (rest p)) k less small))
    (λ other units start fewer. enter other units walked start (fewer_still (free (length s.macros) units walked) (free (length s.macros) around walked) n fewer few))

-- and with a bound on the free offsets
by_free : (s : SectionBytes) (lent : Lent) (n : ℕ) (unit : Reader) (around walked : List ℕ) (p : Input) → free (length s.macros) around walked < n → Answered s lent unit around walked 0 p
by_free s lent zero unit around walked p few = absurd (omega arith)
by_free s lent (suc n) unit around walked p few = by_bytes s lent n (λ other units more start less. by_free s lent n other units more start less) (length (rest p) + 1) unit around walked 0 p few (lt_more (length (rest p)))

pub walk_answered : (s : SectionBytes) (lent : Lent) (unit : Reader) (around walked : List ℕ) (p : Input) → Answered s lent unit around walked 0 p
walk_answered s lent unit around walked p = by_free s lent (free (length s.macros) around walked + 1) unit around walked p (lt_more (free (length s.macros) around walked))

root_by_begun : (s : SectionBytes) (root : Root) (lent : Lent) (b : Result (Reader × Input) FileFault) → lent_by s root ≡ Ok lent → root_begun s lent root.macros ≡ b → (answer : Result (List ℕ) FileFault) × RootWalk s root answer
root_by_begun s root lent (Err fault) lends begins = (Err fault, NoUnit lent fault lends begins)
root_by_begun s root lent (Ok (unit, start)) lends begins = let found = walk_answered s lent unit (root.macros ∷ []) [] start in (found.0, Walks lent unit start found.0 lends begins found.1)

root_by_lent : (s : SectionBytes) (root : Root) (r : Result Lent FileFault) → lent_by s root ≡ r → (answer : Result (List ℕ) FileFault) × RootWalk s root answer
root_by_lent s root (Err fault) lends = (Err fault, NoTable fault lends)
root_by_lent s root (Ok lent) lends = root_by_begun s root lent (root_begun s lent root.macros) lends refl

-- the walk of each root comes to an answer
pub root_answered : (s : SectionBytes) (root : Root) → (answer : Result (List ℕ) FileFault) × RootWalk s root answer
root_answered s root = root_by_lent s root (lent_by s root) refl
