-- The steps of a walk in memory.
use Rattle.std.proofs.Common.{◌≡◌, inl, inr, ℕ, ◌+◌, ◌<◌, ◌≤◌, List, [], ◌∷◌, ◌++◌, length, reverse, Option, None, Ok, ap, subst, sym, ◌∙◌, arith, length-append}
use Rattle.std.proofs.lemmas.List.{reverse-append, length-drop}
use Rattle.std.specs.Ordering.{nat_cmp}
use Rattle.std.specs.BTreeMap.{get}
use Rattle.mac_base.specs.Input.{Input, rest}
use Rattle.mac_base.specs.SectionBytes.{SectionBytes}
use Rattle.unit_header.specs.Header.{Header}
use Rattle.unit_header.specs.Reading.{header_at}
use Rattle.unit_header.proofs.HeaderLemmas.{header_takes}
use Rattle.import_graph.specs.declared.fault.FileFault.{FileFault}
use Rattle.import_graph.specs.declared.meaning.FileRange.{FileRange}
use Rattle.import_graph.specs.declared.meaning.Lookup.{Lookup}
use Rattle.import_graph.specs.declared.node.Node.{Node}
use Rattle.import_graph.specs.declared.unit.OpenUnit.{OpenUnit}
use Rattle.import_graph.specs.declared.unit.Turn.TheVariants.{Enters as HeldEnters}
use Rattle.import_graph.specs.declared.walk.Visit.TheVariants.{Open}
use Rattle.import_graph.specs.declared.walk.Walk.{Walk as HeldWalk}
use Rattle.import_graph.specs.Faults.{IsFaultOf}
use Rattle.import_graph.specs.Meaning.{Lent}
use Rattle.import_graph.specs.Numbers.{IsLookup, Fits, paths_of}
use Rattle.import_graph.specs.Tables.{FilesRead, IsLent}
use Rattle.import_graph.specs.Units.{begun}
use Rattle.import_graph.specs.Progress.{Stands, WalkStands, IsFaultFrom, Turned, IsBegun, Entered, effort, effort_of, left_in}
use Rattle.import_graph.proofs.ReadLemmas.{paths_kept, fits_wider}
use Rattle.import_graph.proofs.StandLemmas.{stands_wider, stands_enters, stands_bars}
use Rattle.import_graph.proofs.MeasureLemmas.{unseen_less, effort_entered}

pub reverse_push : {A : Type 0} (xs ys : List A) (x : A) → ys ≡ xs ++ x ∷ [] → reverse ys ≡ x ∷ reverse xs
reverse_push xs ys x is = ap reverse is ∙ reverse-append xs (x ∷ [])

-- what a unit that begins leaves of the section
pub inside_by : (bytes : List ℕ) (at : ℕ) (h : Header) (q : Input) → header_at (record { bytes = bytes; at = at }) ≡ Ok (h, q) → length (rest q) ≤ length bytes
inside_by bytes at h q is =
    let found = header_takes (record { bytes = bytes; at = at }) q h is in
    omega (arith, ap length found.1.front, length-append found.0 (rest q), length-drop at bytes)

pub lent_kept : (f g : FilesRead) (root other : Option FileRange) (s : SectionBytes) (lent : Lent) (more : List (List ℕ)) → g.tables ≡ f.tables → other ≡ root → g.paths ≡ f.paths ++ more → IsLent f root s lent → IsLent g other s lent
lent_kept f g root other s lent more tables same grows lends = (
  tables ∙ lends.0,
  ap (λ (r : Option FileRange). paths_of g.paths r) same ∙ ap (λ (ps : List (List ℕ)). paths_of ps root) grows ∙ paths_kept f.paths more root lends.2 ∙ lends.1,
  subst (λ (r : Option FileRange). Fits g.paths r) (sym same) (subst (λ (ps : List (List ℕ)). Fits ps root) (sym grows) (fits_wider f.paths more root lends.2)),
)

pub lookup_kept : (l k : Lookup) (s : SectionBytes) (lent : Lent) → k ≡ l → IsLookup l s lent → IsLookup k s lent
lookup_kept l k s lent same look = subst (λ (z : Lookup). IsLookup z s lent) (sym same) look

pub fault_bars : (s : SectionBytes) (lent : Lent) (root : ℕ) (w : HeldWalk) (u v : OpenUnit) (units : List OpenUnit) (at target : ℕ) (fault : FileFault) → WalkStands s lent root w (u ∷ units) → Turned s lent u v (Ok (HeldEnters at target)) →
    get nat_cmp w.seen target ≡ None → IsFaultOf (begun s lent target) fault → IsFaultFrom s lent root fault
fault_bars s lent root w u v units at target fault st turned none (inl ran) = inl ran
fault_bars s lent root w u v units at target fault st turned none (inr is) =
    inr (stands_bars s lent root w.files.paths w.seen w.nodes.items u v units at target fault st.2 (turned.1 w.files.paths st.2.are_open.0.fits) none is)

pub walk_enters : (s : SectionBytes) (lent : Lent) (root : ℕ) (old new : HeldWalk) (u v inner : OpenUnit) (at target : ℕ) (one two : List OpenUnit) → WalkStands s lent root old (u ∷ reverse old.open.items) → Turned s lent u v (Ok (HeldEnters at target)) →
    get nat_cmp old.seen target ≡ None → Entered old new target → IsBegun s lent target new.files.paths inner → one ≡ new.open.items ++ v ∷ [] → two ≡ one ++ inner ∷ [] →
    IsLookup new.lookup s lent × IsLent new.files new.root_files s lent × Stands s lent root new.files.paths new.seen new.nodes.items (reverse two)
walk_enters s lent root old new u v inner at target one two st turned none entered begins first second =
    let units : List OpenUnit = reverse old.open.items in
    let wider : Stands s lent root new.files.paths old.seen old.nodes.items (u ∷ units) =
    subst (λ (ps : List (List ℕ)). Stands s lent root ps old.seen old.nodes.items (u ∷ units)) (sym entered.grows) (stands_wider s lent root old.files.paths entered.more old.seen old.nodes.items u units st.2) in
    let stands : Stands s lent root new.files.paths new.seen old.nodes.items (inner ∷ v ∷ units) =
    stands_enters s lent root new.files.paths old.seen new.seen old.nodes.items u v inner units at target wider turned.0 (turned.1 new.files.paths wider.are_open.0.fits) begins none entered.seen in
    let turned_round : reverse two ≡ inner ∷ v ∷ units =
    reverse_push one two inner second ∙ ap (λ (us : List OpenUnit). inner ∷ us) (reverse_push new.open.items one v first ∙ ap (λ (us : List OpenUnit). v ∷ reverse us) entered.same_open) in (
      lookup_kept old.lookup new.lookup s lent entered.same_lookup st.0,
      lent_kept old.files new.files old.root_files new.root_files s lent entered.more entered.same_tables entered.same_root entered.grows st.1,
      subst (λ (us : List OpenUnit). Stands s lent root new.files.paths new.seen new.nodes.items us) (sym turned_round) (subst (λ (ns : List Node). Stands s lent root new.files.paths new.seen ns (inner ∷ v ∷ units)) (sym entered.same_nodes) stands),
    )

pub walk_effort : (old new : HeldWalk) (v inner : OpenUnit) (target : ℕ) (one two : List OpenUnit) → target < length old.lookup.macros.now → get nat_cmp old.seen target ≡ None → Entered old new target → length (rest inner.cursor) ≤ length old.lookup.macros.now →
    one ≡ new.open.items ++ v ∷ [] → two ≡ one ++ inner ∷ [] → effort (length new.lookup.macros.now) new.seen two ≤ effort_of old + left_in v
walk_effort old new v inner target one two within none entered left first second =
    let n : ℕ = length old.lookup.macros.now in
    let fewer = unseen_less old.seen new.seen target Open n within entered.seen none in
    let whole : two ≡ (old.open.items ++ v ∷ []) ++ inner ∷ [] = second ∙ ap (λ (us : List OpenUnit). us ++ inner ∷ []) (first ∙ ap (λ (us : List OpenUnit). us ++ v ∷ []) entered.same_open) in
    subst (λ (l : Lookup). effort (length l.macros.now) new.seen two ≤ effort_of old + left_in v) (sym entered.same_lookup)
    (subst (λ (us : List OpenUnit). effort n new.seen us ≤ effort_of old + left_in v) (sym whole) (effort_entered n old.seen new.seen old.open.items v inner fewer left))
