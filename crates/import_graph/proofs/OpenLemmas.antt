-- What was read of the open units, while paths and units are put behind.
use Rattle.std.proofs.Common.{◌≡◌, ℕ, ◌<◌, Bool, true, false, ◌||◌, cond, eqb, nat_lt, IsFalse, List, [], ◌∷◌, ◌++◌, length, map, Less, Equal, Greater, Option, Some, None, Ok, refl, ap, subst, sym, ◌∙◌, inl, inr, ◌⊎◌, ◌≢◌, arith, length-append}
use borrow.Author.Tests.{ltb-true}
use Rattle.std.proofs.lemmas.Bool.Decides.{eqb_tells}
use Rattle.std.specs.Ordering.{is_eq, nat_cmp}
use Rattle.std.specs.BTreeMap.{is_at}
use Rattle.mac_base.specs.SectionBytes.{SectionBytes}
use Rattle.mac_base.specs.Input.{Input}
use Rattle.unit_header.specs.Header.{header_of}
use Rattle.mac_base.specs.Items.{Item}
use Rattle.import_graph.specs.declared.node.Node.{Node}
use Rattle.import_graph.specs.declared.node.NodeId.{NodeId}
use Rattle.import_graph.specs.declared.unit.OpenUnit.{OpenUnit}
use Rattle.import_graph.specs.declared.walk.Visit.{Visit}
use Rattle.import_graph.specs.declared.walk.Visit.TheVariants.{Open, Done}
use Rattle.import_graph.specs.Meaning.{Lent, Imports, meaning}
use Rattle.import_graph.specs.Numbers.{Fits, paths_of}
use Rattle.import_graph.specs.Splice.{Splice}
use Rattle.import_graph.specs.Nodes.{items_at, items_of, all_items, root_items, AreNumbered}
use Rattle.import_graph.specs.Graph.{named}
use Rattle.import_graph.specs.Turns.{together, reader_of, IsSameUnit}
use Rattle.import_graph.specs.Progress.{Level, around, level_of, IsReadOf, Waits, AreWaiting, AreOpen, IsKnown, Imported, Resumes}
use Rattle.import_graph.proofs.NodeLemmas.{named_kept, at_kept, all_more}
use Rattle.import_graph.proofs.ReadLemmas.{paths_kept, read_wider, read_longer, read_of, read_imported}

-- the level of a unit that is still the same
pub level_is : (paths : List (List ℕ)) (u v : OpenUnit) (n : ℕ) (q : Input) → IsSameUnit u v → v.open_files ≡ n → v.cursor ≡ q → level_of paths v ≡ record { at = u.at; unit = reader_of paths u; files = n; place = q }
level_is paths u v n q same files place =
    λ i. record { at = same.0 i; unit = record { header = header_of (same.1 i); paths = paths_of paths (same.2 i) }; files = files i; place = place i }

level_wider : (paths more : List (List ℕ)) (u : OpenUnit) → Fits paths u.files → level_of (paths ++ more) u ≡ level_of paths u
level_wider paths more u fits = λ i. record { at = u.at; unit = record { header = header_of u.header; paths = paths_kept paths more u.files fits i }; files = u.open_files; place = u.cursor }

waits_wider : (s : SectionBytes) (lent : Lent) (paths more : List (List ℕ)) (before : List (List (Item ℕ))) (u : OpenUnit) (target : ℕ) → Waits s lent paths before u target → Waits s lent (paths ++ more) before u target
waits_wider s lent paths more before u target w =
    (w.0, w.1, read_wider s lent paths more before u.at (header_of u.header) u.files u.links.items u.count w.0 w.2, w.3, subst (λ (ps : Option (List (List ℕ))). meaning s lent ps w.1 ≡ Ok (Imports target)) (sym (paths_kept paths more u.files w.2.fits)) w.4)

waits_longer : (s : SectionBytes) (lent : Lent) (paths : List (List ℕ)) (before more : List (List (Item ℕ))) (u : OpenUnit) (target : ℕ) → Waits s lent paths before u target → Waits s lent paths (before ++ more) u target
waits_longer s lent paths before more u target w =
    (w.0, w.1, read_longer s lent paths before more u.at (header_of u.header) u.files u.links.items u.count w.0 w.2, w.3, w.4)

waiting_wider : (s : SectionBytes) (lent : Lent) (paths more : List (List ℕ)) (before : List (List (Item ℕ))) (root at : ℕ) (units : List OpenUnit) → AreWaiting s lent paths before root at units → AreWaiting s lent (paths ++ more) before root at units
waiting_wider s lent paths more before root at [] are = are
waiting_wider s lent paths more before root at (u ∷ units) are = (waits_wider s lent paths more before u at are.0, waiting_wider s lent paths more before root u.at units are.1)

waiting_longer : (s : SectionBytes) (lent : Lent) (paths : List (List ℕ)) (before more : List (List (Item ℕ))) (root at : ℕ) (units : List OpenUnit) → AreWaiting s lent paths before root at units → AreWaiting s lent paths (before ++ more) root at units
waiting_longer s lent paths before more root at [] are = are
waiting_longer s lent paths before more root at (u ∷ units) are = (waits_longer s lent paths before more u at are.0, waiting_longer s lent paths before more root u.at units are.1)

waiting_levels : (s : SectionBytes) (lent : Lent) (paths more : List (List ℕ)) (before : List (List (Item ℕ))) (root at : ℕ) (units : List OpenUnit) → AreWaiting s lent paths before root at units → map (level_of (paths ++ more)) units ≡ map (level_of paths) units
waiting_levels s lent paths more before root at [] are = refl
waiting_levels s lent paths more before root at (u ∷ units) are = λ i. level_wider paths more u are.0.2.fits i ∷ waiting_levels s lent paths more before root u.at units are.1 i

pub open_levels : (s : SectionBytes) (lent : Lent) (paths more : List (List ℕ)) (nodes : List Node) (root : ℕ) (units : List OpenUnit) → AreOpen s lent paths nodes root units → map (level_of (paths ++ more)) units ≡ map (level_of paths) units
open_levels s lent paths more nodes root [] are = refl
open_levels s lent paths more nodes root (u ∷ units) are = λ i. level_wider paths more u are.0.fits i ∷ waiting_levels s lent paths more (all_items [] nodes) root u.at units are.1 i

pub open_wider : (s : SectionBytes) (lent : Lent) (paths more : List (List ℕ)) (nodes : List Node) (root : ℕ) (u : OpenUnit) (units : List OpenUnit) → AreOpen s lent paths nodes root (u ∷ units) → AreOpen s lent (paths ++ more) nodes root (u ∷ units)
open_wider s lent paths more nodes root u units are =
    (read_wider s lent paths more (all_items [] nodes) u.at (header_of u.header) u.files u.links.items u.count u.cursor are.0, waiting_wider s lent paths more (all_items [] nodes) root u.at units are.1)

pub known_wider : (s : SectionBytes) (lent : Lent) (paths more : List (List ℕ)) (before : List (List (Item ℕ))) (at : ℕ) (walked around : Bool) (v : Option Visit) → ((i : ℕ) → AreNumbered (length paths) (items_at before i)) →
    IsKnown s lent paths before at walked around v → IsKnown s lent (paths ++ more) before at walked around v
known_wider s lent paths more before at walked around None numbers known = known
known_wider s lent paths more before at walked around (Some Open) numbers known = known
known_wider s lent paths more before at walked around (Some (Done id)) numbers known =
    (known.0, known.1, subst (λ (xs : List (Item (List ℕ))). Splice s lent at xs) (sym (named_kept paths more (items_at before id.index) (numbers id.index))) known.2)

pub known_longer : (s : SectionBytes) (lent : Lent) (paths : List (List ℕ)) (before more : List (List (Item ℕ))) (at : ℕ) (walked around : Bool) (v : Option Visit) →
    IsKnown s lent paths before at walked around v → IsKnown s lent paths (before ++ more) at walked around v
known_longer s lent paths before more at walked around None known = known
known_longer s lent paths before more at walked around (Some Open) known = known
known_longer s lent paths before more at walked around (Some (Done id)) known =
    (known.0, omega (arith, known.1, length-append before more), subst (λ (xs : List (Item ℕ)). Splice s lent at (named paths xs)) (sym (at_kept before more id.index [] known.1)) known.2)

-- the test of a map on numbers
test_by : (t e : Bool) → (t ≡ true → e ≡ false) → is_eq (cond t Less (cond e Equal Greater)) ≡ e
test_by true e h = sym (h refl)
test_by false true h = refl
test_by false false h = refl

not_same : (a b : ℕ) → ((eqb a b ≡ true) × (a ≡ b)) ⊎ ((eqb a b ≡ false) × (a ≢ b)) → nat_lt a b ≡ true → eqb a b ≡ false
not_same a b (inl is) below = let less : a < b = ltb-true a b below in absurd (omega (arith, is.1))
not_same a b (inr is) below = is.0

pub test_is : (a b : ℕ) → is_at (nat_cmp a) b ≡ eqb a b
test_is a b = test_by (nat_lt a b) (eqb a b) (not_same a b (eqb_tells a b))

-- a unit at an offset that was not seen is entered
pub known_entered : (s : SectionBytes) (lent : Lent) (paths : List (List ℕ)) (before : List (List (Item ℕ))) (at : ℕ) (walked around : Bool) (v : Option Visit) (b : Bool) → (b ≡ true → IsFalse walked) →
    IsKnown s lent paths before at walked around v → IsKnown s lent paths before at walked (b || around) (cond b (Some Open) v)
known_entered s lent paths before at walked around v true none known = (none refl, refl)
known_entered s lent paths before at walked around v false none known = known

-- a unit that was around is read whole
pub known_ended : (s : SectionBytes) (lent : Lent) (paths : List (List ℕ)) (before : List (List (Item ℕ))) (at : ℕ) (walked around : Bool) (v : Option Visit) (id : NodeId) (b : Bool) →
    (b ≡ true → (id.index < length before) × Splice s lent at (named paths (items_at before id.index))) →
    IsKnown s lent paths before at walked (b || around) v → IsKnown s lent paths before at (b || walked) around (cond b (Some (Done id)) v)
known_ended s lent paths before at walked around v id true is known = (refl, (is refl).0, (is refl).1)
known_ended s lent paths before at walked around v id false is known = known

-- the unit around takes the one that was read whole
resumed_one : (s : SectionBytes) (lent : Lent) (paths : List (List ℕ)) (before : List (List (Item ℕ))) (u v : OpenUnit) (target : ℕ) (id : NodeId) (n : ℕ) → Waits s lent paths before u target → Imported id n u v →
    Splice s lent target (named paths (items_at before id.index)) → id.index < length before → AreNumbered (length paths) (items_at before id.index) → n ≡ together 0 (length (items_at before id.index)) →
    IsReadOf s lent paths before v v.cursor
resumed_one s lent paths before u v target id n w is splice within numbers counts =
    subst (λ (q : Input). IsReadOf s lent paths before v q) (sym is.place)
    (read_of s lent paths before u v _ _ u.cursor is.same is.links is.count
    (read_imported s lent paths before u.at (header_of u.header) u.files u.links.items u.count w.0 u.cursor w.1 target id n (eqb n 0) refl w.2 w.3 w.4 splice within numbers counts))

pub resumed : (s : SectionBytes) (lent : Lent) (paths : List (List ℕ)) (nodes : List Node) (node : Node) (root at : ℕ) (id : NodeId) (n : ℕ) (units units' : List OpenUnit) →
    AreWaiting s lent paths (all_items [] (nodes ++ node ∷ [])) root at units → Resumes id n units units' →
    Splice s lent at (named paths (items_at (all_items [] (nodes ++ node ∷ [])) id.index)) → id.index < length (all_items [] (nodes ++ node ∷ [])) →
    AreNumbered (length paths) (items_at (all_items [] (nodes ++ node ∷ [])) id.index) → n ≡ together 0 (length (items_at (all_items [] (nodes ++ node ∷ [])) id.index)) →
    items_at (all_items [] (nodes ++ node ∷ [])) id.index ≡ root_items (nodes ++ node ∷ []) → AreOpen s lent paths (nodes ++ node ∷ []) root units'
resumed s lent paths nodes node root at id n [] units' are is splice within numbers counts last =
    subst (λ (us : List OpenUnit). AreOpen s lent paths (nodes ++ node ∷ []) root us) (sym is)
    (subst (λ (r : ℕ). Splice s lent r (named paths (root_items (nodes ++ node ∷ [])))) are (subst (λ (xs : List (Item ℕ)). Splice s lent at (named paths xs)) last splice))
resumed s lent paths nodes node root at id n (u ∷ units) units' are is splice within numbers counts last =
    let before : List (List (Item ℕ)) = all_items [] (nodes ++ node ∷ []) in
    subst (λ (us : List OpenUnit). AreOpen s lent paths (nodes ++ node ∷ []) root us) (sym is.1)
    (resumed_one s lent paths before u is.0 at id n are.0 is.2 splice within numbers counts, subst (λ (a : ℕ). AreWaiting s lent paths before root a units) (sym is.2.same.0) are.1)

pub resumed_levels : (paths : List (List ℕ)) (id : NodeId) (n : ℕ) (units units' : List OpenUnit) → Resumes id n units units' → map (level_of paths) units' ≡ map (level_of paths) units
resumed_levels paths id n [] units' is = ap (map (level_of paths)) is
resumed_levels paths id n (u ∷ units) units' is = ap (map (level_of paths)) is.1 ∙ ap (λ (l : Level). l ∷ map (level_of paths) units) (level_is paths u is.0 u.open_files u.cursor is.2.same is.2.files is.2.place)

pub waiting_behind : (s : SectionBytes) (lent : Lent) (paths : List (List ℕ)) (nodes : List Node) (node : Node) (root at : ℕ) (units : List OpenUnit) → AreWaiting s lent paths (all_items [] nodes) root at units → AreWaiting s lent paths (all_items [] (nodes ++ node ∷ [])) root at units
waiting_behind s lent paths nodes node root at units are =
    subst (λ (xss : List (List (Item ℕ))). AreWaiting s lent paths xss root at units) (sym (all_more [] nodes node)) (waiting_longer s lent paths (all_items [] nodes) (items_of (all_items [] nodes) node.links.items ∷ []) root at units are)
