-- What holds between two turns of the walk holds again behind each turn, and a fault of a turn is that of the walk.
use Rattle.std.proofs.Common.{◌≡◌, inl, inr, ℕ, ◌-◌, ◌<◌, ◌≤◌, Bool, false, cond, eqb, IsFalse, List, [], ◌∷◌, ◌++◌, length, map, Option, Some, None, Result, Ok, Err, refl, ap, subst, sym, ◌∙◌, arith, length-append, zero-add}
use Rattle.std.proofs.lemmas.Bool.{eqb-true}
use Rattle.std.specs.Ordering.{nat_cmp}
use Rattle.std.specs.BTreeMap.{BTreeMap, get, is_at}
use Rattle.mac_base.specs.Input.{Input, ◌>>=◌}
use Rattle.mac_base.specs.SectionBytes.{SectionBytes}
use Rattle.unit_header.specs.declared.header.Header.{Header as HeldHeader}
use Rattle.unit_header.specs.Header.{header_of}
use Rattle.unit_header.specs.declared.fault.UnitKind.{UnitKind}
use Rattle.unit_header.specs.declared.fault.UnitKind.TheVariants.{ImportCycle, StartWithoutEnd}
use Rattle.macro_opcodes.specs.Entry.{Entry}
use Rattle.macro_opcodes.specs.Reading.{entry_at}
use Rattle.mac_base.specs.Items.{Item}
use Rattle.import_graph.specs.declared.fault.FileFault.{FileFault}
use Rattle.import_graph.specs.declared.meaning.FileRange.{FileRange}
use Rattle.import_graph.specs.declared.node.Link.{Link}
use Rattle.import_graph.specs.declared.node.Link.TheVariants.{Import}
use Rattle.import_graph.specs.declared.node.Node.{Node}
use Rattle.import_graph.specs.declared.node.NodeId.{NodeId}
use Rattle.import_graph.specs.declared.unit.OpenUnit.{OpenUnit}
use Rattle.import_graph.specs.declared.unit.Turn.TheVariants.{Ends as HeldEnds, Passes as HeldPasses, Enters as HeldEnters}
use Rattle.import_graph.specs.declared.walk.Visit.{Visit}
use Rattle.import_graph.specs.declared.walk.Visit.TheVariants.{Open, Done}
use Rattle.import_graph.specs.Faults.{fault_at, entry_part}
use Rattle.import_graph.specs.Meaning.{Lent, Meaning, Plain, Imports, Nothing, meaning}
use Rattle.import_graph.specs.Numbers.{paths_of}
use Rattle.import_graph.specs.Units.{begun}
use Rattle.import_graph.specs.Splice.{Splice}
use Rattle.import_graph.specs.Nodes.{items_at, items_of, all_items, count_at, ImportBelow, AreNumbered}
use Rattle.import_graph.specs.Graph.{named}
use Rattle.import_graph.specs.Walk.{Turn, Ends, Passes, Enters, turn_at, turn_by, is_among}
use Rattle.import_graph.specs.Turns.{together, reader_of, IsSameUnit, TurnSays, Took}
use Rattle.import_graph.specs.Progress.{Level, around, Left, Comes, level_of, IsRead, IsReadOf, AreWaiting, IsKnown, Stands, IsFaultFrom, IsBegun, Imported, Resumes, IsWalked}
use Rattle.import_graph.proofs.TurnLemmas.{turn_by_read}
use Rattle.import_graph.proofs.WalkLemmas.{left_stops, left_ends, left_passes, left_again, left_cycle, left_bars, left_enters}
use Rattle.import_graph.proofs.NodeLemmas.{Placed, before, there, behind, placed, all_more, nodes_long, ordered_more, root_of_last, items_before, items_there, items_behind, count_before, count_there, count_behind, numbered_wider}
use Rattle.import_graph.proofs.ReadLemmas.{read_none, read_own, read_silent, read_imported, read_of, upto_all}
use Rattle.import_graph.proofs.OpenLemmas.{level_is, open_levels, open_wider, known_wider, known_longer, known_entered, known_ended, test_is, resumed, resumed_levels, waiting_behind}

same_both : (u v w : OpenUnit) → IsSameUnit u v → IsSameUnit v w → IsSameUnit u w
same_both u v w first second = (second.0 ∙ first.0, second.1 ∙ first.1, second.2 ∙ first.2)

-- paths are put behind the others
pub stands_wider : (s : SectionBytes) (lent : Lent) (root : ℕ) (paths more : List (List ℕ)) (seen : BTreeMap ℕ Visit) (nodes : List Node) (u : OpenUnit) (units : List OpenUnit) →
    Stands s lent root paths seen nodes (u ∷ units) → Stands s lent root (paths ++ more) seen nodes (u ∷ units)
stands_wider s lent root paths more seen nodes u units st =
    let same = open_levels s lent paths more nodes root (u ∷ units) st.are_open in
    record {
      ordered = st.ordered;
      counted = st.counted;
      numbered = λ i. numbered_wider (length paths) (length (paths ++ more)) (items_at (all_items [] nodes) i) (st.numbered i) (omega (arith, length-append paths more));
      walked = st.walked;
      known = λ at. subst (λ (ls : List Level). IsKnown s lent (paths ++ more) (all_items [] nodes) at (is_among at st.walked) (is_among at (around ls)) (get nat_cmp seen at)) (sym same)
          (known_wider s lent paths more (all_items [] nodes) at (is_among at st.walked) (is_among at (around (map (level_of paths) (u ∷ units)))) (get nat_cmp seen at) st.numbered (st.known at));
      left = λ answer rest. st.left answer (subst (λ (ls : List Level). Left s lent ls st.walked answer) same rest);
      are_open = open_wider s lent paths more nodes root u units st.are_open;
    }

-- the innermost unit moved on
stands_moved : (s : SectionBytes) (lent : Lent) (root : ℕ) (paths : List (List ℕ)) (seen : BTreeMap ℕ Visit) (nodes : List Node) (u v : OpenUnit) (units : List OpenUnit) →
    (st : Stands s lent root paths seen nodes (u ∷ units)) → IsSameUnit u v → IsReadOf s lent paths (all_items [] nodes) v v.cursor →
    ((answer : Result (List ℕ) FileFault) → Left s lent (level_of paths v ∷ map (level_of paths) units) st.walked answer → Left s lent (level_of paths u ∷ map (level_of paths) units) st.walked answer) →
    Stands s lent root paths seen nodes (v ∷ units)
stands_moved s lent root paths seen nodes u v units st same read moves = record {
  ordered = st.ordered;
  counted = st.counted;
  numbered = st.numbered;
  walked = st.walked;
  known = λ at. subst (λ (n : ℕ). IsKnown s lent paths (all_items [] nodes) at (is_among at st.walked) (is_among at (n ∷ around (map (level_of paths) units))) (get nat_cmp seen at)) (sym same.0) (st.known at);
  left = λ answer rest. st.left answer (moves answer rest);
  are_open = (read, subst (λ (n : ℕ). AreWaiting s lent paths (all_items [] nodes) root n units) (sym same.0) st.are_open.1);
}

-- the turn of an entry
turn_says : (s : SectionBytes) (lent : Lent) (paths : List (List ℕ)) (u : OpenUnit) (q : Input) (e : Entry) (m : Meaning) (t : Turn) → entry_at (header_of u.header) u.cursor ≡ Ok (Some e, q) → meaning s lent (paths_of paths u.files) e ≡ Ok m →
    turn_by e.at u.open_files q m ≡ Ok t → turn_at s lent (reader_of paths u) u.open_files u.cursor ≡ Ok t
turn_says s lent paths u q e m t read says turns =
    turn_by_read s lent (reader_of paths u) u.open_files u.cursor (Ok (Some e, q)) read ∙ ap (λ (r : Result Meaning UnitKind). entry_part e.at (r >>= turn_by e.at u.open_files q)) says ∙ ap (entry_part e.at) turns

no_pass : (at target : ℕ) (q p : Input) (n : ℕ) → ◌≡◌ {A = Result Turn UnitKind} (Ok (Enters at target q)) (Ok (Passes n p)) → ⊥
no_pass at target q p n is = cc

-- an entry that is no import was read
passed : (s : SectionBytes) (lent : Lent) (paths : List (List ℕ)) (xss : List (List (Item ℕ))) (u v : OpenUnit) (e : Entry) (m : Meaning) → IsSameUnit u v → IsReadOf s lent paths xss u u.cursor →
    entry_at (header_of u.header) u.cursor ≡ Ok (Some e, v.cursor) → meaning s lent (paths_of paths u.files) e ≡ Ok m → turn_by e.at u.open_files v.cursor m ≡ Ok (Passes v.open_files v.cursor) →
    Took paths m (record u { cursor = v.cursor }) v → IsReadOf s lent paths xss v v.cursor
passed s lent paths xss u v e (Plain item) same read is says turns took =
    read_of s lent paths xss u v _ _ v.cursor same took.3 took.4
    (read_own s lent paths xss u.at (header_of u.header) u.files u.links.items u.count u.cursor v.cursor e took.0 read is (says ∙ ap (λ (i : Item (List ℕ)). Ok (Plain i)) took.1) took.2)
passed s lent paths xss u v e (Imports target) same read is says turns took = absurd (no_pass e.at target v.cursor v.cursor v.open_files turns)
passed s lent paths xss u v e Nothing same read is says turns took =
    read_of s lent paths xss u v _ _ v.cursor same took.0 took.1 (read_silent s lent paths xss u.at (header_of u.header) u.files u.links.items u.count u.cursor v.cursor e read is says)

pub stands_passes : (s : SectionBytes) (lent : Lent) (root : ℕ) (paths : List (List ℕ)) (seen : BTreeMap ℕ Visit) (nodes : List Node) (u v : OpenUnit) (units : List OpenUnit) →
    Stands s lent root paths seen nodes (u ∷ units) → IsSameUnit u v → TurnSays s lent paths u v (Ok HeldPasses) → Stands s lent root paths seen nodes (v ∷ units)
stands_passes s lent root paths seen nodes u v units st same says =
    let e = says.0 in
    let m = says.2.0 in
    let turn = turn_says s lent paths u v.cursor e m (Passes v.open_files v.cursor) says.1 says.2.1 says.2.2 in
    stands_moved s lent root paths seen nodes u v units st same (passed s lent paths (all_items [] nodes) u v e m same st.are_open.0 says.1 says.2.1 says.2.2 says.2.3)
    (λ answer rest. left_passes s lent (level_of paths u) (map (level_of paths) units) st.walked answer v.open_files v.cursor turn
    (subst (λ (l : Level). Left s lent (l ∷ map (level_of paths) units) st.walked answer) (level_is paths u v v.open_files v.cursor same refl refl) rest))

-- the import of a unit that was read whole
again : (s : SectionBytes) (lent : Lent) (root : ℕ) (paths : List (List ℕ)) (seen : BTreeMap ℕ Visit) (nodes : List Node) (u v w : OpenUnit) (units : List OpenUnit) (at target : ℕ) (id : NodeId) →
    (st : Stands s lent root paths seen nodes (u ∷ units)) → IsSameUnit u v → TurnSays s lent paths u v (Ok (HeldEnters at target)) → Imported id (count_at nodes id.index) v w →
    IsKnown s lent paths (all_items [] nodes) target (is_among target st.walked) (is_among target (around (map (level_of paths) (u ∷ units)))) (Some (Done id)) → Stands s lent root paths seen nodes (w ∷ units)
again s lent root paths seen nodes u v w units at target id st same says takes known =
    let e = says.0 in
    let xss : List (List (Item ℕ)) = all_items [] nodes in
    let whole = same_both u v w same takes.same in
    let turn = turn_says s lent paths u v.cursor e (Imports target) (Enters e.at target v.cursor) says.1 says.2.1 refl in
    let read = read_imported s lent paths xss u.at (header_of u.header) u.files u.links.items u.count u.cursor v.cursor e target id (count_at nodes id.index) (eqb (count_at nodes id.index) 0) refl st.are_open.0 says.1 says.2.1 known.2 known.1 (st.numbered id.index) (st.counted id.index) in
    let linked = takes.links ∙ ap (λ (ls : List Link). cond (eqb (count_at nodes id.index) 0) ls (ls ++ Import id ∷ [])) says.2.3.0 in
    let counted = takes.count ∙ ap (λ (n : ℕ). cond (eqb (count_at nodes id.index) 0) n (together n (count_at nodes id.index))) says.2.3.1 in
    stands_moved s lent root paths seen nodes u w units st whole
    (subst (λ (q : Input). IsReadOf s lent paths xss w q) (sym takes.place) (read_of s lent paths xss u w _ _ v.cursor whole linked counted read))
    (λ answer rest. left_again s lent (level_of paths u) (map (level_of paths) units) st.walked answer e.at target v.cursor turn known.0
    (subst (λ (l : Level). Left s lent (l ∷ map (level_of paths) units) st.walked answer) (level_is paths u w u.open_files v.cursor whole (takes.files ∙ says.2.2) takes.place) rest))

pub stands_again : (s : SectionBytes) (lent : Lent) (root : ℕ) (paths : List (List ℕ)) (seen : BTreeMap ℕ Visit) (nodes : List Node) (u v w : OpenUnit) (units : List OpenUnit) (at target : ℕ) (id : NodeId) →
    Stands s lent root paths seen nodes (u ∷ units) → IsSameUnit u v → TurnSays s lent paths u v (Ok (HeldEnters at target)) → Imported id (count_at nodes id.index) v w → get nat_cmp seen target ≡ Some (Done id) →
    Stands s lent root paths seen nodes (w ∷ units)
stands_again s lent root paths seen nodes u v w units at target id st same says takes is =
    again s lent root paths seen nodes u v w units at target id st same says takes
    (subst (λ (o : Option Visit). IsKnown s lent paths (all_items [] nodes) target (is_among target st.walked) (is_among target (around (map (level_of paths) (u ∷ units)))) o) is (st.known target))

-- the import of a unit that is being walked
pub stands_cycle : (s : SectionBytes) (lent : Lent) (root : ℕ) (paths : List (List ℕ)) (seen : BTreeMap ℕ Visit) (nodes : List Node) (u v : OpenUnit) (units : List OpenUnit) (at target : ℕ) →
    Stands s lent root paths seen nodes (u ∷ units) → TurnSays s lent paths u v (Ok (HeldEnters at target)) → get nat_cmp seen target ≡ Some Open → Comes s lent root (Err (fault_at at ImportCycle))
stands_cycle s lent root paths seen nodes u v units at target st says is =
    let e = says.0 in
    let turn = turn_says s lent paths u v.cursor e (Imports target) (Enters e.at target v.cursor) says.1 says.2.1 refl in
    let known : IsKnown s lent paths (all_items [] nodes) target (is_among target st.walked) (is_among target (around (map (level_of paths) (u ∷ units)))) (Some Open) =
    subst (λ (o : Option Visit). IsKnown s lent paths (all_items [] nodes) target (is_among target st.walked) (is_among target (around (map (level_of paths) (u ∷ units)))) o) is (st.known target) in
    subst (λ (n : ℕ). Comes s lent root (Err (fault_at n ImportCycle))) (sym says.2.0)
    (st.left (Err (fault_at e.at ImportCycle)) (left_cycle s lent (level_of paths u) (map (level_of paths) units) st.walked e.at target v.cursor turn known.0 known.1))

-- the import of a unit that can't begin
pub stands_bars : (s : SectionBytes) (lent : Lent) (root : ℕ) (paths : List (List ℕ)) (seen : BTreeMap ℕ Visit) (nodes : List Node) (u v : OpenUnit) (units : List OpenUnit) (at target : ℕ) (fault : FileFault) →
    Stands s lent root paths seen nodes (u ∷ units) → TurnSays s lent paths u v (Ok (HeldEnters at target)) → get nat_cmp seen target ≡ None → begun s lent target ≡ Err fault → Comes s lent root (Err fault)
stands_bars s lent root paths seen nodes u v units at target fault st says is fails =
    let e = says.0 in
    let turn = turn_says s lent paths u v.cursor e (Imports target) (Enters e.at target v.cursor) says.1 says.2.1 refl in
    let known : IsKnown s lent paths (all_items [] nodes) target (is_among target st.walked) (is_among target (around (map (level_of paths) (u ∷ units)))) None =
    subst (λ (o : Option Visit). IsKnown s lent paths (all_items [] nodes) target (is_among target st.walked) (is_among target (around (map (level_of paths) (u ∷ units)))) o) is (st.known target) in
    st.left (Err fault) (left_bars s lent (level_of paths u) (map (level_of paths) units) st.walked e.at target v.cursor fault turn known.0 known.1 fails)

-- a turn with a fault
pub stands_stops : (s : SectionBytes) (lent : Lent) (root : ℕ) (paths : List (List ℕ)) (seen : BTreeMap ℕ Visit) (nodes : List Node) (u v : OpenUnit) (units : List OpenUnit) (fault : FileFault) →
    Stands s lent root paths seen nodes (u ∷ units) → TurnSays s lent paths u v (Err fault) → IsFaultFrom s lent root fault
stands_stops s lent root paths seen nodes u v units fault st (inl ran) = inl ran
stands_stops s lent root paths seen nodes u v units fault st (inr is) = inr (st.left (Err fault) (left_stops s lent (level_of paths u) (map (level_of paths) units) st.walked fault is))

level_begun : (s : SectionBytes) (lent : Lent) (at : ℕ) (paths : List (List ℕ)) (u : OpenUnit) → IsBegun s lent at paths u → level_of paths u ≡ record { at = at; unit = reader_of paths u; files = 0; place = u.cursor }
level_begun s lent at paths u begins = λ i. record { at = begins.stands i; unit = reader_of paths u; files = begins.no_file i; place = u.cursor }

-- the first import of a unit that begins
enters : (s : SectionBytes) (lent : Lent) (root : ℕ) (paths : List (List ℕ)) (seen seen' : BTreeMap ℕ Visit) (nodes : List Node) (u v inner : OpenUnit) (units : List OpenUnit) (at target : ℕ) →
    (st : Stands s lent root paths seen nodes (u ∷ units)) → IsSameUnit u v → TurnSays s lent paths u v (Ok (HeldEnters at target)) → IsBegun s lent target paths inner →
    IsKnown s lent paths (all_items [] nodes) target (is_among target st.walked) (is_among target (around (map (level_of paths) (u ∷ units)))) None →
    ((q : ℕ) → get nat_cmp seen' q ≡ cond (is_at (nat_cmp target) q) (Some Open) (get nat_cmp seen q)) → Stands s lent root paths seen' nodes (inner ∷ v ∷ units)
enters s lent root paths seen seen' nodes u v inner units at target st same says begins known updates =
    let e = says.0 in
    let xss : List (List (Item ℕ)) = all_items [] nodes in
    let ls : List Level = map (level_of paths) units in
    let turn = turn_says s lent paths u v.cursor e (Imports target) (Enters e.at target v.cursor) says.1 says.2.1 refl in
    record {
      ordered = st.ordered;
      counted = st.counted;
      numbered = st.numbered;
      walked = st.walked;
      known = λ q. subst (λ (o : Option Visit). IsKnown s lent paths xss q (is_among q st.walked) (is_among q (inner.at ∷ v.at ∷ around ls)) o) (sym (updates q))
          (subst (λ (n : ℕ). IsKnown s lent paths xss q (is_among q st.walked) (is_among q (n ∷ v.at ∷ around ls)) (cond (is_at (nat_cmp target) q) (Some Open) (get nat_cmp seen q))) (sym begins.stands)
          (subst (λ (n : ℕ). IsKnown s lent paths xss q (is_among q st.walked) (is_among q (target ∷ n ∷ around ls)) (cond (is_at (nat_cmp target) q) (Some Open) (get nat_cmp seen q))) (sym same.0)
          (subst (λ (b : Bool). IsKnown s lent paths xss q (is_among q st.walked) (is_among q (target ∷ u.at ∷ around ls)) (cond b (Some Open) (get nat_cmp seen q))) (sym (test_is target q))
          (known_entered s lent paths xss q (is_among q st.walked) (is_among q (u.at ∷ around ls)) (get nat_cmp seen q) (eqb target q)
          (λ is. subst (λ (n : ℕ). IsFalse (is_among n st.walked)) (eqb-true target q is) known.0) (st.known q)))));
      left = λ answer rest. st.left answer (left_enters s lent (level_of paths u) ls st.walked answer e.at target v.cursor inner.cursor (reader_of paths inner) turn known.0 known.1 begins.begun_so
          (subst (λ (l : Level). Left s lent (record { at = target; unit = reader_of paths inner; files = 0; place = inner.cursor } ∷ l ∷ ls) st.walked answer) (level_is paths u v u.open_files v.cursor same says.2.2 refl)
          (subst (λ (l : Level). Left s lent (l ∷ level_of paths v ∷ ls) st.walked answer) (level_begun s lent target paths inner begins) rest)));
      are_open = (
        read_of s lent paths xss inner inner [] 0 inner.cursor (refl, refl, refl) begins.no_link begins.no_count (subst (λ (n : ℕ). IsRead s lent paths xss n (header_of inner.header) inner.files [] 0 inner.cursor) (sym begins.stands)
            (read_none s lent paths xss target (header_of inner.header) inner.files inner.cursor begins.header begins.has_paths begins.fits)),
        (
          (
            u.cursor,
            e,
            read_of s lent paths xss u v _ _ u.cursor same says.2.3.0 says.2.3.1 st.are_open.0,
            subst (λ (h : HeldHeader). entry_at (header_of h) u.cursor ≡ Ok (Some e, v.cursor)) (sym same.1) says.1,
            subst (λ (n : ℕ). meaning s lent (paths_of paths v.files) e ≡ Ok (Imports n)) (sym begins.stands) (subst (λ (f : Option FileRange). meaning s lent (paths_of paths f) e ≡ Ok (Imports target)) (sym same.2) says.2.1),
          ),
          subst (λ (n : ℕ). AreWaiting s lent paths xss root n units) (sym same.0) st.are_open.1,
        ),
      );
    }

pub stands_enters : (s : SectionBytes) (lent : Lent) (root : ℕ) (paths : List (List ℕ)) (seen seen' : BTreeMap ℕ Visit) (nodes : List Node) (u v inner : OpenUnit) (units : List OpenUnit) (at target : ℕ) →
    Stands s lent root paths seen nodes (u ∷ units) → IsSameUnit u v → TurnSays s lent paths u v (Ok (HeldEnters at target)) → IsBegun s lent target paths inner → get nat_cmp seen target ≡ None →
    ((q : ℕ) → get nat_cmp seen' q ≡ cond (is_at (nat_cmp target) q) (Some Open) (get nat_cmp seen q)) → Stands s lent root paths seen' nodes (inner ∷ v ∷ units)
stands_enters s lent root paths seen seen' nodes u v inner units at target st same says begins is updates =
    enters s lent root paths seen seen' nodes u v inner units at target st same says begins
    (subst (λ (o : Option Visit). IsKnown s lent paths (all_items [] nodes) target (is_among target st.walked) (is_among target (around (map (level_of paths) (u ∷ units)))) o) is (st.known target)) updates

-- the root's unit begins
pub stands_first : (s : SectionBytes) (lent : Lent) (root : ℕ) (paths : List (List ℕ)) (seen : BTreeMap ℕ Visit) (u : OpenUnit) → IsBegun s lent root paths u →
    ((q : ℕ) → get nat_cmp seen q ≡ cond (is_at (nat_cmp root) q) (Some Open) None) → Stands s lent root paths seen [] (u ∷ [])
stands_first s lent root paths seen u begins updates = record {
  ordered = tt;
  counted = λ i. refl;
  numbered = λ i. tt;
  walked = [];
  known = λ q. subst (λ (o : Option Visit). IsKnown s lent paths [] q false (is_among q (u.at ∷ [])) o) (sym (updates q))
      (subst (λ (n : ℕ). IsKnown s lent paths [] q false (is_among q (n ∷ [])) (cond (is_at (nat_cmp root) q) (Some Open) None)) (sym begins.stands)
      (subst (λ (b : Bool). IsKnown s lent paths [] q false (is_among q (root ∷ [])) (cond b (Some Open) None)) (sym (test_is root q))
      (known_entered s lent paths [] q false false None (eqb root q) (λ is. refl) (refl, refl))));
  left = λ answer rest. (reader_of paths u, u.cursor, begins.begun_so, subst (λ (l : Level). Left s lent (l ∷ []) [] answer) (level_begun s lent root paths u begins) rest);
  are_open = (
    read_of s lent paths [] u u [] 0 u.cursor (refl, refl, refl) begins.no_link begins.no_count (subst (λ (n : ℕ). IsRead s lent paths [] n (header_of u.header) u.files [] 0 u.cursor) (sym begins.stands)
        (read_none s lent paths [] root (header_of u.header) u.files u.cursor begins.header begins.has_paths begins.fits)),
    begins.stands,
  );
}

-- no unit is open any more
pub stands_last : (s : SectionBytes) (lent : Lent) (root : ℕ) (paths : List (List ℕ)) (seen : BTreeMap ℕ Visit) (nodes : List Node) → Stands s lent root paths seen nodes [] → IsWalked s lent root nodes paths
stands_last s lent root paths seen nodes st = record {
  ordered = st.ordered;
  numbered = st.numbered (length nodes - 1);
  counted = st.counted (length nodes - 1);
  splice = st.are_open;
  walked = st.walked;
  comes = st.left (Ok st.walked) refl;
}

-- what is known of counts and numbers, with one more node
counted_by : (nodes : List Node) (node : Node) (i : ℕ) → Placed i (length nodes) → ((k : ℕ) → count_at nodes k ≡ together 0 (length (items_at (all_items [] nodes) k))) → node.count ≡ together 0 (length (items_of (all_items [] nodes) node.links.items)) →
    count_at (nodes ++ node ∷ []) i ≡ together 0 (length (items_at (all_items [] (nodes ++ node ∷ [])) i))
counted_by nodes node i (before less) are is = count_before nodes node i less ∙ are i ∙ ap (λ (xs : List (Item ℕ)). together 0 (length xs)) (sym (items_before nodes node i less))
counted_by nodes node i (there same) are is = count_there nodes node i same ∙ is ∙ ap (λ (xs : List (Item ℕ)). together 0 (length xs)) (sym (items_there nodes node i same))
counted_by nodes node i (behind more) are is =
    let past : length (nodes ++ node ∷ []) ≤ i = omega (arith, length-append nodes (node ∷ [])) in
    count_behind (nodes ++ node ∷ []) i past ∙ ap (λ (xs : List (Item ℕ)). together 0 (length xs)) (sym (items_behind (nodes ++ node ∷ []) i past))

numbered_by : (n : ℕ) (nodes : List Node) (node : Node) (i : ℕ) → Placed i (length nodes) → ((k : ℕ) → AreNumbered n (items_at (all_items [] nodes) k)) → AreNumbered n (items_of (all_items [] nodes) node.links.items) → AreNumbered n (items_at (all_items [] (nodes ++ node ∷ [])) i)
numbered_by n nodes node i (before less) are is = subst (λ (xs : List (Item ℕ)). AreNumbered n xs) (sym (items_before nodes node i less)) (are i)
numbered_by n nodes node i (there same) are is = subst (λ (xs : List (Item ℕ)). AreNumbered n xs) (sym (items_there nodes node i same)) is
numbered_by n nodes node i (behind more) are is =
    let past : length (nodes ++ node ∷ []) ≤ i = omega (arith, length-append nodes (node ∷ [])) in
    subst (λ (xs : List (Item ℕ)). AreNumbered n xs) (sym (items_behind (nodes ++ node ∷ []) i past)) tt

known_behind : (s : SectionBytes) (lent : Lent) (paths : List (List ℕ)) (nodes : List Node) (node : Node) (at : ℕ) (walked around' : Bool) (v : Option Visit) → IsKnown s lent paths (all_items [] nodes) at walked around' v → IsKnown s lent paths (all_items [] (nodes ++ node ∷ [])) at walked around' v
known_behind s lent paths nodes node at walked around' v known =
    subst (λ (xss : List (List (Item ℕ))). IsKnown s lent paths xss at walked around' v) (sym (all_more [] nodes node)) (known_longer s lent paths (all_items [] nodes) (items_of (all_items [] nodes) node.links.items ∷ []) at walked around' v known)

ends_by : (files at : ℕ) → files ≡ 0 → ◌≡◌ {A = Result Turn FileFault} (cond (eqb files 0) (Ok Ends) (Err (fault_at at StartWithoutEnd))) (Ok Ends)
ends_by files at none = ap (λ (n : ℕ). cond (eqb n 0) (Ok Ends) (Err (fault_at at StartWithoutEnd))) none

-- the innermost unit is read whole
pub stands_ends : (s : SectionBytes) (lent : Lent) (root : ℕ) (paths : List (List ℕ)) (seen seen' : BTreeMap ℕ Visit) (nodes : List Node) (node : Node) (u v : OpenUnit) (units units' : List OpenUnit) (id : NodeId) →
    Stands s lent root paths seen nodes (u ∷ units) → IsSameUnit u v → TurnSays s lent paths u v (Ok HeldEnds) → node.links.items ≡ v.links.items → node.count ≡ v.count → id.index ≡ length nodes → Resumes id node.count units units' →
    ((q : ℕ) → get nat_cmp seen' q ≡ cond (is_at (nat_cmp v.at) q) (Some (Done id)) (get nat_cmp seen q)) → Stands s lent root paths seen' (nodes ++ node ∷ []) units'
stands_ends s lent root paths seen seen' nodes node u v units units' id st same says linked counts numbered resumes updates =
    let xss : List (List (Item ℕ)) = all_items [] nodes in
    let ls : List Level = map (level_of paths) units in
    let read : IsRead s lent paths xss u.at (header_of u.header) u.files node.links.items node.count u.cursor =
    subst (λ (n : ℕ). IsRead s lent paths xss u.at (header_of u.header) u.files node.links.items n u.cursor) (sym (counts ∙ says.3))
    (subst (λ (links : List Link). IsRead s lent paths xss u.at (header_of u.header) u.files links u.count u.cursor) (sym (linked ∙ says.2)) st.are_open.0) in
    let splice : Splice s lent u.at (named paths (items_of xss node.links.items)) = upto_all s lent u.at (reader_of paths u) u.cursor v.cursor (named paths (items_of xss node.links.items)) read.read says.0 in
    let there_so : items_at (all_items [] (nodes ++ node ∷ [])) id.index ≡ items_of xss node.links.items = items_there nodes node id.index numbered in
    let splice_so : Splice s lent u.at (named paths (items_at (all_items [] (nodes ++ node ∷ [])) id.index)) = subst (λ (xs : List (Item ℕ)). Splice s lent u.at (named paths xs)) (sym there_so) splice in
    let within : id.index < length (all_items [] (nodes ++ node ∷ [])) = omega (arith, nodes_long (nodes ++ node ∷ []), length-append nodes (node ∷ []), numbered) in
    let all_counted : (i : ℕ) → count_at (nodes ++ node ∷ []) i ≡ together 0 (length (items_at (all_items [] (nodes ++ node ∷ [])) i)) = λ i. counted_by nodes node i (placed i (length nodes)) st.counted read.counted in
    let all_numbered : (i : ℕ) → AreNumbered (length paths) (items_at (all_items [] (nodes ++ node ∷ [])) i) = λ i. numbered_by (length paths) nodes node i (placed i (length nodes)) st.numbered read.numbered in
    let turn : turn_at s lent (reader_of paths u) u.open_files u.cursor ≡ Ok Ends = turn_by_read s lent (reader_of paths u) u.open_files u.cursor (Ok (None, v.cursor)) says.0 ∙ ends_by u.open_files u.cursor.at says.1 in
    record {
      ordered = ordered_more 0 nodes node st.ordered (subst (λ (n : ℕ). ImportBelow n node.links.items) (nodes_long nodes ∙ sym (zero-add (length nodes))) read.below);
      counted = all_counted;
      numbered = all_numbered;
      walked = u.at ∷ st.walked;
      known = λ q. subst (λ (us : List Level). IsKnown s lent paths (all_items [] (nodes ++ node ∷ [])) q (is_among q (u.at ∷ st.walked)) (is_among q (around us)) (get nat_cmp seen' q)) (sym (resumed_levels paths id node.count units units' resumes))
          (subst (λ (o : Option Visit). IsKnown s lent paths (all_items [] (nodes ++ node ∷ [])) q (is_among q (u.at ∷ st.walked)) (is_among q (around ls)) o) (sym (updates q))
          (subst (λ (n : ℕ). IsKnown s lent paths (all_items [] (nodes ++ node ∷ [])) q (is_among q (u.at ∷ st.walked)) (is_among q (around ls)) (cond (is_at (nat_cmp n) q) (Some (Done id)) (get nat_cmp seen q))) (sym same.0)
          (subst (λ (b : Bool). IsKnown s lent paths (all_items [] (nodes ++ node ∷ [])) q (is_among q (u.at ∷ st.walked)) (is_among q (around ls)) (cond b (Some (Done id)) (get nat_cmp seen q))) (sym (test_is u.at q))
          (known_ended s lent paths (all_items [] (nodes ++ node ∷ [])) q (is_among q st.walked) (is_among q (around ls)) (get nat_cmp seen q) id (eqb u.at q)
          (λ is. (within, subst (λ (n : ℕ). Splice s lent n (named paths (items_at (all_items [] (nodes ++ node ∷ [])) id.index))) (eqb-true u.at q is) splice_so))
          (known_behind s lent paths nodes node q (is_among q st.walked) (is_among q (u.at ∷ around ls)) (get nat_cmp seen q) (st.known q))))));
      left = λ answer rest. st.left answer (left_ends s lent (level_of paths u) ls st.walked answer turn (subst (λ (us : List Level). Left s lent us (u.at ∷ st.walked) answer) (resumed_levels paths id node.count units units' resumes) rest));
      are_open = resumed s lent paths nodes node root u.at id node.count units units' (waiting_behind s lent paths nodes node root u.at units st.are_open.1) resumes splice_so within (all_numbered id.index) (read.counted ∙ ap (λ (xs : List (Item ℕ)). together 0 (length xs)) (sym there_so)) (there_so ∙ sym (root_of_last nodes node));
    }
