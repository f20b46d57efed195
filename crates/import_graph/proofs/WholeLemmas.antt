-- A walk without a fault goes over units that stand for items.
use Rattle.std.proofs.Common.{◌≡◌, ℕ, ◌+◌, Bool, true, false, ◌||◌, cond, eqb, nat_lt, IsTrue, List, [], ◌∷◌, ◌++◌, length, Some, None, Result, Ok, Err, refl, ap, subst}
use Rattle.std.proofs.lemmas.Bool.{eqb-true}
use Rattle.mac_base.specs.Input.{Input}
use Rattle.mac_base.specs.SectionBytes.{SectionBytes}
use Rattle.mac_base.specs.Spelling.{Between}
use Rattle.mac_base.proofs.InputLemmas.{between_none, between_both}
use Rattle.info_roots.specs.declared.root.Root.{Root}
use Rattle.unit_header.specs.declared.fault.UnitKind.TheVariants.{ImportRange}
use Rattle.unit_header.proofs.HeaderLemmas.{header_takes}
use Rattle.macro_opcodes.specs.Entry.{Entry}
use Rattle.macro_opcodes.specs.Spells.{AreEntries}
use Rattle.macro_opcodes.specs.Reading.{entry_at}
use Rattle.macro_opcodes.proofs.EntryLemmas.{entry_takes}
use Rattle.macro_opcodes.proofs.UnitLemmas.{unit_spelled}
use Rattle.mac_base.specs.Items.{Item}
use Rattle.import_graph.specs.declared.fault.FileFault.{FileFault}
use Rattle.import_graph.specs.Faults.{fault_at}
use Rattle.import_graph.specs.Meaning.{Lent, Meaning, Plain, Imports, Nothing, meaning}
use Rattle.import_graph.specs.Units.{Reader, begun}
use Rattle.import_graph.specs.Splice.{Splice, Spliced, Unit as Whole, None as NoEntries, Own, Silent, Import, RootSplice}
use Rattle.import_graph.specs.Walk.{Ends, Passes, Enters, is_among, Walk, Finishes, Stops, Goes, Again, Cycle, Bars, Fails, Returns, RootWalk, NoTable, NoUnit, Walks, HasNoFault}
use Rattle.import_graph.proofs.SaidLemmas.{IsNoImport, said_of, begun_parts}

-- each of these units stands for items
abbrev AreSpliced : SectionBytes → Lent → List ℕ → Type 0
AreSpliced s lent units = (t : ℕ) → IsTrue (is_among t units) → (items : List (Item (List ℕ))) × Splice s lent t items

-- the rest of a unit is spelled to its closing 0, and stands for items
record RestSpliced (s : SectionBytes) (lent : Lent) (unit : Reader) (p : Input) : Type 0 where
  entries : List Entry
  bytes : List ℕ
  last : Input
  behind : Input
  items : List (Item (List ℕ))
  between : Between p last bytes
  are_entries : AreEntries unit.header p.at bytes entries
  closes : entry_at unit.header last ≡ Ok (None, behind)
  spliced : Spliced s lent unit.paths entries items

rest_none : (s : SectionBytes) (lent : Lent) (unit : Reader) (p r : Input) → entry_at unit.header p ≡ Ok (None, r) → RestSpliced s lent unit p
rest_none s lent unit p r is = record { entries = []; bytes = []; last = p; behind = r; items = []; between = between_none p; are_entries = refl; closes = is; spliced = NoEntries unit.paths }

rest_more : (s : SectionBytes) (lent : Lent) (unit : Reader) (p q : Input) (e : Entry) → entry_at unit.header p ≡ Ok (Some e, q) → (more : RestSpliced s lent unit q) → (items : List (Item (List ℕ))) → Spliced s lent unit.paths (e ∷ more.entries) items → RestSpliced s lent unit p
rest_more s lent unit p q e is more items spliced =
    let found = entry_takes unit.header p q e is in
    let place : q.at ≡ p.at + length found.0 = ap (λ (z : Input). z.at) found.1.place in
    record {
      entries = e ∷ more.entries;
      bytes = found.0 ++ more.bytes;
      last = more.last;
      behind = more.behind;
      items = items;
      between = between_both p q more.last found.0 more.bytes found.1 more.between;
      are_entries = (found.0, more.bytes, refl, found.3, found.2, subst (λ (n : ℕ). AreEntries unit.header n more.bytes more.entries) place more.are_entries);
      closes = more.closes;
      spliced = spliced;
    }

rest_passed : (s : SectionBytes) (lent : Lent) (unit : Reader) (p q : Input) (e : Entry) (m : Meaning) → entry_at unit.header p ≡ Ok (Some e, q) → meaning s lent unit.paths e ≡ Ok m → IsNoImport m → RestSpliced s lent unit q → RestSpliced s lent unit p
rest_passed s lent unit p q e (Plain item) is says plain more = rest_more s lent unit p q e is more (item ∷ more.items) (Own unit.paths e more.entries item more.items says more.spliced)
rest_passed s lent unit p q e (Imports target) is says plain more = absurd plain
rest_passed s lent unit p q e Nothing is says plain more = rest_more s lent unit p q e is more more.items (Silent unit.paths e more.entries more.items says more.spliced)

rest_imported : (s : SectionBytes) (lent : Lent) (unit : Reader) (p q : Input) (e : Entry) (target : ℕ) (front : List (Item (List ℕ))) → entry_at unit.header p ≡ Ok (Some e, q) → meaning s lent unit.paths e ≡ Ok (Imports target) → Splice s lent target front → RestSpliced s lent unit q → RestSpliced s lent unit p
rest_imported s lent unit p q e target front is says splice more = rest_more s lent unit p q e is more (front ++ more.items) (Import unit.paths e more.entries target front more.items says splice more.spliced)

-- a unit that began, whose entries stand for items, stands for them
unit_whole : (s : SectionBytes) (lent : Lent) (at : ℕ) (unit : Reader) (start : Input) → begun s lent at ≡ Ok (unit, start) → (r : RestSpliced s lent unit start) → Splice s lent at r.items
unit_whole s lent at unit start is r =
    let parts = begun_parts s lent at unit start is in
    let found = header_takes (record { bytes = s.macros; at = at }) start unit.header parts.0 in
    Whole at unit.header r.entries r.behind.at unit.paths r.items (unit_spelled s.macros at unit.header start r.last r.behind found.0 r.bytes r.entries found.1 found.2 r.between r.are_entries r.closes) parts.1 r.spliced

spliced_more : (s : SectionBytes) (lent : Lent) (target t : ℕ) (units : List ℕ) (items : List (Item (List ℕ))) (b : Bool) → eqb target t ≡ b → Splice s lent target items → AreSpliced s lent units → IsTrue (b || is_among t units) → (found : List (Item (List ℕ))) × Splice s lent t found
spliced_more s lent target t units items true same splice are there = (items, subst (λ (n : ℕ). Splice s lent n items) (eqb-true target t same) splice)
spliced_more s lent target t units items false same splice are there = are t there

are_more : (s : SectionBytes) (lent : Lent) (target : ℕ) (units : List ℕ) (items : List (Item (List ℕ))) → Splice s lent target items → AreSpliced s lent units → AreSpliced s lent (target ∷ units)
are_more s lent target units items splice are = λ t there. spliced_more s lent target t units items (eqb target t) refl splice are there

pub err_is_no_ok : (fault : FileFault) (more : List ℕ) → ◌≡◌ {A = Result (List ℕ) FileFault} (Err fault) (Ok more) → ⊥
err_is_no_ok fault more is = cc

walk_spliced : (s : SectionBytes) (lent : Lent) (unit : Reader) (around walked : List ℕ) (files : ℕ) (p : Input) (answer : Result (List ℕ) FileFault) (more : List ℕ) → Walk s lent unit around walked files p answer → answer ≡ Ok more → AreSpliced s lent walked →
    AreSpliced s lent more × RestSpliced s lent unit p
walk_spliced s lent _ _ _ _ _ _ more (Finishes unit around walked files p is) same are =
    let found = said_of s lent unit files p Ends is in
    let alike : walked ≡ more = cc in
    (subst (λ (us : List ℕ). AreSpliced s lent us) alike are, rest_none s lent unit p found.0 found.1)
walk_spliced s lent _ _ _ _ _ _ more (Stops unit around walked files p fault is) same are = absurd (err_is_no_ok fault more same)
walk_spliced s lent _ _ _ _ _ _ more (Goes unit around walked files open_files p q answer is walk) same are =
    let found = said_of s lent unit files p (Passes open_files q) is in
    let later = walk_spliced s lent unit around walked open_files q answer more walk same are in
    (later.0, rest_passed s lent unit p q found.0 found.2 found.1 found.3 found.4 later.1)
walk_spliced s lent _ _ _ _ _ _ more (Again unit around walked files at target p q answer is there walk) same are =
    let found = said_of s lent unit files p (Enters at target q) is in
    let later = walk_spliced s lent unit around walked files q answer more walk same are in
    let front = are target there in
    (later.0, rest_imported s lent unit p q found.0 target front.0 found.1 found.2 front.1 later.1)
walk_spliced s lent _ _ _ _ _ _ more (Cycle unit around walked files at target p q is new closed) same are = absurd (err_is_no_ok _ more same)
walk_spliced s lent _ _ _ _ _ _ more (Bars unit around walked files at target p q fault is new closed fails) same are = absurd (err_is_no_ok fault more same)
walk_spliced s lent _ _ _ _ _ _ more (Fails unit around walked files at target p q other start fault is new closed begins walk) same are = absurd (err_is_no_ok fault more same)
walk_spliced s lent _ _ _ _ _ _ more (Returns unit around walked files at target p q other start inner answer is new closed begins walk on) same are =
    let found = said_of s lent unit files p (Enters at target q) is in
    let inside = walk_spliced s lent other (target ∷ around) walked 0 start (Ok inner) inner walk refl are in
    let splice = unit_whole s lent target other start begins inside.1 in
    let later = walk_spliced s lent unit around (target ∷ inner) files q answer more on same (are_more s lent target inner inside.1.items splice inside.0) in
    (later.0, rest_imported s lent unit p q found.0 target inside.1.items found.1 found.2 splice later.1)

inside_begun : (b : Bool) (start : Reader × Input) (other : Result (Reader × Input) FileFault) (fault : FileFault) → cond b other (Err fault) ≡ Ok start → other ≡ Ok start
inside_begun true start other fault is = is
inside_begun false start other fault is = cc

none_among : (t : ℕ) → IsTrue (is_among t []) → ⊥
none_among t there = let clash : false ≡ true = there in cc

root_spliced_by : (s : SectionBytes) (root : Root) (answer : Result (List ℕ) FileFault) (more : List ℕ) → RootWalk s root answer → answer ≡ Ok more → (items : List (Item (List ℕ))) × RootSplice s root items
root_spliced_by s root _ more (NoTable fault is) same = absurd (err_is_no_ok fault more same)
root_spliced_by s root _ more (NoUnit lent fault lends is) same = absurd (err_is_no_ok fault more same)
root_spliced_by s root _ more (Walks lent unit start answer lends is walk) same =
    let whole = walk_spliced s lent unit (root.macros ∷ []) [] 0 start answer more walk same (λ t there. absurd (none_among t there)) in
    let begins = inside_begun (nat_lt root.macros (length s.macros)) (unit, start) (begun s lent root.macros) (fault_at root.macros ImportRange) is in
    (whole.1.items, (lent, lends, unit_whole s lent root.macros unit start begins whole.1))

-- a root whose walk has no fault stands for items
pub root_spliced : (s : SectionBytes) (root : Root) → HasNoFault s root → (items : List (Item (List ℕ))) × RootSplice s root items
root_spliced s root none = root_spliced_by s root (Ok none.0) none.0 none.1 refl
