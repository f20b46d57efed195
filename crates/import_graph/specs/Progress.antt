-- How far the walk of a root's units is: what its units stand for so far, and what is left to walk.
use Rattle.std.specs.Prelude.{◌≡◌, ◌⊎◌, ℕ, zero, suc, ◌+◌, ◌-◌, ◌*◌, ◌<◌, ◌==◌, cond, IsTrue, IsFalse, Bool, if◌then◌else◌, List, [], ◌∷◌, ◌++◌, length, map, reverse, is_some, Option, Some, None, Result, Ok, Err}
use Rattle.std.specs.List.{sum_by}
use Rattle.std.specs.Ordering.{nat_cmp}
use Rattle.std.specs.BTreeMap.{BTreeMap, get, is_at}
use Rattle.mac_base.specs.Input.{Input, rest}
use Rattle.mac_base.specs.Spelling.{Between}
use Rattle.mac_base.specs.SectionBytes.{SectionBytes}
use Rattle.info_roots.specs.declared.root.Root.{Root}
use Rattle.unit_header.specs.Header.{Header, header_of}
use Rattle.unit_header.specs.Spelling.{IsHeader}
use Rattle.unit_header.specs.Reading.{header_at}
use Rattle.macro_opcodes.specs.Entry.{Entry}
use Rattle.macro_opcodes.specs.Spells.{AreEntries}
use Rattle.macro_opcodes.specs.Reading.{entry_at}
use Rattle.mac_base.specs.Items.{Item}
use Rattle.import_graph.specs.declared.fault.FileFault.{FileFault}
use Rattle.import_graph.specs.declared.fault.FileFault.TheVariants.{NoMemory as RanOut}
use Rattle.import_graph.specs.declared.meaning.FileRange.{FileRange}
use Rattle.import_graph.specs.declared.node.Link.{Link}
use Rattle.import_graph.specs.declared.node.Link.TheVariants.{Import}
use Rattle.import_graph.specs.declared.node.Node.{Node}
use Rattle.import_graph.specs.declared.node.NodeId.{NodeId}
use Rattle.import_graph.specs.declared.unit.OpenUnit.{OpenUnit}
use Rattle.import_graph.specs.declared.unit.Turn.{Turn as HeldTurn}
use Rattle.import_graph.specs.declared.walk.Visit.{Visit}
use Rattle.import_graph.specs.declared.walk.Visit.TheVariants.{Open, Done}
use Rattle.import_graph.specs.declared.walk.Walk.{Walk as HeldWalk}
use Rattle.import_graph.specs.Meaning.{Lent, Imports, meaning}
use Rattle.import_graph.specs.Numbers.{IsLookup, Fits, paths_of}
use Rattle.import_graph.specs.Tables.{IsLent}
use Rattle.import_graph.specs.Units.{Reader, unit_paths, begun, lent_by}
use Rattle.import_graph.specs.Walk.{Walk, is_among, HasNoFault}
use Rattle.import_graph.specs.Splice.{Splice, Spliced}
use Rattle.import_graph.specs.Nodes.{items_at, count_at, items_of, all_items, root_items, ImportBelow, AreOrdered, AreNumbered}
use Rattle.import_graph.specs.Graph.{named}
use Rattle.import_graph.specs.Turns.{together, reader_of, IsSameUnit, TurnSays}

-- a unit that is being walked: where it begins, how its entries are read, how many of its files are open, and where its next entry is
pub record Level : Type 0 where
  pub at : ℕ
  pub unit : Reader
  pub files : ℕ
  pub place : Input

-- the offsets of these units
abbrev pub around : List Level → List ℕ
around levels = map (λ (l : Level). l.at) levels

-- a unit that was walked to this answer leaves the rest, or the fault
abbrev pub After : (List ℕ → Type 0) → ℕ → Result (List ℕ) FileFault → Result (List ℕ) FileFault → Type 0
After rest at answer (Ok more) = rest (at ∷ more)
After rest at answer (Err fault) = answer ≡ Err fault

-- what is left of the walk, with these units open, the innermost first, and these walked whole, comes to this answer
abbrev pub Left : SectionBytes → Lent → List Level → List ℕ → Result (List ℕ) FileFault → Type 0
Left s lent [] walked answer = answer ≡ Ok walked
Left s lent (l ∷ levels) walked answer =
    (inner : Result (List ℕ) FileFault) × Walk s lent l.unit (l.at ∷ around levels) walked l.files l.place inner × After (λ more. Left s lent levels more answer) l.at answer inner

-- the walk of the root's unit, at this offset, comes to this answer
abbrev pub Comes : SectionBytes → Lent → ℕ → Result (List ℕ) FileFault → Type 0
Comes s lent root answer =
    (unit : Reader) × (start : Input) × (begun s lent root ≡ Ok (unit, start)) × Left s lent (record { at = root; unit = unit; files = 0; place = start } ∷ []) [] answer

-- a unit that is open
abbrev pub level_of : List (List ℕ) → OpenUnit → Level
level_of paths u = record { at = u.at; unit = reader_of paths u; files = u.open_files; place = u.cursor }

-- these entries stand for these items, whatever follows them
abbrev pub Begins : SectionBytes → Lent → Option (List (List ℕ)) → List Entry → List (Item (List ℕ)) → Type 0
Begins s lent paths entries items = (es : List Entry) (back : List (Item (List ℕ))) → Spliced s lent paths es back → Spliced s lent paths (entries ++ es) (items ++ back)

-- the header of a unit and its entries up to a place, which stand for these items
pub record ReadUpTo (s : SectionBytes) (lent : Lent) (at : ℕ) (unit : Reader) (place : Input) (items : List (Item (List ℕ))) : Type 0 where
  pub start : Input
  pub front : List ℕ
  pub body : List ℕ
  pub entries : List Entry
  pub header : Between (record { bytes = s.macros; at = at }) start front
  pub is_header : IsHeader front unit.header
  pub passed : Between start place body
  pub are_entries : AreEntries unit.header start.at body entries
  pub has_paths : unit_paths s lent at unit.header.line ≡ Ok unit.paths
  pub begins : Begins s lent unit.paths entries items

-- what the links of a unit stand for is what was read of it up to a place
pub record IsRead (s : SectionBytes) (lent : Lent) (paths : List (List ℕ)) (before : List (List (Item ℕ))) (at : ℕ) (h : Header) (files : Option FileRange) (links : List Link) (count : ℕ) (place : Input) : Type 0 where
  pub read : ReadUpTo s lent at (record { header = h; paths = paths_of paths files }) place (named paths (items_of before links))
  pub fits : Fits paths files
  pub below : ImportBelow (length before) links
  pub numbered : AreNumbered (length paths) (items_of before links)
  pub counted : count ≡ together 0 (length (items_of before links))

-- the same of an open unit
abbrev pub IsReadOf : SectionBytes → Lent → List (List ℕ) → List (List (Item ℕ)) → OpenUnit → Input → Type 0
IsReadOf s lent paths before u place = IsRead s lent paths before u.at (header_of u.header) u.files u.links.items u.count place

-- the last entry that was read of a unit is an import of the unit at the target, which is being walked
abbrev pub Waits : SectionBytes → Lent → List (List ℕ) → List (List (Item ℕ)) → OpenUnit → ℕ → Type 0
Waits s lent paths before u target =
    (p : Input) × (e : Entry) × IsReadOf s lent paths before u p × (entry_at (header_of u.header) p ≡ Ok (Some e, u.cursor)) × (meaning s lent (paths_of paths u.files) e ≡ Ok (Imports target))

-- these units, the innermost first, wait for the unit at an offset; where there are none, it is the root's
abbrev pub AreWaiting : SectionBytes → Lent → List (List ℕ) → List (List (Item ℕ)) → ℕ → ℕ → List OpenUnit → Type 0
AreWaiting s lent paths before root at [] = at ≡ root
AreWaiting s lent paths before root at (u ∷ us) = Waits s lent paths before u at × AreWaiting s lent paths before root u.at us

-- what was read of the open units, the innermost first; where there are none, the last node is the root's unit
abbrev pub AreOpen : SectionBytes → Lent → List (List ℕ) → List Node → ℕ → List OpenUnit → Type 0
AreOpen s lent paths nodes root [] = Splice s lent root (named paths (root_items nodes))
AreOpen s lent paths nodes root (u ∷ us) = IsReadOf s lent paths (all_items [] nodes) u u.cursor × AreWaiting s lent paths (all_items [] nodes) root u.at us

-- what is known of the unit at an offset, which is among those that were walked whole, or among those around, or among neither
abbrev pub IsKnown : SectionBytes → Lent → List (List ℕ) → List (List (Item ℕ)) → ℕ → Bool → Bool → Option Visit → Type 0
IsKnown s lent paths before at walked around None = IsFalse walked × IsFalse around
IsKnown s lent paths before at walked around (Some Open) = IsFalse walked × IsTrue around
IsKnown s lent paths before at walked around (Some (Done id)) = IsTrue walked × (id.index < length before) × Splice s lent at (named paths (items_at before id.index))

-- What holds between two turns of the walk of the root's unit: of the paths so far, the units that were entered, those that were read whole, and those that are open, the innermost first.
pub record Stands (s : SectionBytes) (lent : Lent) (root : ℕ) (paths : List (List ℕ)) (seen : BTreeMap ℕ Visit) (nodes : List Node) (units : List OpenUnit) : Type 0 where
  pub ordered : AreOrdered 0 nodes
  pub counted : (i : ℕ) → count_at nodes i ≡ together 0 (length (items_at (all_items [] nodes) i))
  pub numbered : (i : ℕ) → AreNumbered (length paths) (items_at (all_items [] nodes) i)
  pub walked : List ℕ
  pub known : (at : ℕ) → IsKnown s lent paths (all_items [] nodes) at (is_among at walked) (is_among at (around (map (level_of paths) units))) (get nat_cmp seen at)
  pub left : (answer : Result (List ℕ) FileFault) → Left s lent (map (level_of paths) units) walked answer → Comes s lent root answer
  pub are_open : AreOpen s lent paths nodes root units

-- the same of a walk in memory, with these units open
abbrev pub WalkStands : SectionBytes → Lent → ℕ → HeldWalk → List OpenUnit → Type 0
WalkStands s lent root w units = IsLookup w.lookup s lent × IsLent w.files w.root_files s lent × Stands s lent root w.files.paths w.seen w.nodes.items units

-- the fault is that of the walk, unless memory ran out
abbrev pub IsFaultFrom : SectionBytes → Lent → ℕ → FileFault → Type 0
IsFaultFrom s lent root fault = (fault ≡ RanOut) ⊎ Comes s lent root (Err fault)

-- a turn took the old unit to the new one
abbrev pub Turned : SectionBytes → Lent → OpenUnit → OpenUnit → Result HeldTurn FileFault → Type 0
Turned s lent old new r = IsSameUnit old new × ((paths : List (List ℕ)) → Fits paths old.files → TurnSays s lent paths old new r)

-- of the first n offsets, those at which no unit was entered
abbrev pub unseen : BTreeMap ℕ Visit → ℕ → ℕ
unseen seen zero = 0
unseen seen (suc n) = unseen seen n + (if is_some (get nat_cmp seen n) then 0 else 1)

-- the bytes behind the next entry of a unit, and one
abbrev pub left_in : OpenUnit → ℕ
left_in u = length (rest u.cursor) + 1

-- no fewer turns than a walk can still take in a section of n bytes
abbrev pub effort : ℕ → BTreeMap ℕ Visit → List OpenUnit → ℕ
effort n seen units = unseen seen n * (n + 2) + sum_by left_in units

-- of a walk in memory
abbrev pub effort_of : HeldWalk → ℕ
effort_of w = effort (length w.lookup.macros.now) w.seen w.open.items

-- what held before this turn of the innermost unit, which left it as unit, holds again
abbrev pub GoesOn : HeldWalk → HeldWalk → OpenUnit → HeldTurn → Type 0
GoesOn old new unit turn =
    (s : SectionBytes) (lent : Lent) (root : ℕ) (before : OpenUnit) → WalkStands s lent root old (before ∷ reverse old.open.items) → Turned s lent before unit (Ok turn) → WalkStands s lent root new (reverse new.open.items)

-- the walk stops with this fault behind such a turn
abbrev pub StopsBy : HeldWalk → OpenUnit → HeldTurn → FileFault → Type 0
StopsBy old unit turn fault =
    (s : SectionBytes) (lent : Lent) (root : ℕ) (before : OpenUnit) → WalkStands s lent root old (before ∷ reverse old.open.items) → Turned s lent before unit (Ok turn) → IsFaultFrom s lent root fault

-- the unit at an offset was begun
pub record IsBegun (s : SectionBytes) (lent : Lent) (at : ℕ) (paths : List (List ℕ)) (unit : OpenUnit) : Type 0 where
  pub header : header_at (record { bytes = s.macros; at = at }) ≡ Ok (header_of unit.header, unit.cursor)
  pub has_paths : unit_paths s lent at unit.header.line ≡ Ok (paths_of paths unit.files)
  pub begun_so : begun s lent at ≡ Ok (reader_of paths unit, unit.cursor)
  pub fits : Fits paths unit.files
  pub stands : unit.at ≡ at
  pub no_file : unit.open_files ≡ 0
  pub no_link : unit.links.items ≡ []
  pub no_count : unit.count ≡ 0

-- only paths were put behind the others, and the unit at an offset was entered
pub record Entered (old new : HeldWalk) (at : ℕ) : Type 0 where
  pub same_lookup : new.lookup ≡ old.lookup
  pub same_root : new.root_files ≡ old.root_files
  pub same_nodes : new.nodes.items ≡ old.nodes.items
  pub same_open : new.open.items ≡ old.open.items
  pub same_tables : new.files.tables ≡ old.files.tables
  pub more : List (List ℕ)
  pub grows : new.files.paths ≡ old.files.paths ++ more
  pub seen : (q : ℕ) → get nat_cmp new.seen q ≡ cond (is_at (nat_cmp at) q) (Some Open) (get nat_cmp old.seen q)

-- a unit took an imported one, of so many entries
pub record Imported (id : NodeId) (n : ℕ) (old new : OpenUnit) : Type 0 where
  pub links : new.links.items ≡ (if n == 0 then old.links.items else old.links.items ++ Import id ∷ [])
  pub count : new.count ≡ (if n == 0 then old.count else together old.count n)
  pub same : IsSameUnit old new
  pub place : new.cursor ≡ old.cursor
  pub files : new.open_files ≡ old.open_files

-- the innermost of these units, if there is one, took an imported one
abbrev pub Resumes : NodeId → ℕ → List OpenUnit → List OpenUnit → Type 0
Resumes id count [] new = new ≡ []
Resumes id count (u ∷ us) new = (v : OpenUnit) × (new ≡ v ∷ us) × Imported id count u v

-- what the walk of a root's unit has to give: the last node is the root's unit, which has no fault
pub record IsWalked (s : SectionBytes) (lent : Lent) (root : ℕ) (nodes : List Node) (paths : List (List ℕ)) : Type 0 where
  pub ordered : AreOrdered 0 nodes
  pub numbered : AreNumbered (length paths) (root_items nodes)
  pub counted : count_at nodes (length nodes - 1) ≡ together 0 (length (root_items nodes))
  pub splice : Splice s lent root (named paths (root_items nodes))
  pub walked : List ℕ
  pub comes : Comes s lent root (Ok walked)

-- the same of a whole root, whose own line table was read first
pub record RootWalked (s : SectionBytes) (root : Root) (nodes : List Node) (paths : List (List ℕ)) : Type 0 where
  pub lent : Lent
  pub lends : lent_by s root ≡ Ok lent
  pub no_fault : HasNoFault s root
  pub walked : IsWalked s lent root.macros nodes paths
