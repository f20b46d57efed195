-- A root has exactly one of a graph and a first fault.
use Rattle.std.proofs.Common.{◌≡◌, ◌⊎◌, inl, inr, ℕ, ◌<◌, ◌≤◌, Bool, true, false, nat_lt, List, [], ◌∷◌, ◌++◌, length, Result, Ok, Err, refl, ap, subst, sym, ◌∙◌, arith, length-append}
use borrow.Author.Tests.{ltb-true, ltb-false}
use Rattle.std.proofs.lemmas.List.{length-map}
use Rattle.mac_base.specs.SectionBytes.{SectionBytes}
use Rattle.info_roots.specs.declared.root.Root.{Root}
use Rattle.unit_header.specs.declared.fault.UnitKind.TheVariants.{TooManyEntries}
use Rattle.mac_base.specs.Items.{Item, Define, Undef, Start, End, renamed}
use Rattle.import_graph.specs.declared.fault.FileFault.{FileFault}
use Rattle.mac_base.specs.ItemLines.{path_in}
use Rattle.import_graph.specs.Faults.{fault_at}
use Rattle.import_graph.specs.Nodes.{AreNumbered}
use Rattle.import_graph.specs.Splice.{RootSplice}
use Rattle.import_graph.specs.Walk.{RootWalk, HasNoFault}
use Rattle.import_graph.proofs.NodeLemmas.{at_last, numbered_both, numbered_wider, named_kept}
use Rattle.import_graph.proofs.WholeLemmas.{root_spliced}
use Rattle.import_graph.proofs.DecidedLemmas.{root_answered}
use Rattle.import_graph.specs.Graph.{GraphValue, IsGraphOf, IsFirstFault, most_items, named}
use Rattle.import_graph.proofs.OneSpliceLemmas.{one_root_splice}
use Rattle.import_graph.proofs.OneWalkLemmas.{one_root_walk}

fault_or_none : (s : SectionBytes) (root : Root) (fault : FileFault) → RootWalk s root (Err fault) → HasNoFault s root → ⊥
fault_or_none s root fault walk none = let same : ◌≡◌ {A = Result (List ℕ) FileFault} (Err fault) (Ok none.0) = one_root_walk s root (Err fault) (Ok none.0) walk none.1 in cc

pub same_graphs : (s : SectionBytes) (root : Root) (one other : GraphValue) → IsGraphOf s root one → IsGraphOf s root other → named one.paths one.items ≡ named other.paths other.items
same_graphs s root one other first second = one_root_splice s root (named one.paths one.items) (named other.paths other.items) first.splice second.splice

pub same_faults : (s : SectionBytes) (root : Root) (one other : FileFault) → IsFirstFault s root one → IsFirstFault s root other → one ≡ other
same_faults s root one other (inl first) (inl second) = let same : ◌≡◌ {A = Result (List ℕ) FileFault} (Err one) (Err other) = one_root_walk s root (Err one) (Err other) first second in cc
same_faults s root one other (inl first) (inr second) = absurd (fault_or_none s root one first second.1.0)
same_faults s root one other (inr first) (inl second) = absurd (fault_or_none s root other second first.1.0)
same_faults s root one other (inr first) (inr second) = first.0 ∙ sym second.0

pub graph_or_fault : (s : SectionBytes) (root : Root) (graph : GraphValue) (fault : FileFault) → IsGraphOf s root graph → IsFirstFault s root fault → ⊥
graph_or_fault s root graph fault is (inl walk) = fault_or_none s root fault walk is.no_fault
graph_or_fault s root graph fault is (inr much) =
    let items = much.1.1 in
    let same = one_root_splice s root items (named graph.paths graph.items) much.1.2 is.splice in
    let long : length items ≡ length graph.items = ap length same ∙ length-map graph.items (renamed (path_in graph.paths)) in
    let many : most_items < length items = much.1.3 in
    let few : length graph.items ≤ most_items = is.within in
    omega (arith, long, many, few)

-- numbers for the paths of items
record Numbered (items : List (Item (List ℕ))) : Type 0 where
  paths : List (List ℕ)
  numbers : List (Item ℕ)
  are : AreNumbered (length paths) numbers
  same : named paths numbers ≡ items

one_more : (items : List (Item (List ℕ))) (item : Item (List ℕ)) (number : Item ℕ) → (found : Numbered items) → renamed (path_in found.paths) number ≡ item → AreNumbered (length found.paths) (number ∷ []) → Numbered (item ∷ items)
one_more items item number found is are = record {
  paths = found.paths;
  numbers = number ∷ found.numbers;
  are = numbered_both (length found.paths) (number ∷ []) found.numbers are found.are;
  same = λ i. is i ∷ found.same i;
}

start_more : (items : List (Item (List ℕ))) (line : ℕ) (path : List ℕ) → Numbered items → Numbered (Start line path ∷ items)
start_more items line path found =
    let wider : length found.paths < length (found.paths ++ path ∷ []) = omega (arith, length-append found.paths (path ∷ [])) in
    record {
      paths = found.paths ++ path ∷ [];
      numbers = Start line (length found.paths) ∷ found.numbers;
      are = (wider, numbered_wider (length found.paths) (length (found.paths ++ path ∷ [])) found.numbers found.are (omega (arith, wider)));
      same = λ i. Start line (at_last found.paths path (length found.paths) [] refl i) ∷ (named_kept found.paths (path ∷ []) found.numbers found.are ∙ found.same) i;
    }

number_all : (items : List (Item (List ℕ))) → Numbered items
number_all [] = record { paths = []; numbers = []; are = tt; same = refl }
number_all (Define line text ∷ items) = one_more items (Define line text) (Define line text) (number_all items) refl tt
number_all (Undef line name ∷ items) = one_more items (Undef line name) (Undef line name) (number_all items) refl tt
number_all (Start line path ∷ items) = start_more items line path (number_all items)
number_all (End ∷ items) = one_more items End End (number_all items) refl tt

-- a root has a graph, or a first fault
abbrev pub Answered : SectionBytes → Root → Type 0
Answered s root = ((graph : GraphValue) × IsGraphOf s root graph) ⊎ ((fault : FileFault) × IsFirstFault s root fault)

answered_by_count : (s : SectionBytes) (root : Root) (items : List (Item (List ℕ))) (b : Bool) → nat_lt most_items (length items) ≡ b → HasNoFault s root → RootSplice s root items → Answered s root
answered_by_count s root items true test none splice = inr (fault_at root.macros TooManyEntries, inr (refl, (none, items, splice, ltb-true most_items (length items) test)))
answered_by_count s root items false test none splice =
    let found = number_all items in
    let few : length items ≤ most_items = ltb-false most_items (length items) test in
    let long : length items ≡ length found.numbers = ap length (sym found.same) ∙ length-map found.numbers (renamed (path_in found.paths)) in
    inl (record { items = found.numbers; paths = found.paths }, record { splice = subst (λ (xs : List (Item (List ℕ))). RootSplice s root xs) (sym found.same) splice; no_fault = none; within = omega (arith, few, long) })

answered_by : (s : SectionBytes) (root : Root) (answer : Result (List ℕ) FileFault) → RootWalk s root answer → Answered s root
answered_by s root (Err fault) walk = inr (fault, inl walk)
answered_by s root (Ok walked) walk =
    let whole = root_spliced s root (walked, walk) in
    answered_by_count s root whole.0 (nat_lt most_items (length whole.0)) refl (walked, walk) whole.1

pub answered : (s : SectionBytes) (root : Root) → Answered s root
answered s root = let found = root_answered s root in answered_by s root found.0 found.1
