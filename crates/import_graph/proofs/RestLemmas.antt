-- How what is left changes where an entry is taken, a unit is entered, and a unit is left.
use Rattle.std.proofs.Common.{◌≡◌, ℕ, zero, suc, ◌+◌, List, [], ◌∷◌, ◌++◌, length, drop, slice_get, unwrap_or, Some, None, refl, ap, sym, ◌∙◌, arith, append_assoc, append-nil, add-one}
use Rattle.mac_base.specs.Items.{Item}
use Rattle.import_graph.specs.declared.node.Link.{Link}
use Rattle.import_graph.specs.declared.node.Link.TheVariants.{Own, Import}
use Rattle.import_graph.specs.declared.node.Node.{Node}
use Rattle.import_graph.specs.declared.node.NodeId.{NodeId}
use Rattle.import_graph.specs.declared.rest.Place.{Place}
use Rattle.import_graph.specs.declared.spliced.Spliced.{Spliced}
use Rattle.import_graph.specs.Numbers.{item_of}
use Rattle.import_graph.specs.declared.rest.Rest.{Rest}
use Rattle.import_graph.specs.Nodes.{link_items, items_of, all_items, AreOrdered}
use Rattle.import_graph.specs.Rest.{links_in, links_from, outer_items, rest_items}
use Rattle.import_graph.proofs.MadeLemmas.{node_items}

-- ---- the links from a place on

drop_here : (links : List Link) (n : ℕ) (link : Link) → slice_get links n ≡ Some link → drop n links ≡ link ∷ drop (n + 1) links
drop_here [] n link is = cc
drop_here (x ∷ links) zero link is = let same : x ≡ link = cc in ap (λ (l : Link). l ∷ links) same
drop_here (x ∷ links) (suc n) link is = rw add-one (drop_here links n link is ∙ ap (λ (m : ℕ). link ∷ drop m links) (add-one n))

drop_past : (links : List Link) (n : ℕ) → slice_get links n ≡ None → drop n links ≡ []
drop_past [] zero is = refl
drop_past [] (suc n) is = refl
drop_past (x ∷ links) zero is = cc
drop_past (x ∷ links) (suc n) is = drop_past links n is

pub at_link : (nodes : List Node) (place next : Place) (link : Link) → slice_get (links_in (slice_get nodes place.node.index)) place.next ≡ Some link →
    next ≡ record place { next = place.next + 1 } → links_from nodes place ≡ link ∷ links_from nodes next
at_link nodes place next link is moved = drop_here (links_in (slice_get nodes place.node.index)) place.next link is ∙ ap (λ (p : Place). link ∷ links_from nodes p) (sym moved)

pub at_end : (nodes : List Node) (place : Place) → slice_get (links_in (slice_get nodes place.node.index)) place.next ≡ None → links_from nodes place ≡ []
at_end nodes place is = drop_past (links_in (slice_get nodes place.node.index)) place.next is

-- ---- what is left

pub outer_items-push : (nodes : List Node) (outer : List Place) (place : Place) → outer_items nodes (outer ++ place ∷ []) ≡ items_of (all_items [] nodes) (links_from nodes place) ++ outer_items nodes outer
outer_items-push nodes [] place = sym (append-nil (items_of (all_items [] nodes) (links_from nodes place)))
outer_items-push nodes (p ∷ outer) place =
    ap (λ (items : List (Item ℕ)). items ++ items_of (all_items [] nodes) (links_from nodes p)) (outer_items-push nodes outer place)
    ∙ append_assoc (items_of (all_items [] nodes) (links_from nodes place)) (outer_items nodes outer) (items_of (all_items [] nodes) (links_from nodes p))

-- one unit, at its first link
pub begins : (nodes : List Node) (node : NodeId) (units : Rest) → AreOrdered 0 nodes → units.here ≡ record { node = node; next = 0 } → units.outer.items ≡ [] →
    rest_items nodes units ≡ unwrap_or (slice_get (all_items [] nodes) node.index) []
begins nodes node units ordered here outer =
    ap (λ (p : Place). items_of (all_items [] nodes) (links_from nodes p) ++ outer_items nodes units.outer.items) here
    ∙ ap (λ (ps : List Place). items_of (all_items [] nodes) (links_in (slice_get nodes node.index)) ++ outer_items nodes ps) outer
    ∙ append-nil (items_of (all_items [] nodes) (links_in (slice_get nodes node.index)))
    ∙ sym (node_items nodes node.index ordered)

-- an entry of its own is taken
pub takes_own : (nodes : List Node) (here next : Place) (outer : List Place) (spliced : Spliced) → links_from nodes here ≡ Own spliced ∷ links_from nodes next →
    items_of (all_items [] nodes) (links_from nodes here) ++ outer_items nodes outer ≡ item_of spliced ∷ (items_of (all_items [] nodes) (links_from nodes next) ++ outer_items nodes outer)
takes_own nodes here next outer spliced is = ap (λ (links : List Link). items_of (all_items [] nodes) links ++ outer_items nodes outer) is

-- an imported unit is entered
pub enters : (nodes : List Node) (here next inner : Place) (outer : List Place) (id : NodeId) → AreOrdered 0 nodes → links_from nodes here ≡ Import id ∷ links_from nodes next → inner ≡ record { node = id; next = 0 } →
    items_of (all_items [] nodes) (links_from nodes here) ++ outer_items nodes outer ≡ items_of (all_items [] nodes) (links_from nodes inner) ++ outer_items nodes (outer ++ next ∷ [])
enters nodes here next inner outer id ordered is first =
    let all = all_items [] nodes in
    let rest = items_of all (links_from nodes next) in
    ap (λ (links : List Link). items_of all links ++ outer_items nodes outer) is
    ∙ append_assoc (link_items all (Import id)) rest (outer_items nodes outer)
    ∙ ap (λ (items : List (Item ℕ)). items ++ (rest ++ outer_items nodes outer)) (node_items nodes id.index ordered)
    ∙ ap (λ (p : Place). items_of all (links_from nodes p) ++ (rest ++ outer_items nodes outer)) (sym first)
    ∙ ap (λ (items : List (Item ℕ)). items_of all (links_from nodes inner) ++ items) (sym (outer_items-push nodes outer next))

-- a unit that has nothing left is left
pub leaves : (nodes : List Node) (here around : Place) (outer less : List Place) → links_from nodes here ≡ [] → outer ≡ less ++ around ∷ [] →
    items_of (all_items [] nodes) (links_from nodes here) ++ outer_items nodes outer ≡ items_of (all_items [] nodes) (links_from nodes around) ++ outer_items nodes less
leaves nodes here around outer less is pops =
    ap (λ (links : List Link). items_of (all_items [] nodes) links ++ outer_items nodes outer) is
    ∙ ap (outer_items nodes) pops ∙ outer_items-push nodes less around

-- no unit has anything left
pub nothing_left : (nodes : List Node) (here : Place) (outer : List Place) → links_from nodes here ≡ [] → length outer ≡ 0 →
    items_of (all_items [] nodes) (links_from nodes here) ++ outer_items nodes outer ≡ []
nothing_left nodes here [] is none = ap (λ (links : List Link). items_of (all_items [] nodes) links ++ []) is
nothing_left nodes here (place ∷ outer) is none = absurd (omega arith)
