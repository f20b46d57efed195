-- The turns that a loop over what is left takes, of which each unit that is left takes one, and each import that is entered.
use Rattle.std.proofs.Common.{◌≡◌, ℕ, ◌+◌, ◌<◌, List, [], ◌∷◌, ◌++◌, slice_get, unwrap_or, Option, Some, None, refl, ap, subst, ◌∙◌, arith}
use Rattle.std.specs.Option.{option_map}
use Rattle.import_graph.specs.declared.node.Link.{Link}
use Rattle.import_graph.specs.declared.node.Link.TheVariants.{Own, Import}
use Rattle.import_graph.specs.declared.node.Node.{Node}
use Rattle.import_graph.specs.declared.node.NodeId.{NodeId}
use Rattle.import_graph.specs.declared.rest.Place.{Place}
use Rattle.import_graph.specs.declared.rest.Rest.{Rest}
use Rattle.import_graph.specs.Nodes.{AreOrdered}
use Rattle.import_graph.specs.Rest.{links_in, links_from}
use Rattle.import_graph.proofs.MadeLemmas.{all_of, all_of-at, IsLocal, slice_get-append_left}

-- a unit's turns, by those of the units before it
abbrev pub steps_of : List ℕ → List Link → ℕ
steps_of before [] = 1
steps_of before (Own spliced ∷ links) = 1 + steps_of before links
steps_of before (Import id ∷ links) = 1 + unwrap_or (slice_get before id.index) 1 + steps_of before links

abbrev pub all_steps : List Node → List ℕ
all_steps nodes = all_of steps_of [] nodes

abbrev pub place_steps : List Node → Place → ℕ
place_steps nodes place = steps_of (all_steps nodes) (links_from nodes place)

abbrev pub outer_steps : List Node → List Place → ℕ
outer_steps nodes [] = 0
outer_steps nodes (place ∷ outer) = outer_steps nodes outer + place_steps nodes place

abbrev pub rest_steps : List Node → Rest → ℕ
rest_steps nodes units = place_steps nodes units.here + outer_steps nodes units.outer.items

outer_steps-push : (nodes : List Node) (outer : List Place) (place : Place) → outer_steps nodes (outer ++ place ∷ []) ≡ place_steps nodes place + outer_steps nodes outer
outer_steps-push nodes [] place = omega arith
outer_steps-push nodes (p ∷ outer) place = omega (arith, outer_steps-push nodes outer place)

steps_of-local : IsLocal steps_of
steps_of-local before more [] below = refl
steps_of-local before more (Own spliced ∷ links) below = ap (λ (n : ℕ). 1 + n) (steps_of-local before more links below)
steps_of-local before more (Import id ∷ links) below =
    ap (λ (n : ℕ). 1 + unwrap_or (slice_get (before ++ more) id.index) 1 + n) (steps_of-local before more links below.1)
    ∙ ap (λ (o : Option ℕ). 1 + unwrap_or o 1 + steps_of before links) (slice_get-append_left before more id.index below.0)

entered : (all : List ℕ) (o : Option Node) → unwrap_or (option_map (λ (node : Node). steps_of all node.links.items) o) 1 ≡ steps_of all (links_in o)
entered all None = refl
entered all (Some node) = refl

-- the turns that the links of a node take
node_steps : (nodes : List Node) (i : ℕ) → AreOrdered 0 nodes → unwrap_or (slice_get (all_steps nodes) i) 1 ≡ steps_of (all_steps nodes) (links_in (slice_get nodes i))
node_steps nodes i ordered =
    let here : slice_get (all_steps nodes) (0 + i) ≡ option_map (λ (node : Node). steps_of (all_steps nodes) node.links.items) (slice_get nodes i) = all_of-at steps_of steps_of-local [] nodes i ordered in
    let zero_add : 0 + i ≡ i = omega arith in
    let found = subst (λ n. slice_get (all_steps nodes) n ≡ option_map (λ (node : Node). steps_of (all_steps nodes) node.links.items) (slice_get nodes i)) zero_add here in
    ap (λ (o : Option ℕ). unwrap_or o 1) found ∙ entered (all_steps nodes) (slice_get nodes i)

-- an imported unit is entered
pub enters_nearer : (nodes : List Node) (here next inner : Place) (outer : List Place) (id : NodeId) → AreOrdered 0 nodes → links_from nodes here ≡ Import id ∷ links_from nodes next → inner ≡ record { node = id; next = 0 } →
    place_steps nodes inner + outer_steps nodes (outer ++ next ∷ []) < place_steps nodes here + outer_steps nodes outer
enters_nearer nodes here next inner outer id ordered is first =
    let now : place_steps nodes here ≡ 1 + unwrap_or (slice_get (all_steps nodes) id.index) 1 + place_steps nodes next = ap (steps_of (all_steps nodes)) is in
    let then : place_steps nodes inner ≡ steps_of (all_steps nodes) (links_in (slice_get nodes id.index)) = ap (place_steps nodes) first in
    omega (arith, now, then, node_steps nodes id.index ordered, outer_steps-push nodes outer next)

-- a unit that has nothing left is left
pub leaves_nearer : (nodes : List Node) (here around : Place) (outer less : List Place) → links_from nodes here ≡ [] → outer ≡ less ++ around ∷ [] →
    place_steps nodes around + outer_steps nodes less < place_steps nodes here + outer_steps nodes outer
leaves_nearer nodes here around outer less is pops =
    let now : place_steps nodes here ≡ 1 = ap (steps_of (all_steps nodes)) is in
    let all : outer_steps nodes outer ≡ outer_steps nodes (less ++ around ∷ []) = ap (outer_steps nodes) pops in
    omega (arith, now, all, outer_steps-push nodes less around)
