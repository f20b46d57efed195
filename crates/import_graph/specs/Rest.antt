-- What is left of units that are open.
use Rattle.std.specs.Prelude.{◌≡◌, ℕ, List, [], ◌∷◌, ◌++◌, drop, slice_get, Option, Some, None, Result, Ok, Err}
use Rattle.mac_base.specs.declared.memory.NoMemory.{NoMemory}
use Rattle.mac_base.specs.Items.{Item}
use Rattle.import_graph.specs.declared.node.Link.{Link}
use Rattle.import_graph.specs.declared.node.Node.{Node}
use Rattle.import_graph.specs.declared.rest.Place.{Place}
use Rattle.import_graph.specs.declared.rest.Rest.{Rest}
use Rattle.import_graph.specs.declared.spliced.Spliced.{Spliced}
use Rattle.import_graph.specs.Numbers.{item_of}
use Rattle.import_graph.specs.Nodes.{items_of, all_items}

-- the links of a node, if there is one
abbrev pub links_in : Option Node → List Link
links_in None = []
links_in (Some node) = node.links.items

-- the links from a place on
abbrev pub links_from : List Node → Place → List Link
links_from nodes place = drop place.next (links_in (slice_get nodes place.node.index))

-- what these places have left, of which the last comes first
abbrev pub outer_items : List Node → List Place → List (Item ℕ)
outer_items nodes [] = []
outer_items nodes (place ∷ outer) = outer_items nodes outer ++ items_of (all_items [] nodes) (links_from nodes place)

-- what the innermost unit has left, and then those around it
abbrev pub rest_items : List Node → Rest → List (Item ℕ)
rest_items nodes rest = items_of (all_items [] nodes) (links_from nodes rest.here) ++ outer_items nodes rest.outer.items

-- what a call answers that takes the next item off
abbrev pub TakesNext : List Node → Result (Option Spliced) NoMemory → Rest → Rest → Type 0
TakesNext nodes (Ok (Some spliced)) old new = rest_items nodes old ≡ item_of spliced ∷ rest_items nodes new
TakesNext nodes (Ok None) old new = (rest_items nodes old ≡ []) × (rest_items nodes new ≡ [])
TakesNext nodes (Err ran_out) old new = Unit {0}
