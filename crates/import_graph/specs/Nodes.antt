-- What units that were read whole stand for, where each imports only units that ended before it.
use Rattle.std.specs.Prelude.{ℕ, ◌+◌, ◌-◌, ◌<◌, List, [], ◌∷◌, ◌++◌, length, slice_get, unwrap_or}
use Rattle.std.specs.List.{flat_map}
use Rattle.std.specs.Option.{option_map}
use Rattle.mac_base.specs.Items.{Item, Define, Undef, Start, End}
use Rattle.import_graph.specs.declared.meaning.Meaning.{Meaning as HeldMeaning}
use Rattle.import_graph.specs.declared.meaning.Meaning.TheVariants.{Plain as HeldPlain, Imports as HeldImports, Nothing as HeldNothing}
use Rattle.import_graph.specs.declared.node.Link.{Link}
use Rattle.import_graph.specs.declared.node.Link.TheVariants.{Own, Import}
use Rattle.import_graph.specs.declared.node.Node.{Node}
use Rattle.import_graph.specs.Numbers.{item_of}

-- what the unit of a number stands for, among those before it
abbrev pub items_at : List (List (Item ℕ)) → ℕ → List (Item ℕ)
items_at before index = unwrap_or (slice_get before index) []

-- what a link stands for, by what the units before it do
abbrev pub link_items : List (List (Item ℕ)) → Link → List (Item ℕ)
link_items before (Own spliced) = item_of spliced ∷ []
link_items before (Import id) = items_at before id.index

-- what these links stand for
abbrev pub items_of : List (List (Item ℕ)) → List Link → List (Item ℕ)
items_of before links = flat_map (link_items before) links

-- what each of these nodes stands for, behind those before them
abbrev pub all_items : List (List (Item ℕ)) → List Node → List (List (Item ℕ))
all_items before [] = before
all_items before (node ∷ nodes) = all_items (before ++ items_of before node.links.items ∷ []) nodes

-- what the last of these nodes stands for, which is the root's unit
abbrev pub root_items : List Node → List (Item ℕ)
root_items nodes = items_at (all_items [] nodes) (length nodes - 1)

-- the count of the node of a number
abbrev pub count_at : List Node → ℕ → ℕ
count_at nodes index = unwrap_or (option_map (λ (node : Node). node.count) (slice_get nodes index)) 0

-- these links import only nodes with a number below n
abbrev pub ImportBelow : ℕ → List Link → Type 0
ImportBelow n [] = Unit {0}
ImportBelow n (Own spliced ∷ links) = ImportBelow n links
ImportBelow n (Import id ∷ links) = (id.index < n) × ImportBelow n links

-- these nodes, which are numbered from n on, import only nodes before themselves
abbrev pub AreOrdered : ℕ → List Node → Type 0
AreOrdered n [] = Unit {0}
AreOrdered n (node ∷ nodes) = ImportBelow n node.links.items × AreOrdered (n + 1) nodes

-- all files that begin have a number below n
abbrev pub AreNumbered : ℕ → List (Item ℕ) → Type 0
AreNumbered n [] = Unit {0}
AreNumbered n (Define line text ∷ items) = AreNumbered n items
AreNumbered n (Undef line name ∷ items) = AreNumbered n items
AreNumbered n (Start line file ∷ items) = (file < n) × AreNumbered n items
AreNumbered n (End ∷ items) = AreNumbered n items

-- the same of what an entry says
abbrev pub IsNumbered : ℕ → HeldMeaning → Type 0
IsNumbered n (HeldPlain spliced) = AreNumbered n (item_of spliced ∷ [])
IsNumbered n (HeldImports at) = Unit {0}
IsNumbered n HeldNothing = Unit {0}
