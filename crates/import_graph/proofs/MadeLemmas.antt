-- What is made of a node depends only on the nodes before it.
use Rattle.std.proofs.Common.{◌≡◌, ℕ, zero, suc, ◌+◌, ◌<◌, List, [], ◌∷◌, ◌++◌, length, slice_get, unwrap_or, Option, Some, None, refl, ap, sym, subst, ◌∙◌, arith, append_assoc, append-nil, length-append, add-zero}
use Rattle.std.proofs.lemmas.Option.{slice_get_past}
use Rattle.std.specs.Option.{option_map}
use Rattle.mac_base.specs.Items.{Item}
use Rattle.import_graph.specs.declared.node.Link.{Link}
use Rattle.import_graph.specs.declared.node.Link.TheVariants.{Own, Import}
use Rattle.import_graph.specs.declared.node.Node.{Node}
use Rattle.import_graph.specs.Nodes.{link_items, items_of, all_items, ImportBelow, AreOrdered}
use Rattle.import_graph.specs.Rest.{links_in}

-- ---- places of a list

pub slice_get-append_left : {X : Type 0} (xs ys : List X) (i : ℕ) → i < length xs → slice_get (xs ++ ys) i ≡ slice_get xs i
slice_get-append_left [] ys i h = absurd (omega arith)
slice_get-append_left (x ∷ xs) ys zero h = refl
slice_get-append_left (x ∷ xs) ys (suc i) h = slice_get-append_left xs ys i (omega arith)

pub slice_get-append_seam : {X : Type 0} (xs : List X) (y : X) (ys : List X) → slice_get (xs ++ y ∷ ys) (length xs) ≡ Some y
slice_get-append_seam [] y ys = refl
slice_get-append_seam (x ∷ xs) y ys = slice_get-append_seam xs y ys

-- ---- what is made of each node by a function of what is made of those before it, and of its links

pub all_of : {X : Type 0} → (List X → List Link → X) → List X → List Node → List X
all_of f before [] = before
all_of f before (node ∷ nodes) = all_of f (before ++ f before node.links.items ∷ []) nodes

-- of what is made of others, only that of imported nodes counts
abbrev pub IsLocal : {X : Type 0} → (List X → List Link → X) → Type 0
IsLocal {X} f = (before more : List X) (links : List Link) → ImportBelow (length before) links → f (before ++ more) links ≡ f before links

pub all_of-grows : {X : Type 0} (f : List X → List Link → X) (before : List X) (nodes : List Node) → (more : List X) × (all_of f before nodes ≡ before ++ more)
unfolding all_of
all_of-grows f before [] = ([], sym (append-nil before))
all_of-grows f before (node ∷ nodes) =
    let one = f before node.links.items in let rest = all_of-grows f (before ++ one ∷ []) nodes in
    (one ∷ rest.0, rest.1 ∙ append_assoc before (one ∷ []) rest.0)

seam : {X : Type 0} (all before : List X) (more : List X) (x : X) → all ≡ before ++ x ∷ more → slice_get all (length before) ≡ Some x
seam {X} all before more x is = ap (λ (xs : List X). slice_get xs (length before)) is ∙ slice_get-append_seam before x more

-- each node's is made with all that are made in the end
pub all_of-at : {X : Type 0} (f : List X → List Link → X) → IsLocal f → (before : List X) (nodes : List Node) (i : ℕ) → AreOrdered (length before) nodes →
    slice_get (all_of f before nodes) (length before + i) ≡ option_map (λ node. f (all_of f before nodes) node.links.items) (slice_get nodes i)
unfolding all_of
all_of-at f local before [] i ordered = slice_get_past before (length before + i) (omega arith)
all_of-at {X} f local before (node ∷ nodes) zero ordered =
    let one = f before node.links.items in let all = all_of f (before ++ one ∷ []) nodes in
    let grows = all_of-grows f (before ++ one ∷ []) nodes in
    let is : all ≡ before ++ (one ∷ grows.0) = grows.1 ∙ append_assoc before (one ∷ []) grows.0 in
    let made : f all node.links.items ≡ one = ap (λ (xs : List X). f xs node.links.items) is ∙ local before (one ∷ grows.0) node.links.items ordered.0 in
    rw add-zero (seam all before grows.0 one is ∙ ap (λ (x : X). Some x) (sym made))
all_of-at {X} f local before (node ∷ nodes) (suc i) ordered =
    let one = f before node.links.items in let next = before ++ one ∷ [] in
    let longer : length next ≡ length before + 1 = length-append before (one ∷ []) in
    let place : length before + suc i ≡ length next + i = omega (arith, longer) in
    ap (λ n. slice_get (all_of f next nodes) n) place ∙ all_of-at f local next nodes i (subst (λ n. AreOrdered n nodes) (sym longer) ordered.1)

-- ---- what nodes stand for

link_local : (before more : List (List (Item ℕ))) (i : ℕ) → i < length before → unwrap_or (slice_get (before ++ more) i) [] ≡ unwrap_or (slice_get before i) []
link_local before more i within = ap (λ (o : Option (List (Item ℕ))). unwrap_or o []) (slice_get-append_left before more i within)

pub items_of-local : IsLocal items_of
items_of-local before more [] below = refl
items_of-local before more (Own spliced ∷ links) below = ap (λ (items : List (Item ℕ)). link_items before (Own spliced) ++ items) (items_of-local before more links below)
items_of-local before more (Import id ∷ links) below =
    ap (λ (items : List (Item ℕ)). link_items (before ++ more) (Import id) ++ items) (items_of-local before more links below.1)
    ∙ ap (λ (items : List (Item ℕ)). items ++ items_of before links) (link_local before more id.index below.0)

pub all_items-is : (before : List (List (Item ℕ))) (nodes : List Node) → all_items before nodes ≡ all_of items_of before nodes
unfolding all_of
all_items-is before [] = refl
all_items-is before (node ∷ nodes) = all_items-is (before ++ items_of before node.links.items ∷ []) nodes

opened : (all : List (List (Item ℕ))) (o : Option Node) → unwrap_or (option_map (λ (node : Node). items_of all node.links.items) o) [] ≡ items_of all (links_in o)
opened all None = refl
opened all (Some node) = refl

-- what a node stands for is what its links do
pub node_items : (nodes : List Node) (i : ℕ) → AreOrdered 0 nodes → unwrap_or (slice_get (all_items [] nodes) i) [] ≡ items_of (all_items [] nodes) (links_in (slice_get nodes i))
node_items nodes i ordered =
    let all = all_items [] nodes in
    let is : all ≡ all_of items_of [] nodes = all_items-is [] nodes in
    let here : slice_get (all_of items_of [] nodes) (0 + i) ≡ option_map (λ (node : Node). items_of (all_of items_of [] nodes) node.links.items) (slice_get nodes i) = all_of-at items_of items_of-local [] nodes i ordered in
    let zero_add : 0 + i ≡ i = omega arith in
    let found : slice_get all i ≡ option_map (λ (node : Node). items_of all node.links.items) (slice_get nodes i) =
    subst (λ (xs : List (List (Item ℕ))). slice_get xs i ≡ option_map (λ (node : Node). items_of xs node.links.items) (slice_get nodes i)) (sym is) (subst (λ n. slice_get (all_of items_of [] nodes) n ≡ option_map (λ (node : Node). items_of (all_of items_of [] nodes) node.links.items) (slice_get nodes i)) zero_add here) in
    ap (λ (o : Option (List (Item ℕ))). unwrap_or o []) found ∙ opened all (slice_get nodes i)
