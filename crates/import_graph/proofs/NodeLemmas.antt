-- What nodes and links stand for while nodes, links and paths are put behind them.
use Rattle.std.proofs.Common.{◌≡◌, ℕ, ◌+◌, ◌-◌, ◌<◌, ◌≤◌, Bool, true, false, ltb, List, [], ◌∷◌, ◌++◌, length, map, slice_get, Option, unwrap_or, refl, ap, subst, sym, ◌∙◌, arith, length-append}
use borrow.Author.Tests.{ltb-true, ltb-false}
use Rattle.std.proofs.Math.Seq.{get_or-append_seam}
use Rattle.std.proofs.lemmas.List.{append-nil, get_or_append_left, get_or_past, map-append, length-map}
use Rattle.std.proofs.lemmas.List.Concat.{flat_map-append}
use Rattle.std.proofs.lemmas.Option.{unwrap_or-slice_get, slice_get-map}
use Rattle.mac_base.specs.Items.{Item, Define, Undef, Start, End, renamed}
use Rattle.import_graph.specs.declared.node.Link.{Link}
use Rattle.import_graph.specs.declared.node.Link.TheVariants.{Own, Import}
use Rattle.import_graph.specs.declared.node.Node.{Node}
use Rattle.import_graph.specs.Graph.{named}
use Rattle.import_graph.specs.Numbers.{item_of}
use Rattle.mac_base.specs.ItemLines.{path_in}
use Rattle.import_graph.specs.Nodes.{items_at, link_items, items_of, all_items, root_items, count_at, ImportBelow, AreOrdered, AreNumbered}

pub at_kept : {A : Type 0} (xs ys : List A) (i : ℕ) (d : A) → i < length xs → unwrap_or (slice_get (xs ++ ys) i) d ≡ unwrap_or (slice_get xs i) d
at_kept xs ys i d within = unwrap_or-slice_get (xs ++ ys) i d ∙ get_or_append_left xs ys d i within ∙ sym (unwrap_or-slice_get xs i d)

pub at_last : {A : Type 0} (xs : List A) (x : A) (i : ℕ) (d : A) → i ≡ length xs → unwrap_or (slice_get (xs ++ x ∷ []) i) d ≡ x
at_last xs x i d is = ap (λ n. unwrap_or (slice_get (xs ++ x ∷ []) n) d) is ∙ unwrap_or-slice_get (xs ++ x ∷ []) (length xs) d ∙ get_or-append_seam xs x [] d

pub at_past : {A : Type 0} (xs : List A) (i : ℕ) (d : A) → length xs ≤ i → unwrap_or (slice_get xs i) d ≡ d
at_past xs i d past = unwrap_or-slice_get xs i d ∙ get_or_past xs i d past

-- a number is below another, or the same, or above it
pub data Placed (i n : ℕ) : Type 0 where
  before : i < n → Placed i n
  there : i ≡ n → Placed i n
  behind : n < i → Placed i n

placed_by : (i n : ℕ) (b c : Bool) → ltb i n ≡ b → ltb n i ≡ c → Placed i n
placed_by i n true c low high = before (ltb-true i n low)
placed_by i n false true low high = behind (ltb-true n i high)
placed_by i n false false low high = let a : n ≤ i = ltb-false i n low in let b : i ≤ n = ltb-false n i high in there (omega arith)

pub placed : (i n : ℕ) → Placed i n
placed i n = placed_by i n (ltb i n) (ltb n i) refl refl

pub items_kept : (xss more : List (List (Item ℕ))) (links : List Link) → ImportBelow (length xss) links → items_of (xss ++ more) links ≡ items_of xss links
items_kept xss more [] below = refl
items_kept xss more (Own spliced ∷ links) below = ap (λ (ys : List (Item ℕ)). item_of spliced ∷ ys) (items_kept xss more links below)
items_kept xss more (Import id ∷ links) below =
    ap (λ (ys : List (Item ℕ)). items_at (xss ++ more) id.index ++ ys) (items_kept xss more links below.1)
    ∙ ap (λ (ys : List (Item ℕ)). ys ++ items_of xss links) (at_kept xss more id.index [] below.0)

pub below_wider : (n m : ℕ) (links : List Link) → ImportBelow n links → n ≤ m → ImportBelow m links
below_wider n m [] below wider = tt
below_wider n m (Own spliced ∷ links) below wider = below_wider n m links below wider
below_wider n m (Import id ∷ links) below wider = (omega (arith, below.0), below_wider n m links below.1 wider)

pub below_own : (n : ℕ) (links : List Link) → ImportBelow n links → (link : Link) → ImportBelow n (link ∷ []) → ImportBelow n (links ++ link ∷ [])
below_own n [] below link is = is
below_own n (Own spliced ∷ links) below link is = below_own n links below link is
below_own n (Import id ∷ links) below link is = (below.0, below_own n links below.1 link is)

pub items_more : (xss : List (List (Item ℕ))) (links : List Link) (link : Link) → items_of xss (links ++ link ∷ []) ≡ items_of xss links ++ link_items xss link
items_more xss links link = flat_map-append (link_items xss) links (link ∷ []) ∙ ap (λ (ys : List (Item ℕ)). items_of xss links ++ ys) (append-nil (link_items xss link))

pub all_more : (xss : List (List (Item ℕ))) (nodes : List Node) (node : Node) → all_items xss (nodes ++ node ∷ []) ≡ all_items xss nodes ++ items_of (all_items xss nodes) node.links.items ∷ []
all_more xss [] node = refl
all_more xss (first ∷ nodes) node = all_more (xss ++ items_of xss first.links.items ∷ []) nodes node

pub all_long : (xss : List (List (Item ℕ))) (nodes : List Node) → length (all_items xss nodes) ≡ length xss + length nodes
all_long xss [] = omega arith
all_long xss (first ∷ nodes) =
    all_long (xss ++ items_of xss first.links.items ∷ []) nodes ∙ omega (arith, length-append xss (items_of xss first.links.items ∷ []))

pub nodes_long : (nodes : List Node) → length (all_items [] nodes) ≡ length nodes
nodes_long nodes = all_long [] nodes ∙ omega arith

pub ordered_more : (n : ℕ) (nodes : List Node) (node : Node) → AreOrdered n nodes → ImportBelow (n + length nodes) node.links.items → AreOrdered n (nodes ++ node ∷ [])
ordered_more n [] node are below = let same : n + 0 ≡ n = omega arith in (subst (λ m. ImportBelow m node.links.items) same below, tt)
ordered_more n (first ∷ nodes) node are below =
    let same : n + length (first ∷ nodes) ≡ n + 1 + length nodes = omega arith in
    (are.0, ordered_more (n + 1) nodes node are.1 (subst (λ m. ImportBelow m node.links.items) same below))

pub root_of_last : (nodes : List Node) (node : Node) → root_items (nodes ++ node ∷ []) ≡ items_of (all_items [] nodes) node.links.items
root_of_last nodes node =
    let last : length (nodes ++ node ∷ []) - 1 ≡ length (all_items [] nodes) = omega (arith, length-append nodes (node ∷ []), nodes_long nodes) in
    ap (λ (xss : List (List (Item ℕ))). items_at xss (length (nodes ++ node ∷ []) - 1)) (all_more [] nodes node)
    ∙ at_last (all_items [] nodes) (items_of (all_items [] nodes) node.links.items) (length (nodes ++ node ∷ []) - 1) [] last

pub count_is : (nodes : List Node) (i : ℕ) → count_at nodes i ≡ unwrap_or (slice_get (map (λ (node : Node). node.count) nodes) i) 0
count_is nodes i = ap (λ (o : Option ℕ). unwrap_or o 0) (sym (slice_get-map (λ (node : Node). node.count) nodes i))

-- of what all nodes and one more stand for, and of their counts
pub items_before : (nodes : List Node) (node : Node) (i : ℕ) → i < length nodes → items_at (all_items [] (nodes ++ node ∷ [])) i ≡ items_at (all_items [] nodes) i
items_before nodes node i within =
    ap (λ (xss : List (List (Item ℕ))). items_at xss i) (all_more [] nodes node)
    ∙ at_kept (all_items [] nodes) (items_of (all_items [] nodes) node.links.items ∷ []) i [] (omega (arith, nodes_long nodes))

pub items_there : (nodes : List Node) (node : Node) (i : ℕ) → i ≡ length nodes → items_at (all_items [] (nodes ++ node ∷ [])) i ≡ items_of (all_items [] nodes) node.links.items
items_there nodes node i is =
    ap (λ (xss : List (List (Item ℕ))). items_at xss i) (all_more [] nodes node)
    ∙ at_last (all_items [] nodes) (items_of (all_items [] nodes) node.links.items) i [] (is ∙ sym (nodes_long nodes))

pub items_behind : (nodes : List Node) (i : ℕ) → length nodes ≤ i → items_at (all_items [] nodes) i ≡ []
items_behind nodes i past = at_past (all_items [] nodes) i [] (omega (arith, nodes_long nodes))

counts_long : (nodes : List Node) → length (map (λ (n : Node). n.count) nodes) ≡ length nodes
counts_long nodes = length-map nodes (λ (n : Node). n.count)

pub count_there : (nodes : List Node) (node : Node) (i : ℕ) → i ≡ length nodes → count_at (nodes ++ node ∷ []) i ≡ node.count
count_there nodes node i is =
    count_is (nodes ++ node ∷ []) i ∙ ap (λ (ns : List ℕ). unwrap_or (slice_get ns i) 0) (map-append (λ (n : Node). n.count) nodes (node ∷ []))
    ∙ at_last (map (λ (n : Node). n.count) nodes) node.count i 0 (is ∙ sym (counts_long nodes))

pub count_behind : (nodes : List Node) (i : ℕ) → length nodes ≤ i → count_at nodes i ≡ 0
count_behind nodes i past = count_is nodes i ∙ at_past (map (λ (n : Node). n.count) nodes) i 0 (omega (arith, counts_long nodes))

pub count_before : (nodes : List Node) (node : Node) (i : ℕ) → i < length nodes → count_at (nodes ++ node ∷ []) i ≡ count_at nodes i
count_before nodes node i within =
    count_is (nodes ++ node ∷ []) i ∙ ap (λ (ns : List ℕ). unwrap_or (slice_get ns i) 0) (map-append (λ (n : Node). n.count) nodes (node ∷ []))
    ∙ at_kept (map (λ (n : Node). n.count) nodes) (node.count ∷ []) i 0 (omega (arith, counts_long nodes)) ∙ sym (count_is nodes i)

pub numbered_wider : (n m : ℕ) (xs : List (Item ℕ)) → AreNumbered n xs → n ≤ m → AreNumbered m xs
numbered_wider n m [] are wider = tt
numbered_wider n m (Define line text ∷ xs) are wider = numbered_wider n m xs are wider
numbered_wider n m (Undef line name ∷ xs) are wider = numbered_wider n m xs are wider
numbered_wider n m (Start line file ∷ xs) are wider = (omega (arith, are.0), numbered_wider n m xs are.1 wider)
numbered_wider n m (End ∷ xs) are wider = numbered_wider n m xs are wider

pub numbered_both : (n : ℕ) (xs ys : List (Item ℕ)) → AreNumbered n xs → AreNumbered n ys → AreNumbered n (xs ++ ys)
numbered_both n [] ys are also = also
numbered_both n (Define line text ∷ xs) ys are also = numbered_both n xs ys are also
numbered_both n (Undef line name ∷ xs) ys are also = numbered_both n xs ys are also
numbered_both n (Start line file ∷ xs) ys are also = (are.0, numbered_both n xs ys are.1 also)
numbered_both n (End ∷ xs) ys are also = numbered_both n xs ys are also

pub named_kept : (paths more : List (List ℕ)) (xs : List (Item ℕ)) → AreNumbered (length paths) xs → named (paths ++ more) xs ≡ named paths xs
named_kept paths more [] are = refl
named_kept paths more (Define line text ∷ xs) are = ap (λ (ys : List (Item (List ℕ))). Define line text ∷ ys) (named_kept paths more xs are)
named_kept paths more (Undef line name ∷ xs) are = ap (λ (ys : List (Item (List ℕ))). Undef line name ∷ ys) (named_kept paths more xs are)
named_kept paths more (Start line file ∷ xs) are =
    ap (λ (ys : List (Item (List ℕ))). Start line (path_in (paths ++ more) file) ∷ ys) (named_kept paths more xs are.1)
    ∙ ap (λ (p : List ℕ). Start line p ∷ named paths xs) (at_kept paths more file [] are.0)
named_kept paths more (End ∷ xs) are = ap (λ (ys : List (Item (List ℕ))). End ∷ ys) (named_kept paths more xs are)

pub named_both : (paths : List (List ℕ)) (xs ys : List (Item ℕ)) → named paths (xs ++ ys) ≡ named paths xs ++ named paths ys
named_both paths xs ys = map-append (renamed (path_in paths)) xs ys
