-- The lines of roots, one root after another, and of a root's entries.
use Rattle.std.proofs.Common.{◌≡◌, ◌⊎◌, ℕ, ◌+◌, ◌≤◌, Bool, List, [], ◌∷◌, ◌++◌, Some, Result, Ok, Err, inl, inr, refl, ap, subst, ◌∙◌, sym, append_assoc}
use Rattle.std.proofs.lemmas.List.{append-nil, flat_map_more, map-append, length-map}
use Rattle.std.specs.Prelude.{IsErrAnd}
use Rattle.mac_base.specs.SectionBytes.{SectionBytes}
use Rattle.info_roots.specs.declared.root.Root.{Root}
use Rattle.mac_base.specs.Items.{Item, renamed}
use Rattle.import_graph.specs.declared.fault.FileFault.{FileFault}
use Rattle.import_graph.specs.declared.spliced.Spliced.{Spliced}
use Rattle.import_graph.specs.Numbers.{item_of, named_item}
use Rattle.mac_base.specs.ItemLines.{path_in}
use Rattle.import_graph.specs.Graph.{GraphValue, IsGraphOf, most_items, named, NextSays}
use Rattle.mac_base.specs.declared.memory.NoMemory.{NoMemory}
use Rattle.macro_query.specs.declared.fault.QueryFault.{QueryFault}
use Rattle.macro_query.specs.declared.fault.QueryFault.TheVariants.{NoMemory as RanOut}
use Rattle.macro_query.specs.Limits.{Answers, limited}
use Rattle.mac_base.specs.ReportText.{Tells}
use Rattle.macro_query.specs.Roots.{file_fault, RootSays, root_line, root_lines, joined, DumpOf}
use Rattle.mac_base.specs.ItemLines.{item_line, item_lines}
use Rattle.macro_query.proofs.QueryLemmas.{Said, handed_on}

-- whatever the roots that are left say, with the text so far it is what all say
abbrev pub Reaches : SectionBytes → List Root → List ℕ → ℕ → List Root → Type 0
Reaches s roots whole n left = (said : Said) → DumpOf s n left said → DumpOf s 0 roots (joined whole said)

joined_none : (said : Said) → said ≡ joined [] said
joined_none (Ok text) = refl
joined_none (Err fault) = refl

joined_twice : (a b : List ℕ) (said : Said) → joined a (joined b said) ≡ joined (a ++ b) said
joined_twice a b (Ok text) = ap Ok (sym (append_assoc a b text))
joined_twice a b (Err fault) = refl

pub reaches_first : (s : SectionBytes) (roots : List Root) → Reaches s roots [] 0 roots
reaches_first s roots said is = subst (λ (r : Said). DumpOf s 0 roots r) (joined_none said) is

pub reaches_more : (s : SectionBytes) (roots : List Root) (whole : List ℕ) (n : ℕ) (root : Root) (left : List Root) (items : List (Item (List ℕ))) →
    Reaches s roots whole n (root ∷ left) → RootSays s root (Ok items) → Reaches s roots (whole ++ root_lines n root items) (n + 1) left
reaches_more s roots whole n root left items reaches says said is =
    let lines = root_lines n root items in
    subst (λ (r : Said). DumpOf s 0 roots r) (joined_twice whole lines said) (reaches (joined lines said) (Ok items, says, (said, is, refl)))

-- a root has a fault
pub dump_stops : (s : SectionBytes) (roots : List Root) (whole : List ℕ) (n : ℕ) (root : Root) (left : List Root) (fault : QueryFault) (result : Said) →
    Reaches s roots whole n (root ∷ left) → (fault ≡ RanOut) ⊎ ((file : FileFault) × (fault ≡ file_fault file) × RootSays s root (Err file)) → IsErrAnd result (λ found. found ≡ fault) → Answers result (DumpOf s 0 roots)
dump_stops s roots whole n root left fault result reaches (inl ran) is = inl (handed_on result fault is ∙ ap Err ran)
dump_stops s roots whole n root left fault result reaches (inr found) is =
    inr (Err (file_fault found.0), reaches (Err (file_fault found.0)) (Err found.0, found.2, refl), handed_on result fault is ∙ ap Err found.1)

-- no root is left
pub dump_ends : (s : SectionBytes) (roots : List Root) (whole : List ℕ) (n : ℕ) (result : Said) → Reaches s roots whole n [] → result ≡ limited whole → Answers result (DumpOf s 0 roots)
dump_ends s roots whole n result reaches is = inr (Ok (whole ++ []), reaches (Ok []) refl, is ∙ ap limited (sym (append-nil whole)))

-- an entry more
pub lines_more : (paths : List (List ℕ)) (done : List (Item ℕ)) (spliced : Spliced) → item_lines (named paths (done ++ item_of spliced ∷ [])) ≡ item_lines (named paths done) ++ item_line (named_item paths spliced)
lines_more paths done spliced =
    ap item_lines (map-append _ done (item_of spliced ∷ [])) ∙ sym (flat_map_more item_line [] (named paths done) (named_item paths spliced))

-- the entries before those that are left are told
abbrev pub Tolds : List (List ℕ) → List (Item ℕ) → Bool → List ℕ → Bool → List ℕ → List (Item ℕ) → Type 0
Tolds paths items one a two b left = (done : List (Item ℕ)) × (items ≡ done ++ left) × ((whole : List ℕ) → Tells one a whole → Tells two b (whole ++ item_lines (named paths done)))

pub told_none : (paths : List (List ℕ)) (items left : List (Item ℕ)) (one : Bool) (a : List ℕ) → left ≡ items → Tolds paths items one a one a left
told_none paths items left one a is = ([], sym is, λ whole tells. subst (λ (xs : List ℕ). Tells one a xs) (sym (append-nil whole)) tells)

taken : (entry : Result Spliced NoMemory) (spliced : Spliced) (old new : List (Item ℕ)) → entry ≡ Ok spliced → NextSays (Some entry) old new → old ≡ item_of spliced ∷ new
taken entry spliced old new is says = subst (λ (e : Result Spliced NoMemory). NextSays (Some e) old new) is says

pub told_more : (paths : List (List ℕ)) (items old new : List (Item ℕ)) (one two three : Bool) (a b c : List ℕ) (entry : Result Spliced NoMemory) (spliced : Spliced) → Tolds paths items one a two b old → entry ≡ Ok spliced → NextSays (Some entry) old new →
    ((whole : List ℕ) → Tells two b whole → Tells three c (whole ++ item_line (named_item paths spliced))) → Tolds paths items one a three c new
told_more paths items old new one two three a b c entry spliced told is says more =
    let done = told.0 in (
      done ++ item_of spliced ∷ [],
      told.1 ∙ ap (λ xs. done ++ xs) (taken entry spliced old new is says) ∙ sym (append_assoc done (item_of spliced ∷ []) new),
      λ whole tells. subst (λ (xs : List ℕ). Tells three c xs)
          (append_assoc whole (item_lines (named paths done)) (item_line (named_item paths spliced)) ∙ ap (λ xs. whole ++ xs) (sym (lines_more paths done spliced)))
          (more (whole ++ item_lines (named paths done)) (told.2 whole tells)),
    )

pub told_all : (paths : List (List ℕ)) (items left new : List (Item ℕ)) (one two : Bool) (a b : List ℕ) → Tolds paths items one a two b left → (left ≡ []) × (new ≡ []) → (whole : List ℕ) → Tells one a whole → Tells two b (whole ++ item_lines (named paths items))
told_all paths items left new one two a b told none whole tells =
    let all : items ≡ told.0 = told.1 ∙ ap (λ xs. told.0 ++ xs) none.0 ∙ append-nil told.0 in
    subst (λ (xs : List (Item ℕ)). Tells two b (whole ++ item_lines (named paths xs))) (sym all) (told.2 whole tells)

-- what a graph that was read says of its root
pub graph_says : (s : SectionBytes) (root : Root) (graph : GraphValue) → IsGraphOf s root graph → RootSays s root (Ok (named graph.paths graph.items))
graph_says s root graph is = (is.splice, is.no_fault, subst (λ (n : ℕ). n ≤ most_items) (sym (length-map graph.items (renamed (path_in graph.paths)))) is.within)

-- a root's line and then those of its entries
pub told_both : (one two three : Bool) (a b c line lines : List ℕ) → ((whole : List ℕ) → Tells one a whole → Tells two b (whole ++ line)) → ((whole : List ℕ) → Tells two b whole → Tells three c (whole ++ lines)) →
    (whole : List ℕ) → Tells one a whole → Tells three c (whole ++ (line ++ lines))
told_both one two three a b c line lines first second whole tells = subst (λ (xs : List ℕ). Tells three c xs) (append_assoc whole line lines) (second (whole ++ line) (first whole tells))

-- the line of a root is told
abbrev pub Heads : ℕ → List ℕ → Bool → Bool → List ℕ → List ℕ → Type 0
Heads number name one two a b = (whole : List ℕ) → Tells one a whole → Tells two b (whole ++ root_line number name)

-- the lines of a root whose graph was read
pub root_told : (s : SectionBytes) (root : Root) (number : ℕ) (graph : GraphValue) (one two three : Bool) (a b c : List ℕ) → IsGraphOf s root graph →
    Heads number root.name one two a b → ((whole : List ℕ) → Tells two b whole → Tells three c (whole ++ item_lines (named graph.paths graph.items))) →
    (items : List (Item (List ℕ))) × RootSays s root (Ok items) × ((whole : List ℕ) → Tells one a whole → Tells three c (whole ++ root_lines number root items))
root_told s root number graph one two three a b c is head lines = (
  named graph.paths graph.items,
  graph_says s root graph is,
  told_both one two three a b c (root_line number root.name) (item_lines (named graph.paths graph.items)) head lines,
)
