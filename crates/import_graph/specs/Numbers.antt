-- How files are named by the numbers of their paths, and how a call answers what is looked up.
use Rattle.std.specs.Prelude.{◌≡◌, ℕ, ◌-◌, ◌≤◌, ◌<◌, List, [], take, drop, length, slice_get, unwrap_or, Option, Some, None, Result, Ok, Err}
use Rattle.std.specs.Option.{option_map}
use Rattle.mac_base.specs.Items.{Item, Define, Undef, Start, End, renamed}
use Rattle.import_graph.specs.declared.spliced.Spliced.{Spliced as HeldSpliced}
use Rattle.import_graph.specs.declared.spliced.Spliced.TheVariants.{Define as HeldDefine, Undef as HeldUndef, Start as HeldStart, End as HeldEnd}
use Rattle.mac_base.specs.SectionBytes.{SectionBytes}
use Rattle.import_graph.specs.declared.meaning.FileRange.{FileRange}
use Rattle.import_graph.specs.declared.meaning.Lookup.{Lookup}
use Rattle.import_graph.specs.declared.meaning.Meaning.{Meaning as HeldMeaning}
use Rattle.import_graph.specs.declared.meaning.Meaning.TheVariants.{Plain as HeldPlain, Imports as HeldImports, Nothing as HeldNothing}
use Rattle.import_graph.specs.Meaning.{Lent, offsets_of, Meaning, Plain, Imports, Nothing}
use Rattle.mac_base.specs.ItemLines.{path_in}

-- an import names a unit inside a section of n bytes
abbrev pub IsInside : ℕ → HeldMeaning → Type 0
IsInside n (HeldPlain spliced) = Unit {0}
IsInside n (HeldImports at) = at < n
IsInside n HeldNothing = Unit {0}

-- an item without where it lies in memory
abbrev pub item_of : HeldSpliced → Item ℕ
item_of (HeldDefine line text) = Define line text.now
item_of (HeldUndef line name) = Undef line name.now
item_of (HeldStart line file) = Start line file
item_of HeldEnd = End

-- the same with the path of its file
abbrev pub named_item : List (List ℕ) → HeldSpliced → Item (List ℕ)
named_item paths spliced = renamed (path_in paths) (item_of spliced)

-- what an entry says, with the path of its file
abbrev pub meaning_of : List (List ℕ) → HeldMeaning → Meaning
meaning_of paths (HeldPlain spliced) = Plain (named_item paths spliced)
meaning_of paths (HeldImports at) = Imports at
meaning_of paths HeldNothing = Nothing

-- the paths of a line table among all paths
abbrev pub range_of : List (List ℕ) → FileRange → List (List ℕ)
range_of paths range = take (range.end - range.first) (drop range.first paths)

-- the paths of a line table, if a unit has one
abbrev pub paths_of : List (List ℕ) → Option FileRange → Option (List (List ℕ))
paths_of paths files = option_map (range_of paths) files

-- all paths of a line table are there
abbrev pub Fits : List (List ℕ) → Option FileRange → Type 0
Fits paths None = Unit {0}
Fits paths (Some range) = (range.first ≤ range.end) × (range.end ≤ length paths)

-- a call that takes no memory answers exactly what is looked up, seen by view
abbrev pub Says : {X Y E : Type 0} → (X → Y) → Result X E → Result Y E → Type 0
Says view (Ok x) reading = reading ≡ Ok (view x)
Says view (Err fault) reading = reading ≡ Err fault

-- strings and units are looked up in these sections, by what this root lends
abbrev pub IsLookup : Lookup → SectionBytes → Lent → Type 0
IsLookup l s lent = (l.macros.now ≡ s.macros) × (l.strs.now ≡ s.strs) × (l.offsets ≡ offsets_of s lent) × (l.base ≡ lent.str_base)
