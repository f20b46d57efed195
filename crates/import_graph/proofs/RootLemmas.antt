-- The walk of a root: its own line table, its unit, and what its unit stands for.
use Rattle.std.proofs.Common.{◌≡◌, ◌⊎◌, inl, inr, ℕ, ◌<◌, ◌≤◌, Bool, cond, List, length, Option, Result, Ok, Err, refl, ap, ◌∙◌}
use Rattle.std.proofs.lemmas.Bool.{lt-ltb, le-ltb}
use Rattle.mac_base.specs.Input.{◌>>=◌}
use Rattle.mac_base.specs.SectionBytes.{SectionBytes}
use Rattle.info_roots.specs.declared.root.Root.{Root}
use Rattle.unit_header.specs.declared.fault.UnitKind.TheVariants.{ImportRange}
use Rattle.import_graph.specs.declared.fault.FileFault.{FileFault}
use Rattle.import_graph.specs.declared.fault.FileFault.TheVariants.{NoMemory as RanOut}
use Rattle.import_graph.specs.declared.node.Node.{Node}
use Rattle.import_graph.specs.Faults.{fault_at, IsFaultOf}
use Rattle.import_graph.specs.Meaning.{Lent}
use Rattle.import_graph.specs.Units.{root_paths, lent_by, begun, root_begun}
use Rattle.import_graph.specs.Walk.{RootWalk, NoTable, NoUnit}
use Rattle.import_graph.specs.Progress.{IsFaultFrom, IsWalked, RootWalked}
use Rattle.import_graph.proofs.WalkLemmas.{root_left}

-- what the root lends with these paths
with_paths : Root → Option (List (List ℕ)) → Result Lent FileFault
with_paths root paths = Ok (record { paths = paths; str_base = root.str_base; wide = root.wide })

pub lent_is : (s : SectionBytes) (root : Root) (paths : Option (List (List ℕ))) → root_paths s root.line ≡ Ok paths → lent_by s root ≡ Ok (record { paths = paths; str_base = root.str_base; wide = root.wide })
unfolding with_paths
lent_is s root paths is = ap (λ (r : Result (Option (List (List ℕ))) FileFault). r >>= with_paths root) is

lent_fails : (s : SectionBytes) (root : Root) (fault : FileFault) → root_paths s root.line ≡ Err fault → lent_by s root ≡ Err fault
unfolding with_paths
lent_fails s root fault is = ap (λ (r : Result (Option (List (List ℕ))) FileFault). r >>= with_paths root) is

begun_inside : (s : SectionBytes) (lent : Lent) (at : ℕ) → at < length s.macros → root_begun s lent at ≡ begun s lent at
begun_inside s lent at within = ap (λ (b : Bool). cond b (begun s lent at) (Err (fault_at at ImportRange))) (lt-ltb at (length s.macros) within)

begun_outside : (s : SectionBytes) (lent : Lent) (at : ℕ) → length s.macros ≤ at → root_begun s lent at ≡ Err (fault_at at ImportRange)
begun_outside s lent at past = ap (λ (b : Bool). cond b (begun s lent at) (Err (fault_at at ImportRange))) (le-ltb at (length s.macros) past)

pub root_no_table : (s : SectionBytes) (root : Root) (fault : FileFault) → IsFaultOf (root_paths s root.line) fault → (fault ≡ RanOut) ⊎ RootWalk s root (Err fault)
root_no_table s root fault (inl ran) = inl ran
root_no_table s root fault (inr is) = inr (NoTable fault (lent_fails s root fault is))

pub root_outside : (s : SectionBytes) (root : Root) (lent : Lent) → lent_by s root ≡ Ok lent → length s.macros ≤ root.macros → RootWalk s root (Err (fault_at root.macros ImportRange))
root_outside s root lent lends past = NoUnit lent (fault_at root.macros ImportRange) lends (begun_outside s lent root.macros past)

pub root_no_unit : (s : SectionBytes) (root : Root) (lent : Lent) (fault : FileFault) → lent_by s root ≡ Ok lent → root.macros < length s.macros → IsFaultOf (begun s lent root.macros) fault → (fault ≡ RanOut) ⊎ RootWalk s root (Err fault)
root_no_unit s root lent fault lends within (inl ran) = inl ran
root_no_unit s root lent fault lends within (inr is) = inr (NoUnit lent fault lends (begun_inside s lent root.macros within ∙ is))

pub root_fault : (s : SectionBytes) (root : Root) (lent : Lent) (fault : FileFault) → lent_by s root ≡ Ok lent → root.macros < length s.macros → IsFaultFrom s lent root.macros fault → (fault ≡ RanOut) ⊎ RootWalk s root (Err fault)
root_fault s root lent fault lends within (inl ran) = inl ran
root_fault s root lent fault lends within (inr comes) = inr ((root_left s root lent comes.0 comes.1 (Err fault) lends (begun_inside s lent root.macros within ∙ comes.2) comes.3).0 fault refl)

pub root_walked : (s : SectionBytes) (root : Root) (lent : Lent) (nodes : List Node) (paths : List (List ℕ)) → lent_by s root ≡ Ok lent → root.macros < length s.macros → IsWalked s lent root.macros nodes paths → RootWalked s root nodes paths
root_walked s root lent nodes paths lends within is = record {
  lent = lent;
  lends = lends;
  no_fault = (root_left s root lent is.comes.0 is.comes.1 (Ok is.walked) lends (begun_inside s lent root.macros within ∙ is.comes.2) is.comes.3).1 is.walked refl;
  walked = is;
}
