-- Where a position leads, where its root is read and the position is looked for.
use Rattle.std.proofs.Common.{◌≡◌, ◌⊎◌, ℕ, zero, suc, ◌-◌, cond, not, ltb, ◌+◌, List, [], ◌∷◌, Option, Some, None, Result, Ok, Err, inl, inr, refl, ap, subst, ◌∙◌, sym, arith}
use Rattle.std.specs.Prelude.{position, slice_get, IsErrAnd, IfOk, IfErr}
use Rattle.std.specs.List.{prefix_len}
use Rattle.std.proofs.lemmas.List.{length-map}
use Rattle.std.proofs.lemmas.Option.{slice_get-map}
use Rattle.std.specs.Option.{option_map}
use Rattle.mac_base.specs.SectionBytes.{SectionBytes}
use Rattle.info_roots.specs.declared.root.Root.{Root}
use Rattle.mac_base.specs.Items.{Item, Define, Undef, Start, End, renamed}
use Rattle.macro_table.specs.Tables.{TableOf}
use Rattle.macro_table.specs.FileTable.{instance, prefix, table_of}
use Rattle.macro_table.proofs.RenamedLemmas.{same_instance}
use Rattle.import_graph.specs.declared.fault.FileFault.{FileFault}
use Rattle.mac_base.specs.ItemLines.{path_in}
use Rattle.import_graph.specs.Graph.{GraphValue, IsGraphOf, IsFirstFault, named}
use Rattle.position_table.specs.declared.position.Position.{Position as APosition}
use Rattle.position_table.specs.declared.position.Position.TheVariants.{Chain as AtChain, Named as AtNamed}
use Rattle.position_table.specs.declared.fault.PosFault.{PosFault}
use Rattle.position_table.specs.declared.fault.PosFault.TheVariants.{NoSuchPosition, NoMemory as PosRanOut}
use Rattle.position_table.specs.declared.spot.Spot.{Spot}
use Rattle.position_table.specs.Answers.{IsSpotOf}
use Rattle.position_table.specs.Paths.{begins_path}
use Rattle.macro_query.specs.declared.fault.QueryFault.{QueryFault}
use Rattle.macro_query.specs.declared.fault.QueryFault.TheVariants.{Position, NoSuchUnit, NoMemory as RanOut}
use Rattle.macro_query.specs.Faults.{pos_fault}
use Rattle.macro_query.specs.Roots.{file_fault}
use Rattle.macro_query.specs.Scopes.{of_chain, path_of_file, IsNamed, IsScope, ChainLeads, ByFound, NamedLeads, PositionLeads}
use Rattle.position_table.specs.Scopes.{Scope, begun_file, begun_path, scope_in, names_path, scope_from}
use Rattle.macro_query.proofs.DumpLemmas.{graph_says}
use Rattle.macro_query.proofs.NamedLemmas.{is_named_at}

-- where a position may lead
abbrev pub Lead : Type 0
Lead = Result Scope QueryFault

-- what was found is a scope that is led to
abbrev pub Finds : GraphValue → Option ℕ → ℕ → TableOf ℕ → (Lead → Type 0) → Type 0
Finds graph file at numbers Leads = (scope : Scope) × IsScope graph file at numbers scope × Leads (Ok scope)

-- a fault that is led to, unless memory ran out
abbrev pub Fails : {A : Type 0} → (Result A QueryFault → Type 0) → QueryFault → Type 0
Fails Leads fault = (fault ≡ RanOut) ⊎ Leads (Err fault)

pub err_by : {A : Type 0} (result : Result A QueryFault) (fault : QueryFault) (P : QueryFault → Type 0) → IsErrAnd result (λ found. found ≡ fault) → P fault → IfErr result P
err_by (Ok found) fault P is p = absurd is
err_by (Err found) fault P is p = subst P (sym is) p

path_begun : (paths : List (List ℕ)) (o : Option (Item ℕ)) → path_of_file paths (begun_file o) ≡ begun_path (option_map (renamed (path_in paths)) o)
path_begun paths None = refl
path_begun paths (Some (Define line text)) = refl
path_begun paths (Some (Undef line name)) = refl
path_begun paths (Some (Start line file)) = refl
path_begun paths (Some End) = refl

is_scope : (graph : GraphValue) (start line : ℕ) (file : Option ℕ) (numbers : TableOf ℕ) → file ≡ begun_file (slice_get graph.items start) → numbers ≡ table_of (prefix graph.items start line) →
    IsScope graph file line numbers (scope_in (named graph.paths graph.items) line start)
is_scope graph start line file numbers begins table = record {
  path = ap (path_of_file graph.paths) begins ∙ path_begun graph.paths (slice_get graph.items start) ∙ ap begun_path (sym (slice_get-map (renamed (path_in graph.paths)) graph.items start));
  line = refl;
  table = subst (λ (t : TableOf ℕ). IsNamed graph.paths t (table_of (prefix (named graph.paths graph.items) start line))) (sym table) (is_named_at graph.paths graph.items start line);
}

-- at a chain of lines
pub chain_found : (s : SectionBytes) (root : Root) (graph : GraphValue) (lines : List ℕ) (line : ℕ) (spot : Spot) (file : Option ℕ) (numbers : TableOf ℕ) → IsGraphOf s root graph → IsSpotOf graph.items lines line (Ok spot) →
    file ≡ begun_file (slice_get graph.items spot.start) → numbers ≡ table_of (prefix graph.items spot.start spot.line) → Finds graph file line numbers (ChainLeads (Some root) lines line s)
chain_found s root graph lines line spot file numbers is found begins table =
    let items = named graph.paths graph.items in
    let there : instance items lines ≡ Ok spot.start = same_instance (path_in graph.paths) graph.items lines ∙ found.0 in (
      scope_in items line spot.start,
      is_scope graph spot.start line file numbers begins (table ∙ ap (λ n. table_of (prefix graph.items spot.start n)) found.1),
      (Ok items, graph_says s root graph is, ap (λ (r : Result ℕ ℕ). of_chain (scope_from items line r)) (sym there)),
    )

chain_missing : (s : SectionBytes) (root : Root) (graph : GraphValue) (lines : List ℕ) (line depth : ℕ) → IsGraphOf s root graph → instance graph.items lines ≡ Err depth →
    ChainLeads (Some root) lines line s (Err (Position (NoSuchPosition depth)))
chain_missing s root graph lines line depth is missing =
    let items = named graph.paths graph.items in
    let there : instance items lines ≡ Err depth = same_instance (path_in graph.paths) graph.items lines ∙ missing in
    (Ok items, graph_says s root graph is, ap (λ (r : Result ℕ ℕ). of_chain (scope_from items line r)) (sym there))

pub chain_stops : (s : SectionBytes) (root : Root) (graph : GraphValue) (lines : List ℕ) (line : ℕ) (fault : PosFault) → IsGraphOf s root graph → IsSpotOf graph.items lines line (Err fault) →
    Fails (ChainLeads (Some root) lines line s) (pos_fault fault)
chain_stops s root graph lines line PosRanOut is says = inl refl
chain_stops s root graph lines line (NoSuchPosition depth) is says = inr (chain_missing s root graph lines line depth is says)

pub chain_fails : (s : SectionBytes) (root : Root) (lines : List ℕ) (line : ℕ) (fault : QueryFault) → (fault ≡ RanOut) ⊎ ((file : FileFault) × (fault ≡ file_fault file) × IsFirstFault s root file) →
    Fails (ChainLeads (Some root) lines line s) fault
chain_fails s root lines line fault (inl ran) = inl ran
chain_fails s root lines line fault (inr found) = inr (Err found.0, found.2, ap Err found.1)

-- wherever the roots that are left lead, all lead
abbrev pub Passes : SectionBytes → List ℕ → ℕ → List Root → List Root → Type 0
Passes s path line roots left = (found : Lead) → NamedLeads path line s left found → NamedLeads path line s roots found

begins_same : (paths : List (List ℕ)) (path : List ℕ) (item : Item ℕ) → names_path path (renamed (path_in paths) item) ≡ begins_path paths path item
begins_same paths path (Define line text) = refl
begins_same paths path (Undef line name) = refl
begins_same paths path (Start line file) = refl
begins_same paths path End = refl

prefix_named : (paths : List (List ℕ)) (path : List ℕ) (items : List (Item ℕ)) → prefix_len (λ item. not (names_path path item)) (named paths items) ≡ prefix_len (λ item. not (begins_path paths path item)) items
prefix_named paths path [] = refl
prefix_named paths path (item ∷ items) = λ i. cond (not (begins_same paths path item i)) (1 + prefix_named paths path items i) 0

position_named : (paths : List (List ℕ)) (path : List ℕ) (items : List (Item ℕ)) → position (names_path path) (named paths items) ≡ position (begins_path paths path) items
position_named paths path items = λ i. cond (ltb (prefix_named paths path items i) (length-map items (renamed (path_in paths)) i)) (Some (prefix_named paths path items i)) None

pub named_found : (s : SectionBytes) (path : List ℕ) (line : ℕ) (roots : List Root) (root : Root) (left : List Root) (graph : GraphValue) (start : ℕ) (file : Option ℕ) (numbers : TableOf ℕ) → Passes s path line roots (root ∷ left) → IsGraphOf s root graph →
    position (begins_path graph.paths path) graph.items ≡ Some start → file ≡ begun_file (slice_get graph.items start) → numbers ≡ table_of (prefix graph.items start line) → Finds graph file line numbers (NamedLeads path line s roots)
named_found s path line roots root left graph start file numbers passes is found begins table =
    let items = named graph.paths graph.items in
    let there : position (names_path path) items ≡ Some start = position_named graph.paths path graph.items ∙ found in
    let scope = scope_in items line start in (
      scope,
      is_scope graph start line file numbers begins table,
      passes (Ok scope) (Ok items, graph_says s root graph is, subst (λ (o : Option ℕ). ByFound (option_map (scope_in items line) o) (NamedLeads path line s left) (Ok scope)) (sym there) refl),
    )

pub named_next : (s : SectionBytes) (path : List ℕ) (line : ℕ) (roots : List Root) (root : Root) (left : List Root) (graph : GraphValue) → Passes s path line roots (root ∷ left) → IsGraphOf s root graph →
    position (begins_path graph.paths path) graph.items ≡ None → Passes s path line roots left
named_next s path line roots root left graph passes is missing found leads =
    let items = named graph.paths graph.items in
    let there : position (names_path path) items ≡ None = position_named graph.paths path graph.items ∙ missing in
    passes found (Ok items, graph_says s root graph is, subst (λ (o : Option ℕ). ByFound (option_map (scope_in items line) o) (NamedLeads path line s left) found) (sym there) leads)

pub named_fails : (s : SectionBytes) (path : List ℕ) (line : ℕ) (roots : List Root) (root : Root) (left : List Root) (fault : QueryFault) → Passes s path line roots (root ∷ left) →
    (fault ≡ RanOut) ⊎ ((file : FileFault) × (fault ≡ file_fault file) × IsFirstFault s root file) → Fails (NamedLeads path line s roots) fault
named_fails s path line roots root left fault passes (inl ran) = inl ran
named_fails s path line roots root left fault passes (inr found) = inr (passes (Err fault) (Err found.0, found.2, ap Err found.1))

pub named_missing : (s : SectionBytes) (path : List ℕ) (line : ℕ) (roots : List Root) → Passes s path line roots [] → NamedLeads path line s roots (Err (Position (NoSuchPosition 0)))
named_missing s path line roots passes = passes (Err (Position (NoSuchPosition 0))) refl

pub err_more : {A B : Type 0} (result : Result A QueryFault) (Leads Others : Result B QueryFault → Type 0) → ((found : Result B QueryFault) → Leads found → Others found) → IfErr result (Fails Leads) → IfErr result (Fails Others)
err_more (Ok x) Leads Others more is = tt
err_more (Err fault) Leads Others more (inl ran) = inl ran
err_more (Err fault) Leads Others more (inr leads) = inr (more (Err fault) leads)

pub ok_more : {A : Type 0} (result : Result A QueryFault) (P Q : A → Type 0) → ((x : A) → P x → Q x) → IfOk result P → IfOk result Q
ok_more (Ok x) P Q more is = more x is
ok_more (Err fault) P Q more is = tt

pub finds_more : (graph : GraphValue) (file : Option ℕ) (at : ℕ) (numbers : TableOf ℕ) (Leads Others : Lead → Type 0) → ((found : Lead) → Leads found → Others found) → Finds graph file at numbers Leads → Finds graph file at numbers Others
finds_more graph file at numbers Leads Others more finds = (finds.0, finds.1, more (Ok finds.0) finds.2)

pub chain_at : (s : SectionBytes) (roots : List Root) (root : Root) (position : APosition) (unit line : ℕ) (lines read : List ℕ) → position ≡ AtChain unit lines line → slice_get roots unit ≡ Some root → read ≡ lines →
    (found : Lead) → ChainLeads (Some root) read line s found → PositionLeads position s roots found
chain_at s roots root position unit line lines read is there same found leads =
    subst (λ (p : APosition). PositionLeads p s roots found) (sym is) (subst (λ (o : Option Root). ChainLeads o lines line s found) (sym there) (subst (λ (ls : List ℕ). ChainLeads (Some root) ls line s found) same leads))

pub unit_missing : (s : SectionBytes) (roots : List Root) (position : APosition) (unit line : ℕ) (lines : List ℕ) → position ≡ AtChain unit lines line → slice_get roots unit ≡ None → PositionLeads position s roots (Err NoSuchUnit)
unit_missing s roots position unit line lines is missing =
    subst (λ (p : APosition). PositionLeads p s roots (Err NoSuchUnit)) (sym is) (subst (λ (o : Option Root). ChainLeads o lines line s (Err NoSuchUnit)) (sym missing) refl)

pub named_at : (s : SectionBytes) (roots : List Root) (position : APosition) (line : ℕ) (path read : List ℕ) → position ≡ AtNamed path line → read ≡ path → (found : Lead) → NamedLeads read line s roots found → PositionLeads position s roots found
named_at s roots position line path read is same found leads = subst (λ (p : APosition). PositionLeads p s roots found) (sym is) (subst (λ (p : List ℕ). NamedLeads p line s roots found) same leads)
