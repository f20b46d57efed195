-- What there is to be said about the roots of a file, and at a position in them, is one thing.
use Rattle.std.proofs.Common.{◌≡◌, ◌⊎◌, ℕ, ◌+◌, List, [], ◌∷◌, length, Option, Some, None, Result, Ok, Err, inl, inr, refl, ap, subst, sym, ◌∙◌, arith}
use Rattle.std.specs.Prelude.{position, slice_get, ◌++◌, codes}
use Rattle.mac_base.specs.SectionBytes.{SectionBytes}
use Rattle.info_roots.specs.declared.fault.InfoFault.{InfoFault}
use Rattle.info_roots.specs.declared.root.Root.{Root}
use Rattle.info_roots.specs.Roots.{roots_in}
use Rattle.mac_base.specs.Items.{Item}
use Rattle.import_graph.specs.declared.fault.FileFault.{FileFault}
use Rattle.import_graph.specs.Walk.{RootWalk, HasNoFault}
use Rattle.import_graph.specs.Graph.{GraphValue, IsGraphOf, IsFirstFault, named}
use Rattle.import_graph.proofs.OneWalkLemmas.{one_root_walk}
use Rattle.import_graph.proofs.OneSpliceLemmas.{one_root_splice}
use Rattle.import_graph.proofs.AnswerLemmas.{same_faults, answered}
use Rattle.position_table.specs.declared.position.Position.{Position as APosition}
use Rattle.position_table.specs.declared.position.Position.TheVariants.{Chain, Named}
use Rattle.position_table.specs.declared.fault.PosFault.TheVariants.{NoSuchPosition}
use Rattle.pp_tokens.specs.declared.token.Token.{Token}
use Rattle.pp_tokens.specs.declared.fault.LexFault.{LexFault}
use Rattle.macro_table.specs.Texts.{tokens_of}
use Rattle.macro_expand.specs.declared.here.Here.{Here}
use Rattle.macro_expand.specs.declared.fault.ExpandFault.{ExpandFault}
use Rattle.macro_expand.specs.Macros.{Macros, macros_of}
use Rattle.macro_expand.specs.Expansion.{expansion, single_level, whole}
use Rattle.macro_expand.specs.Rules.{Expands, ExpandsOnce, ExpandsTo, ExpandsOnceTo}
use Rattle.macro_expand.proofs.OneAnswer.{complete, only}
use Rattle.macro_expand.proofs.OneLevel.{complete_level, only_level}
use Rattle.macro_expand.proofs.WholeTexts.{one_whole}
use Rattle.macro_query.specs.declared.fault.QueryFault.{QueryFault}
use Rattle.macro_query.specs.declared.fault.QueryFault.TheVariants.{Info, NoSuchUnit, Position as BadPosition, Text, Expand}
use Rattle.macro_query.specs.Roots.{file_fault, RootSays, ByRoots, RootsSay, root_lines, joined, ThenSays, DumpOf}
use Rattle.macro_query.specs.Scopes.{scope_by, ChainLeads, ByFound, InRoot, NamedLeads, PositionLeads}
use Rattle.position_table.specs.Scopes.{Scope, names_path, path_scope}
use Rattle.macro_query.specs.Tables.{info_text, list_text}
use Rattle.macro_query.specs.Expansions.{here_of, PrintsLine, ByTokens, TextSays}
use Rattle.macro_query.specs.Queries.{DumpSays, LeadsTo, ByScope, ScopeSays, InfoSays, ListSays, ExpandSays, OnceSays}
use Rattle.macro_query.specs.Laws.{One}
use Rattle.macro_query.proofs.QueryLemmas.{Said, one_file, one_same}
use Rattle.macro_query.proofs.PositionLemmas.{Lead}
use Rattle.pp_tokens.proofs.PrintedLemmas.{printed, printed_unique}
use Rattle.macro_query.proofs.DumpLemmas.{graph_says}

abbrev Items : Type 0
Items = List (Item (List ℕ))

ok_no_err : (a : List ℕ) (b : FileFault) → ◌≡◌ {A = Result (List ℕ) FileFault} (Ok a) (Err b) → ⊥
ok_no_err a b is = cc

no_fault_twice : (s : SectionBytes) (root : Root) (fault : FileFault) → HasNoFault s root → RootWalk s root (Err fault) → ⊥
no_fault_twice s root fault none is = ok_no_err none.0 fault (one_root_walk s root (Ok none.0) (Err fault) none.1 is)

no_fault_here : (s : SectionBytes) (root : Root) (items : Items) (fault : FileFault) → RootSays s root (Ok items) → IsFirstFault s root fault → ⊥
no_fault_here s root items fault is (inl also) = no_fault_twice s root fault is.1 also
no_fault_here s root items fault is (inr also) =
    let same : items ≡ also.1.1 = one_root_splice s root items also.1.1 is.0 also.1.2 in
    omega (arith, ap length same, is.2, also.1.3)

abbrev First : Type 0
First = Result Items FileFault

-- a root says one thing
same_root : (s : SectionBytes) (root : Root) (a b : First) → RootSays s root a → RootSays s root b → a ≡ b
same_root s root (Ok a) (Ok b) is also = ap Ok (one_root_splice s root a b is.0 also.0)
same_root s root (Ok a) (Err b) is also = absurd (no_fault_here s root a b is also)
same_root s root (Err a) (Ok b) is also = absurd (no_fault_here s root b a also is)
same_root s root (Err a) (Err b) is also = ap Err (same_faults s root a b is also)

abbrev SomeRoot : SectionBytes → Root → Type 0
SomeRoot s root = (first : First) × RootSays s root first

some_root_by : (s : SectionBytes) (root : Root) → ((graph : GraphValue) × IsGraphOf s root graph) ⊎ ((fault : FileFault) × IsFirstFault s root fault) → SomeRoot s root
some_root_by s root (inl graph) = (Ok (named graph.0.paths graph.0.items), graph_says s root graph.0 graph.1)
some_root_by s root (inr fault) = (Err fault.0, fault.1)

some_root : (s : SectionBytes) (root : Root) → SomeRoot s root
some_root s root = some_root_by s root (answered s root)

-- what follows from what a root says
one_behind : {A : Type 0} (s : SectionBytes) (root : Root) (Behind : First → A → Type 0) → ((first : First) → One (Behind first)) → One (λ said. (first : First) × RootSays s root first × Behind first said)
one_behind s root Behind one =
    let found = some_root s root in
    let behind = one found.0 in (
      behind.0,
      (found.0, found.1, behind.1),
      λ other is. behind.2 other (subst (λ (first : First). Behind first other) (same_root s root is.0 found.0 is.1 found.1) is.2),
    )

one_then : (lines : Items → List ℕ) (More : Said → Type 0) → One More → (first : First) → One (ThenSays first lines More)
one_then lines More one (Ok items) = (joined (lines items) one.0, (one.0, one.1, refl), λ other is. is.2 ∙ ap (joined (lines items)) (one.2 is.0 is.1))
one_then lines More one (Err fault) = one_same (Err (file_fault fault))

one_dump_of : (s : SectionBytes) (roots : List Root) (n : ℕ) → One (DumpOf s n roots)
one_dump_of s [] n = one_same (Ok [])
one_dump_of s (root ∷ roots) n = one_behind s root (λ first. ThenSays first (root_lines n root) (DumpOf s (n + 1) roots)) (one_then (root_lines n root) (DumpOf s (n + 1) roots) (one_dump_of s roots (n + 1)))

one_roots_by : {A : Type 0} (read : Result (List Root) InfoFault) (Says : List Root → Result A QueryFault → Type 0) → ((roots : List Root) → One (Says roots)) → One (ByRoots read Says)
one_roots_by (Ok roots) Says one = one roots
one_roots_by (Err fault) Says one = one_same (Err (Info fault))

one_roots : {A : Type 0} (Says : SectionBytes → List Root → Result A QueryFault → Type 0) → ((s : SectionBytes) (roots : List Root) → One (Says s roots)) → (s : SectionBytes) → One (RootsSay Says s)
one_roots Says one s = one_roots_by (roots_in s) (Says s) (one s)

pub one_dump : (file : List ℕ) → One (DumpSays file)
one_dump file = one_file (RootsSay (λ s. DumpOf s 0)) file (one_roots (λ s. DumpOf s 0) (λ s roots. one_dump_of s roots 0))

one_chain : (root : Option Root) (lines : List ℕ) (line : ℕ) (s : SectionBytes) → One (ChainLeads root lines line s)
one_chain None lines line s = one_same (Err NoSuchUnit)
one_chain (Some root) lines line s = one_behind s root (λ first found. found ≡ scope_by lines line first) (λ first. one_same (scope_by lines line first))

one_found : (scope : Option Scope) (More : Lead → Type 0) → One More → One (ByFound scope More)
one_found (Some scope) More one = one_same (Ok scope)
one_found None More one = one

one_in_root : (path : List ℕ) (line : ℕ) (More : Lead → Type 0) → One More → (first : First) → One (InRoot path line first More)
one_in_root path line More one (Ok items) = one_found (path_scope items path line) More one
one_in_root path line More one (Err fault) = one_same (Err (file_fault fault))

one_named : (path : List ℕ) (line : ℕ) (s : SectionBytes) (roots : List Root) → One (NamedLeads path line s roots)
one_named path line s [] = one_same (Err (BadPosition (NoSuchPosition 0)))
one_named path line s (root ∷ roots) =
    one_behind s root (λ first. InRoot path line first (NamedLeads path line s roots)) (one_in_root path line (NamedLeads path line s roots) (one_named path line s roots))

one_position : (p : APosition) (s : SectionBytes) (roots : List Root) → One (PositionLeads p s roots)
one_position (Chain unit lines line) s roots = one_chain (slice_get roots unit) lines line s
one_position (Named path line) s roots = one_named path line s roots

-- a position in a file leads to one scope, or to one fault
one_lead : (p : APosition) (file : List ℕ) → One (LeadsTo p file)
one_lead p file = one_file (RootsSay (PositionLeads p)) file (one_roots (PositionLeads p) (one_position p))

one_by_scope : (Says : Scope → Said → Type 0) → ((scope : Scope) → One (Says scope)) → (found : Lead) → One (ByScope found Says)
one_by_scope Says one (Ok scope) = one scope
one_by_scope Says one (Err fault) = one_same (Err fault)

one_scope : (Says : Scope → Said → Type 0) → ((scope : Scope) → One (Says scope)) → (p : APosition) (file : List ℕ) → One (ScopeSays Says p file)
one_scope Says one p file =
    let led = one_lead p file in
    let behind = one_by_scope Says one led.0 in
    (behind.0, (led.0, led.1, behind.1), λ other is. behind.2 other (subst (λ (found : Lead). ByScope found Says other) (led.2 is.0 is.1) is.2))

pub one_info : (p : APosition) (name file : List ℕ) → One (InfoSays p name file)
one_info p name file = one_scope (λ scope text. text ≡ Ok (info_text name scope.table)) (λ scope. one_same _) p file

pub one_list : (p : APosition) (file : List ℕ) → One (ListSays p file)
one_list p file = one_scope (λ scope text. text ≡ Ok (list_text scope.table)) (λ scope. one_same _) p file

one_line : (found : Result (List Token) ExpandFault) → One (PrintsLine found)
one_line (Ok tokens) =
    let text = printed tokens in
    (Ok (text.0 ++ codes "\n"), (text.0, text.1, refl), λ other is. is.2 ∙ ap (λ (t : List ℕ). Ok (t ++ codes "\n")) (printed_unique tokens is.0 text.0 is.1 text.1))
one_line (Err fault) = one_same (Err (Expand fault))

one_by_tokens : (Rules : List Token → Result (List Token) ExpandFault → Type 0) → ((tokens : List Token) → One (Rules tokens)) → (read : Result (List Token) LexFault) → One (ByTokens Rules read)
one_by_tokens Rules one (Err fault) = one_same (Err (Text fault))
one_by_tokens Rules one (Ok tokens) =
    let found = one tokens in
    let line = one_line found.0 in
    (line.0, (found.0, found.1, line.1), λ other is. line.2 other (subst (λ (f : Result (List Token) ExpandFault). PrintsLine f other) (found.2 is.0 is.1) is.2))

one_expansion : (macros : Macros) (here : Here) (tokens : List Token) → One (ExpandsTo macros here tokens)
one_expansion macros here tokens =
    let law = one_whole (Expands macros here) (expansion macros here) (complete macros here) (λ list work answer e. only macros here e) tokens in
    (whole (expansion macros here) tokens, (law (whole (expansion macros here) tokens)).1 refl, λ other is. sym ((law other).0 is))

one_level : (macros : Macros) (here : Here) (tokens : List Token) → One (ExpandsOnceTo macros here tokens)
one_level macros here tokens =
    let law = one_whole (ExpandsOnce macros here) (single_level macros here) (complete_level macros here) (λ list work answer e. only_level macros here e) tokens in
    (whole (single_level macros here) tokens, (law (whole (single_level macros here) tokens)).1 refl, λ other is. sym ((law other).0 is))

pub one_expand : (p : APosition) (text file : List ℕ) → One (ExpandSays p text file)
one_expand p text file = one_scope (TextSays ExpandsTo text) (λ scope. one_by_tokens (ExpandsTo (macros_of scope.table) (here_of scope)) (one_expansion (macros_of scope.table) (here_of scope)) (tokens_of text)) p file

pub one_once : (p : APosition) (text file : List ℕ) → One (OnceSays p text file)
one_once p text file = one_scope (TextSays ExpandsOnceTo text) (λ scope. one_by_tokens (ExpandsOnceTo (macros_of scope.table) (here_of scope)) (one_level (macros_of scope.table) (here_of scope)) (tokens_of text)) p file
