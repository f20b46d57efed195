-- Nothing that is to be said to a query is want of memory.
use Rattle.std.proofs.Common.{◌≡◌, ℕ, ◌+◌, Bool, true, false, List, [], ◌∷◌, Option, Some, None, Result, Ok, Err, subst, sym}
use Rattle.std.specs.Prelude.{nat_lt, length, slice_get}
use Rattle.std.specs.Bool.{MatchBool}
use Rattle.mac_base.specs.SectionBytes.{SectionBytes}
use Rattle.section_views.specs.declared.fault.ElfFault.{ElfFault}
use Rattle.section_views.specs.Faults.{first_fault}
use Rattle.section_views.specs.View.{view_of}
use Rattle.info_roots.specs.declared.fault.InfoFault.{InfoFault}
use Rattle.info_roots.specs.declared.root.Root.{Root}
use Rattle.info_roots.specs.Roots.{roots_in}
use Rattle.pp_tokens.specs.declared.token.Token.{Token}
use Rattle.pp_tokens.specs.declared.fault.LexFault.{LexFault}
use Rattle.mac_base.specs.Items.{Item}
use Rattle.macro_table.specs.Texts.{tokens_of}
use Rattle.import_graph.specs.declared.fault.FileFault.{FileFault}
use Rattle.import_graph.specs.declared.fault.FileFault.TheVariants.{Line as InLine, Unit as InUnit, NoMemory as FileRanOut}
use Rattle.import_graph.proofs.ToldLemmas.{IsTold, first_is_told}
use Rattle.macro_expand.specs.declared.here.Here.{Here}
use Rattle.macro_expand.specs.declared.fault.ExpandFault.{ExpandFault}
use Rattle.macro_expand.specs.Macros.{Macros, macros_of}
use Rattle.macro_expand.specs.Rules.{ExpandsTo, ExpandsOnceTo}
use Rattle.position_table.specs.declared.position.Position.{Position as APosition}
use Rattle.position_table.specs.declared.position.Position.TheVariants.{Chain, Named}
use Rattle.position_table.specs.Scopes.{Scope, chain_scope, path_scope}
use Rattle.macro_query.specs.declared.fault.QueryFault.{QueryFault}
use Rattle.macro_query.specs.declared.fault.QueryFault.TheVariants.{Elf, Info, Line, Unit as BadUnit, NoSuchUnit, Position as BadPosition, Text, Expand, ReportTooLong, NoMemory as RanOut}
use Rattle.macro_query.specs.Roots.{file_fault, RootSays, ByRoots, RootsSay, joined, ThenSays, root_lines, DumpOf}
use Rattle.macro_query.specs.Scopes.{of_chain, scope_by, ChainLeads, ByFound, InRoot, NamedLeads, PositionLeads}
use Rattle.macro_query.specs.Tables.{info_text, list_text}
use Rattle.macro_query.specs.Expansions.{here_of, PrintsLine, ByTokens, TextSays}
use Rattle.macro_query.specs.Queries.{UnitSays, RawSays, ByElf, FileSays, SectionSays, UnitAtSays, DumpSays, LeadsTo, ByScope, ScopeSays, InfoSays, ListSays, ExpandSays, OnceSays}

-- what is said is no want of memory
abbrev Plain : {A : Type 0} → Result A QueryFault → Type 0
Plain (Ok x) = Unit {0}
Plain (Err (Elf fault)) = Unit {0}
Plain (Err (Info fault)) = Unit {0}
Plain (Err (Line fault)) = Unit {0}
Plain (Err (BadUnit fault)) = Unit {0}
Plain (Err NoSuchUnit) = Unit {0}
Plain (Err (BadPosition fault)) = Unit {0}
Plain (Err (Text fault)) = Unit {0}
Plain (Err (Expand fault)) = Unit {0}
Plain (Err ReportTooLong) = Unit {0}
Plain (Err RanOut) = ⊥

-- so is all that is said
abbrev AllPlain : {A : Type 0} → (Result A QueryFault → Type 0) → Type 0
AllPlain {A} Says = (said : Result A QueryFault) → Says said → Plain said

along : {A : Type 0} (said other : Result A QueryFault) → said ≡ other → Plain other → Plain said
along {A} said other is plain = subst (λ (r : Result A QueryFault). Plain r) (sym is) plain

no_memory : {A : Type 0} (said : Result A QueryFault) → Plain said → said ≡ Err RanOut → ⊥
no_memory {A} said plain is = subst (λ (r : Result A QueryFault). Plain r) is plain

plain_file : (A : Type 0) (fault : FileFault) → IsTold fault → Plain {A = A} (Err (file_fault fault))
plain_file A (InLine fault) told = tt
plain_file A (InUnit fault) told = tt
plain_file A FileRanOut told = told

plain_unit : (strs : Option (List ℕ)) (section : List ℕ) (offset : ℕ) → AllPlain (UnitSays strs section offset)
plain_unit strs section offset (Ok text) is = tt
plain_unit strs section offset (Err (Elf fault)) is = tt
plain_unit strs section offset (Err (Info fault)) is = tt
plain_unit strs section offset (Err (Line fault)) is = tt
plain_unit strs section offset (Err (BadUnit fault)) is = tt
plain_unit strs section offset (Err NoSuchUnit) is = tt
plain_unit strs section offset (Err (BadPosition fault)) is = tt
plain_unit strs section offset (Err (Text fault)) is = tt
plain_unit strs section offset (Err (Expand fault)) is = tt
plain_unit strs section offset (Err ReportTooLong) is = tt
plain_unit strs section offset (Err RanOut) is = is

plain_elf : {A : Type 0} (fault : Option ElfFault) (Says : Result A QueryFault → Type 0) → AllPlain Says → AllPlain (ByElf fault Says)
plain_elf (Some fault) Says plain said is = along said (Err (Elf fault)) is tt
plain_elf None Says plain said is = plain said is

plain_section_by : (inside : Bool) (strs : Option (List ℕ)) (section : List ℕ) (offset : ℕ) (said : Result (List ℕ) QueryFault) (fault : QueryFault) → Plain {A = List ℕ} (Err fault) → MatchBool inside (UnitSays strs section offset said) (said ≡ Err fault) → Plain said
plain_section_by true strs section offset said fault plain is = plain_unit strs section offset said is
plain_section_by false strs section offset said fault plain is = along said (Err fault) is plain

plain_section : (offset : ℕ) (s : SectionBytes) → AllPlain (SectionSays offset s)
plain_section offset s said is = plain_section_by (nat_lt offset (length s.macros)) (Some s.strs) s.macros offset said _ tt is

plain_roots_by : {A : Type 0} (read : Result (List Root) InfoFault) (Says : List Root → Result A QueryFault → Type 0) → ((roots : List Root) → AllPlain (Says roots)) → AllPlain (ByRoots read Says)
plain_roots_by (Ok roots) Says plain said is = plain roots said is
plain_roots_by (Err fault) Says plain said is = along said (Err (Info fault)) is tt

plain_roots : {A : Type 0} (Says : SectionBytes → List Root → Result A QueryFault → Type 0) → ((s : SectionBytes) (roots : List Root) → AllPlain (Says s roots)) → (s : SectionBytes) → AllPlain (RootsSay Says s)
plain_roots Says plain s said is = plain_roots_by (roots_in s) (Says s) (plain s) said is

plain_joined : (front : List ℕ) (rest : Result (List ℕ) QueryFault) → Plain rest → Plain (joined front rest)
plain_joined front (Ok text) plain = tt
plain_joined front (Err fault) plain = plain

plain_then : (s : SectionBytes) (root : Root) (first : Result (List (Item (List ℕ))) FileFault) (lines : List (Item (List ℕ)) → List ℕ) (More : Result (List ℕ) QueryFault → Type 0) → RootSays s root first → AllPlain More → AllPlain (ThenSays first lines More)
plain_then s root (Ok items) lines More says plain said is = along said (joined (lines items) is.0) is.2 (plain_joined (lines items) is.0 (plain is.0 is.1))
plain_then s root (Err fault) lines More says plain said is = along said (Err (file_fault fault)) is (plain_file (List ℕ) fault (first_is_told s root fault says))

plain_dump : (s : SectionBytes) (n : ℕ) (roots : List Root) → AllPlain (DumpOf s n roots)
plain_dump s n [] said is = along said (Ok []) is tt
plain_dump s n (root ∷ roots) said is = plain_then s root is.0 (root_lines n root) (DumpOf s (n + 1) roots) is.1 (plain_dump s (n + 1) roots) said is.2

plain_chain_by : (found : Result Scope ℕ) → Plain (of_chain found)
plain_chain_by (Ok scope) = tt
plain_chain_by (Err depth) = tt

plain_scope : (s : SectionBytes) (root : Root) (lines : List ℕ) (line : ℕ) (first : Result (List (Item (List ℕ))) FileFault) → RootSays s root first → Plain (scope_by lines line first)
plain_scope s root lines line (Ok items) says = plain_chain_by (chain_scope items lines line)
plain_scope s root lines line (Err fault) says = plain_file Scope fault (first_is_told s root fault says)

plain_chain : (root : Option Root) (lines : List ℕ) (line : ℕ) (s : SectionBytes) → AllPlain (ChainLeads root lines line s)
plain_chain None lines line s found is = along found (Err NoSuchUnit) is tt
plain_chain (Some root) lines line s found is = along found (scope_by lines line is.0) is.2 (plain_scope s root lines line is.0 is.1)

plain_found : (scope : Option Scope) (More : Result Scope QueryFault → Type 0) → AllPlain More → AllPlain (ByFound scope More)
plain_found (Some scope) More plain found is = along found (Ok scope) is tt
plain_found None More plain found is = plain found is

plain_in_root : (s : SectionBytes) (root : Root) (path : List ℕ) (line : ℕ) (first : Result (List (Item (List ℕ))) FileFault) (More : Result Scope QueryFault → Type 0) → RootSays s root first → AllPlain More → AllPlain (InRoot path line first More)
plain_in_root s root path line (Ok items) More says plain found is = plain_found (path_scope items path line) More plain found is
plain_in_root s root path line (Err fault) More says plain found is = along found (Err (file_fault fault)) is (plain_file Scope fault (first_is_told s root fault says))

plain_named : (path : List ℕ) (line : ℕ) (s : SectionBytes) (roots : List Root) → AllPlain (NamedLeads path line s roots)
plain_named path line s [] found is = along found _ is tt
plain_named path line s (root ∷ roots) found is = plain_in_root s root path line is.0 (NamedLeads path line s roots) is.1 (plain_named path line s roots) found is.2

plain_position : (p : APosition) (s : SectionBytes) (roots : List Root) → AllPlain (PositionLeads p s roots)
plain_position (Chain unit lines line) s roots found is = plain_chain (slice_get roots unit) lines line s found is
plain_position (Named path line) s roots found is = plain_named path line s roots found is

plain_leads : (p : APosition) (file : List ℕ) → AllPlain (LeadsTo p file)
plain_leads p file found is = plain_elf (first_fault file) (RootsSay (PositionLeads p) (view_of file)) (plain_roots (PositionLeads p) (plain_position p) (view_of file)) found is

plain_by_scope : (found : Result Scope QueryFault) (Says : Scope → Result (List ℕ) QueryFault → Type 0) → Plain found → ((scope : Scope) → AllPlain (Says scope)) → AllPlain (ByScope found Says)
plain_by_scope (Ok scope) Says led plain said is = plain scope said is
plain_by_scope (Err fault) Says led plain said is = along said (Err fault) is led

plain_at : (Says : Scope → Result (List ℕ) QueryFault → Type 0) (p : APosition) (file : List ℕ) → ((scope : Scope) → AllPlain (Says scope)) → AllPlain (ScopeSays Says p file)
plain_at Says p file plain said is = plain_by_scope is.0 Says (plain_leads p file is.0 is.1) plain said is.2

plain_line : (found : Result (List Token) ExpandFault) → AllPlain (PrintsLine found)
plain_line (Ok tokens) said is = along said _ is.2 tt
plain_line (Err fault) said is = along said (Err (Expand fault)) is tt

plain_tokens : (Rules : List Token → Result (List Token) ExpandFault → Type 0) (read : Result (List Token) LexFault) → AllPlain (ByTokens Rules read)
plain_tokens Rules (Ok tokens) said is = plain_line is.0 said is.2
plain_tokens Rules (Err fault) said is = along said (Err (Text fault)) is tt

plain_text : (Rules : Macros → Here → List Token → Result (List Token) ExpandFault → Type 0) (text : List ℕ) (scope : Scope) → AllPlain (TextSays Rules text scope)
plain_text Rules text scope said is = plain_tokens (Rules (macros_of scope.table) (here_of scope)) (tokens_of text) said is

pub told_raw : (bytes : List ℕ) (said : Result (List ℕ) QueryFault) → RawSays bytes said → said ≡ Err RanOut → ⊥
told_raw bytes said is = no_memory said (plain_unit None bytes 0 said is)

pub told_unit_at : (offset : ℕ) (file : List ℕ) (said : Result (List ℕ) QueryFault) → UnitAtSays offset file said → said ≡ Err RanOut → ⊥
told_unit_at offset file said is = no_memory said (plain_elf (first_fault file) (SectionSays offset (view_of file)) (plain_section offset (view_of file)) said is)

pub told_dump : (file : List ℕ) (said : Result (List ℕ) QueryFault) → DumpSays file said → said ≡ Err RanOut → ⊥
told_dump file said is = no_memory said (plain_elf (first_fault file) (RootsSay (λ s. DumpOf s 0) (view_of file)) (plain_roots (λ s. DumpOf s 0) (λ s. plain_dump s 0) (view_of file)) said is)

pub told_info : (p : APosition) (name file : List ℕ) (said : Result (List ℕ) QueryFault) → InfoSays p name file said → said ≡ Err RanOut → ⊥
told_info p name file said is = no_memory said (plain_at (λ scope text. text ≡ Ok (info_text name scope.table)) p file (λ scope text same. along text (Ok (info_text name scope.table)) same tt) said is)

pub told_list : (p : APosition) (file : List ℕ) (said : Result (List ℕ) QueryFault) → ListSays p file said → said ≡ Err RanOut → ⊥
told_list p file said is = no_memory said (plain_at (λ scope text. text ≡ Ok (list_text scope.table)) p file (λ scope text same. along text (Ok (list_text scope.table)) same tt) said is)

pub told_expand : (p : APosition) (text file : List ℕ) (said : Result (List ℕ) QueryFault) → ExpandSays p text file said → said ≡ Err RanOut → ⊥
told_expand p text file said is = no_memory said (plain_at (TextSays ExpandsTo text) p file (plain_text ExpandsTo text) said is)

pub told_once : (p : APosition) (text file : List ℕ) (said : Result (List ℕ) QueryFault) → OnceSays p text file said → said ≡ Err RanOut → ⊥
told_once p text file said is = no_memory said (plain_at (TextSays ExpandsOnceTo text) p file (plain_text ExpandsOnceTo text) said is)
