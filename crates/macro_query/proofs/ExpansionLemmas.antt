-- What a text expands to in the scope that was found, from what the calls answer.
use Rattle.std.proofs.Common.{◌≡◌, ℕ, Bool, List, ◌++◌, Option, Some, None, Result, Ok, Err, inl, inr, refl, ap, subst, ◌∙◌, sym}
use Rattle.std.specs.Prelude.{codes, slice_get, IsErrAnd}
use Rattle.std.specs.Option.{option_map}
use Rattle.std.specs.FinMap as finite
use Rattle.pp_tokens.specs.declared.token.Token.{Token}
use Rattle.pp_tokens.specs.declared.fault.LexFault.{LexFault}
use Rattle.pp_tokens.specs.declared.fault.LexFault.TheVariants.{NulByte, OpenComment, NoMemory as LexRanOut}
use Rattle.pp_tokens.specs.Cut.{LexesText}
use Rattle.pp_tokens.specs.Printing.{Prints}
use Rattle.macro_table.specs.Tables.{EntryValue, TableOf, renamed_value}
use Rattle.macro_table.specs.Texts.{tokens_of, def_of_text}
use Rattle.macro_table.proofs.TextLemmas.{tokens_given, fault_given}
use Rattle.import_graph.specs.Graph.{GraphValue}
use Rattle.mac_base.specs.ItemLines.{path_in}
use Rattle.macro_expand.specs.declared.here.Here.{Here}
use Rattle.macro_expand.specs.declared.fault.ExpandFault.{ExpandFault}
use Rattle.macro_expand.specs.declared.fault.ExpandFault.TheVariants.{OpenCall, ArgCount, BadPaste, BadString, BadDefinition, LoneQuote, TooLong, NoMemory as ExpandRanOut}
use Rattle.macro_expand.specs.Macros.{Macros, macros_of, sound_def}
use Rattle.macro_expand.specs.Answering.{IsAnswer}
use Rattle.macro_query.specs.declared.fault.QueryFault.TheVariants.{Text, Expand}
use Rattle.macro_query.specs.Limits.{Answers, limited}
use Rattle.mac_base.specs.ReportText.{Tells}
use Rattle.macro_query.specs.Faults.{text_fault, expand_fault}
use Rattle.macro_query.specs.Scopes.{path_of_file, IsNamed, IsScope}
use Rattle.position_table.specs.Scopes.{Scope}
use Rattle.macro_query.specs.Expansions.{here_of, PrintsLine, ByTokens, TextSays}
use Rattle.macro_query.proofs.QueryLemmas.{Said, handed_on, answers_by}

-- a rule for texts
abbrev Rule : Type 1
Rule = Macros → Here → List Token → Result (List Token) ExpandFault → Type 0

text_named : (paths : List (List ℕ)) (o : Option (EntryValue ℕ)) →
    option_map (λ (entry : EntryValue (List ℕ)). sound_def (def_of_text entry.text)) (option_map (renamed_value (path_in paths)) o) ≡ option_map (λ (entry : EntryValue ℕ). sound_def (def_of_text entry.text)) o
text_named paths None = refl
text_named paths (Some value) = refl

same_macros : (paths : List (List ℕ)) (numbers : TableOf ℕ) (table : TableOf (List ℕ)) → IsNamed paths numbers table → macros_of numbers ≡ macros_of table
same_macros paths numbers table is = λ i name.
    sym (ap (option_map (λ (entry : EntryValue (List ℕ)). sound_def (def_of_text entry.text))) (is.1 name) ∙ text_named paths (finite.get numbers name)) i

-- in the scope that was found
pub in_scope : (result : Said) (Rules : Rule) (text : List ℕ) (graph : GraphValue) (file : Option ℕ) (at : ℕ) (numbers : TableOf ℕ) (here : Here) (scope : Scope) → IsScope graph file at numbers scope →
    (here.line ≡ at) × (here.file ≡ path_of_file graph.paths file) →
    Answers result (ByTokens (Rules (macros_of numbers) here) (tokens_of text)) → Answers result (TextSays Rules text scope)
in_scope result Rules text graph file at numbers here scope is there answer =
    let same : here ≡ here_of scope = λ i. record { line = (there.0 ∙ is.line) i; file = (there.1 ∙ is.path) i } in
    subst (λ (h : Here). Answers result (ByTokens (Rules (macros_of scope.table) h) (tokens_of text))) same
    (subst (λ (m : Macros). Answers result (ByTokens (Rules m here) (tokens_of text))) (same_macros graph.paths numbers scope.table is.table) answer)

-- a rule for the tokens of a text
abbrev Rules : Type 1
Rules = List Token → Result (List Token) ExpandFault → Type 0

refuses : (result : Said) (R : Rules) (text : List ℕ) (fault : LexFault) → tokens_of text ≡ Err fault → result ≡ Err (Text fault) → Answers result (ByTokens R (tokens_of text))
refuses result R text fault is said = inr (Err (Text fault), subst (λ (r : Result (List Token) LexFault). ByTokens R r (Err (Text fault))) (sym is) refl, said)

-- a text without tokens
pub text_stops : (result : Said) (R : Rules) (text : List ℕ) (fault : LexFault) → LexesText text (Err fault) → IsErrAnd result (λ found. found ≡ text_fault fault) → Answers result (ByTokens R (tokens_of text))
text_stops result R text (NulByte line) is handed = refuses result R text (NulByte line) (fault_given text (NulByte line) tt is) (handed_on result _ handed)
text_stops result R text (OpenComment line) is handed = refuses result R text (OpenComment line) (fault_given text (OpenComment line) tt is) (handed_on result _ handed)
text_stops result R text LexRanOut is handed = inl (handed_on result _ handed)

fails : (result : Said) (R : Rules) (text : List ℕ) (tokens : List Token) (fault : ExpandFault) → LexesText text (Ok tokens) → R tokens (Err fault) → result ≡ Err (Expand fault) → Answers result (ByTokens R (tokens_of text))
fails result R text tokens fault is rule said =
    inr (Err (Expand fault), subst (λ (r : Result (List Token) LexFault). ByTokens R r (Err (Expand fault))) (sym (tokens_given text tokens is)) (Err fault, rule, refl), said)

-- a text that has no expansion
pub expansion_stops : (result : Said) (R : Rules) (text : List ℕ) (tokens : List Token) (fault : ExpandFault) → LexesText text (Ok tokens) → IsAnswer (R tokens) (Err fault) → IsErrAnd result (λ found. found ≡ expand_fault fault) →
    Answers result (ByTokens R (tokens_of text))
expansion_stops result R text tokens (OpenCall name) is rule handed = fails result R text tokens _ is rule (handed_on result _ handed)
expansion_stops result R text tokens (ArgCount name got) is rule handed = fails result R text tokens _ is rule (handed_on result _ handed)
expansion_stops result R text tokens (BadPaste left right) is rule handed = fails result R text tokens _ is rule (handed_on result _ handed)
expansion_stops result R text tokens (BadString name) is rule handed = fails result R text tokens _ is rule (handed_on result _ handed)
expansion_stops result R text tokens (BadDefinition name) is rule handed = fails result R text tokens _ is rule (handed_on result _ handed)
expansion_stops result R text tokens LoneQuote is rule handed = fails result R text tokens _ is rule (handed_on result _ handed)
expansion_stops result R text tokens TooLong is rule handed = fails result R text tokens _ is rule (handed_on result _ handed)
expansion_stops result R text tokens ExpandRanOut is rule handed = inl (handed_on result _ handed)

-- a text whose expansion is printed
pub expansion_prints : (result : Said) (R : Rules) (text : List ℕ) (tokens expanded : List Token) → LexesText text (Ok tokens) → R tokens (Ok expanded) → Answers result (PrintsLine (Ok expanded)) → Answers result (ByTokens R (tokens_of text))
expansion_prints result R text tokens expanded is rule answer =
    answers_by result (PrintsLine (Ok expanded)) (ByTokens R (tokens_of text)) answer
    (λ said says. subst (λ (r : Result (List Token) LexFault). ByTokens R r said) (sym (tokens_given text tokens is)) (Ok expanded, rule, says))

-- a line that is told
pub line_told : (result : Said) (tokens : List Token) (text : List ℕ) (is_long : Bool) (told : List ℕ) → Prints tokens text → Tells is_long told (text ++ codes "\n") →
    ((whole : List ℕ) → Tells is_long told whole → result ≡ limited whole) → Answers result (PrintsLine (Ok tokens))
line_told result tokens text is_long told prints tells ends = inr (Ok (text ++ codes "\n"), (text, prints, refl), ends (text ++ codes "\n") tells)
