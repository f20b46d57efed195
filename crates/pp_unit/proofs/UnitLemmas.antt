-- What a translation unit comes to, by what the code does with it.
use Rattle.std.proofs.Common.{◌≡◌, ◌⊎◌, inl, inr, ℕ, List, [], ◌∷◌, Result, Ok, Err, refl, sym, ap, subst, ◌∙◌}
use Rattle.mac_base.specs.declared.events.Events.{Events}
use Rattle.mac_base.specs.Input.{◌>>=◌}
use Rattle.mac_io.specs.Search.{Finds}
use Rattle.mac_io.specs.declared.headers.FileId.{FileId}
use Rattle.mac_io.specs.declared.headers.Located.{Located}
use Rattle.macro_table.specs.declared.fault.TextFault.{TextFault}
use Rattle.macro_table.specs.declared.fault.TextFault.TheVariants.{Lex as TextLex, Def as TextDef}
use Rattle.macro_table.specs.declared.fault.TextFault.TheVariants.{NoMemory as TextRanOut}
use Rattle.macro_table.specs.declared.fault.DefFault.TheVariants.{NoName}
use Rattle.macro_table.specs.Definitions.{DefValue}
use Rattle.macro_table.specs.Texts.{def_of_text}
use Rattle.pp_tokens.specs.Kinds.{is_identifier}
use Rattle.pp_directives.specs.Following.{Stops, Goes}
use Rattle.pp_unit.specs.declared.open_file.OpenFile.{OpenFile}
use Rattle.pp_unit.specs.declared.request.UnitSpec.{UnitSpec}
use Rattle.pp_unit.specs.declared.request.Command.{Command}
use Rattle.pp_unit.specs.declared.request.Command.TheVariants.{Define as DefineWord, Undef as UndefWord}
use Rattle.pp_unit.specs.declared.stop.Stop.{Stop}
use Rattle.pp_unit.specs.declared.stop.Stop.TheVariants.{Here, Inside}
use Rattle.pp_unit.specs.declared.fault.PpFault.{PpFault}
use Rattle.pp_unit.specs.declared.fault.PpKind.{PpKind}
use Rattle.pp_unit.specs.declared.fault.PpKind.TheVariants.{Def, NoMemory}
use Rattle.pp_unit.specs.Kinds.{fault_at, ran_out}
use Rattle.pp_unit.specs.Seen.{Seen, Marked}
use Rattle.pp_unit.specs.Definitions.{defined_by_text, define_text, undefined, commanded, all_commanded, predefined}
use Rattle.pp_unit.specs.Files.{Stores, FileWalk, IncludesFound, Includes, Walks}
use Rattle.pp_unit.specs.Walk.{open_limit, outside, Walk, AreSeen, IsWalked}
use Rattle.pp_unit.specs.Stopping.{refused, stop_answer, with_marks, HasLeft, StopComesTo}
use Rattle.pp_unit.proofs.EnterLemmas.{stop_map}
use Rattle.pp_unit.proofs.FileLemmas.{refused_is}
use Rattle.pp_unit.proofs.CauseLemmas.{IsPlain, plain_defined, plain_undefined, plain_if}

-- the file that the search found is the one that is included
pub primary_found : (stores : Stores) (Inner : FileWalk) (outer : OpenFile) (source : List ℕ) (ids : List FileId) (m : Marked) (located : Located) (old new bytes : List ℕ) (result : Result Seen Stop) →
    Finds stores ids located old new → old ≡ [] → bytes ≡ new → StopComesTo outer (IncludesFound stores Inner outer 0 source m located bytes) result → StopComesTo outer (Includes stores Inner outer 0 source ids m) result
primary_found stores Inner outer source ids m located old new bytes result finds is_old is_new found =
    let here : Finds stores ids located [] bytes =
    subst (λ (b : List ℕ). Finds stores ids located [] b) (sym is_new) (subst (λ (o : List ℕ). Finds stores ids located o new) is_old finds) in
    stop_map outer (IncludesFound stores Inner outer 0 source m located bytes) (Includes stores Inner outer 0 source ids m) (λ r f. (located, bytes, here, f)) result found

refused_walk : (stores : Stores) (spec : UnitSpec) (kind : PpKind) (fault : PpFault) → fault ≡ refused outside 0 kind → ((kind ≡ NoMemory) ⊎ (refused outside 0 kind ≡ fault_at outside 0 kind)) →
    Walk stores spec (Err (fault_at outside 0 kind)) → (fault ≡ ran_out) ⊎ Walk stores spec (Err fault)
refused_walk stores spec kind fault is (inl out) walks = inl (is ∙ ap (refused outside 0) out)
refused_walk stores spec kind fault is (inr same) walks = inr (subst (λ (f : PpFault). Walk stores spec (Err f)) (sym (is ∙ same)) walks)

-- a word of the command that is rejected
pub begin_fails : (stores : Stores) (spec : UnitSpec) (outer : OpenFile) (kind : PpKind) (fault : PpFault) → outer ≡ outside → (kind ≡ NoMemory) ⊎ (all_commanded predefined spec.commands ≡ Err kind) → fault ≡ refused outer 0 kind →
    IsWalked stores spec (Err fault)
begin_fails stores spec outer kind fault is (inl out) refusal = inl (refusal ∙ ap (refused outer 0) out)
begin_fails stores spec outer kind fault is (inr e) refusal =
    refused_walk stores spec kind fault (refusal ∙ ap (λ (w : OpenFile). refused w 0 kind) is) (refused_is outside 0 kind) (Stops (Err kind, sym e, refl))

goes_on : (stores : Stores) (spec : UnitSpec) (begun : Seen) (r : Result Marked PpFault) → all_commanded predefined spec.commands ≡ Ok begun →
    Includes stores (Walks stores open_limit) outside 0 spec.source (record { store = 0; name = spec.source } ∷ []) (with_marks begun []) r → Walk stores spec r
goes_on stores spec begun r begins includes = Goes {s = with_marks begun []} (Ok begun, sym begins, refl) includes

-- a unit that is walked
pub unit_ends : (stores : Stores) (spec : UnitSpec) (outer : OpenFile) (begun after : Seen) (events : Events) → outer ≡ outside → all_commanded predefined spec.commands ≡ Ok begun →
    StopComesTo outer (Includes stores (Walks stores open_limit) outer 0 spec.source (record { store = 0; name = spec.source } ∷ []) (with_marks begun [])) (Ok after) → AreSeen events after → IsWalked stores spec (Ok events)
unit_ends stores spec outer begun after events is begins (marks, h) are =
    (with_marks after marks, goes_on stores spec begun _ begins (subst (λ (w : OpenFile). Includes stores (Walks stores open_limit) w 0 spec.source (record { store = 0; name = spec.source } ∷ []) (with_marks begun []) (Ok (with_marks after marks))) is h), are)

stop_walk : (stores : Stores) (spec : UnitSpec) (begun : Seen) (stop : Stop) (fault : PpFault) → all_commanded predefined spec.commands ≡ Ok begun →
    StopComesTo outside (Includes stores (Walks stores open_limit) outside 0 spec.source (record { store = 0; name = spec.source } ∷ []) (with_marks begun [])) (Err stop) → fault ≡ stop_answer outside stop → IsWalked stores spec (Err fault)
stop_walk stores spec begun (Here n kind) fault begins (inl out) is = inl (is ∙ ap (refused outside n) out)
stop_walk stores spec begun (Inside f) fault begins (inl out) is = inl (is ∙ out)
stop_walk stores spec begun (Here n kind) fault begins (inr h) is = by_line (refused_is outside n kind)
  where
    by_line : ((kind ≡ NoMemory) ⊎ (refused outside n kind ≡ fault_at outside n kind)) → (fault ≡ ran_out) ⊎ Walk stores spec (Err fault)
    by_line (inl out) = inl (is ∙ ap (refused outside n) out)
    by_line (inr same) = inr (subst (λ (f : PpFault). Walk stores spec (Err f)) (sym (is ∙ same)) (goes_on stores spec begun _ begins h))
stop_walk stores spec begun (Inside f) fault begins (inr h) is = inr (subst (λ (g : PpFault). Walk stores spec (Err g)) (sym is) (goes_on stores spec begun _ begins h))

-- a unit that stops
pub unit_stops : (stores : Stores) (spec : UnitSpec) (outer : OpenFile) (begun : Seen) (stop : Stop) (fault : PpFault) → outer ≡ outside → all_commanded predefined spec.commands ≡ Ok begun →
    StopComesTo outer (Includes stores (Walks stores open_limit) outer 0 spec.source (record { store = 0; name = spec.source } ∷ []) (with_marks begun [])) (Err stop) → fault ≡ stop_answer outer stop → IsWalked stores spec (Err fault)
unit_stops stores spec outer begun stop fault is begins h same =
    stop_walk stores spec begun stop fault begins
    (subst (λ (w : OpenFile). StopComesTo w (Includes stores (Walks stores open_limit) w 0 spec.source (record { store = 0; name = spec.source } ∷ []) (with_marks begun [])) (Err stop)) is h)
    (same ∙ ap (λ (w : OpenFile). stop_answer w stop) is)

plain_text : (seen : Seen) (r : Result DefValue TextFault) → IsPlain (defined_by_text seen r)
plain_text seen (Ok def) = plain_defined seen 0 def
plain_text seen (Err (TextLex f)) = λ e. cc
plain_text seen (Err (TextDef f)) = λ e. cc
plain_text seen (Err TextRanOut) = λ e. cc

plain_command : (seen : Seen) (command : Command) → IsPlain (commanded seen command)
plain_command seen (DefineWord word) = plain_text seen (def_of_text (define_text word))
plain_command seen (UndefWord word) = plain_if {A = Seen} (is_identifier word) (undefined seen 0 word) (Err (Def NoName)) (plain_undefined seen 0 word) (λ e. cc)

plain_bind : (r : Result Seen PpKind) (f : Seen → Result Seen PpKind) → IsPlain r → ((s : Seen) → IsPlain (f s)) → IsPlain (r >>= f)
plain_bind (Ok s) f plain next = next s
plain_bind (Err kind) f plain next = plain

-- the words of the command
pub plain_commands : (seen : Seen) (commands : List Command) → IsPlain (all_commanded seen commands)
plain_commands seen [] = tt
plain_commands seen (command ∷ commands) = plain_bind (commanded seen command) (λ next. all_commanded next commands) (plain_command seen command) (λ s. plain_commands s commands)

-- so many files may be opened after the primary one
pub outside_left : (outer : OpenFile) → outer ≡ outside → HasLeft 200 outer
outside_left outer is = subst (λ (w : OpenFile). HasLeft 200 w) (sym is) refl
