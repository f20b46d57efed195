-- A walk stops with the fault of a store only where a store failed: no other part of a line gives that fault.
use Rattle.std.proofs.Common.{◌≡◌, inl, inr, ℕ, Bool, true, false, cond, nat_le, nat_lt, ◌+◌, length, List, [], ◌∷◌, ◌++◌, Some, None, Option, Result, Ok, Err, sym, subst, arith}
use Rattle.std.specs.Result.{IsErrAnd, IfErr}
use Rattle.mac_io.specs.Causes.{HasCause}
use Rattle.mac_io.specs.declared.headers.Form.{Form}
use Rattle.mac_io.specs.declared.headers.Form.TheVariants.{Quote, Angle}
use Rattle.pp_tokens.specs.declared.token.Token.{Token}
use Rattle.pp_tokens.specs.declared.line.Line.{Line}
use Rattle.macro_table.specs.declared.fault.DefFault.{DefFault}
use Rattle.mac_base.specs.Answers.{Answers}
use Rattle.mac_base.specs.Items.{Item}
use Rattle.mac_base.specs.Items.{Define as DefineItem, Undef as UndefItem, Start as StartItem}
use Rattle.macro_table.specs.Texts.{text_of, body_text}
use lib.Chars.{codes}
use Rattle.macro_table.specs.Definitions.{DefValue, def_of, is_spelled}
use Rattle.macro_expand.specs.declared.here.Here.{Here as HereValue}
use Rattle.macro_expand.specs.Macros.{Macros}
use Rattle.pp_directives.specs.declared.directive.Directive.{Directive}
use Rattle.pp_directives.specs.declared.directive.Directive.TheVariants.{Text, Null, If, Ifdef, Ifndef, Elif, Else, Endif, Include, Define, Undef, LineNumber, Error, Pragma, Unknown}
use Rattle.pp_directives.specs.declared.conditional.open_section.OpenSection.{OpenSection}
use Rattle.pp_directives.specs.Groups.{role_of}
use Rattle.pp_directives.specs.Conditions.{is_due}
use Rattle.pp_unit.specs.declared.open_file.OpenFile.{OpenFile}
use Rattle.pp_unit.specs.declared.directives.header.HeaderName.{HeaderName}
use Rattle.pp_unit.specs.declared.stop.Stop.{Stop}
use Rattle.pp_unit.specs.declared.stop.Stop.TheVariants.{Here}
use Rattle.pp_unit.specs.declared.fault.PpKind.{PpKind}
use Rattle.pp_unit.specs.declared.fault.PpKind.TheVariants.{StoreFault, NoMemory, TooManyEvents, TooMuchText, Predefined, Redefined, BadLine, BadInclude}
use Rattle.pp_unit.specs.Seen.{Seen, added, started, with_path, place_of, number_of, table, text_in, macros, event_limit, text_limit, texts_length, text_length}
use Rattle.pp_unit.specs.Definitions.{defined, undefined, defined_by, is_predefined, conflicts}
use Rattle.pp_unit.specs.LineNumbers.{HasLine, is_line}
use Rattle.pp_unit.specs.LineNumbers.{Stands as LineStands, Fails as LineFails, Expands as LineExpands}
use Rattle.pp_unit.specs.HeaderNames.{NamesHeader, named, spelled_name, angle_named, before_angle, between, form_of}
use Rattle.pp_unit.specs.LineNumbers.{is_plain_string}
use Rattle.pp_unit.specs.HeaderNames.{Stands as NameStands, Fails as NameFails, Expands as NameExpands}
use Rattle.pp_unit.specs.LineConditions.{HasValue, Unresolved, Unexpanded, Faulty, Decided, AnswersBy, operands, here_of}
use Rattle.pp_unit.specs.Lines.{undefined_by, Directs}
use Rattle.pp_unit.specs.Recorded.{ComesTo}
use Rattle.pp_unit.specs.Stopping.{stopped, StopFailed, Given, Turned}

pub no_cause : (a b : ℕ) (failed : Type 0) → b ≡ a → (failed → ⊥) → HasCause a b failed
no_cause a b failed same never = record { later = omega arith; rose = λ f. absurd (never f); kept = λ _. same }

pub as_failed : (a b : ℕ) (P Q : Type 0) → (P → Q) → (Q → P) → HasCause a b P → HasCause a b Q
as_failed a b P Q to from h = record { later = h.later; rose = λ q. h.rose (from q); kept = λ never. h.kept (λ p. never (to p)) }

pub failed_to : (r : Result Seen Stop) (stop : Stop) → IsErrAnd r (λ found. found ≡ stop) → StopFailed {A = Seen} (Err stop) → StopFailed r
failed_to (Ok x) stop e h = absurd e
failed_to (Err found) stop e h = subst (λ (s : Stop). StopFailed {A = Seen} (Err s)) (sym e) h

pub failed_from : (r : Result Seen Stop) (stop : Stop) → IsErrAnd r (λ found. found ≡ stop) → StopFailed r → StopFailed {A = Seen} (Err stop)
failed_from (Ok x) stop e h = absurd e
failed_from (Err found) stop e h = subst (λ (s : Stop). StopFailed {A = Seen} (Err s)) e h

-- no fault of a store
abbrev pub IsPlain : {A : Type 0} → Result A PpKind → Type 0
IsPlain (Ok x) = Unit {0}
IsPlain (Err kind) = kind ≡ StoreFault → ⊥

pub plain_stop : {A : Type 0} (n : ℕ) (r : Result A PpKind) (stop : Stop) → ◌≡◌ {A = Result A Stop} (Err stop) (stopped n r) → IsPlain r → StopFailed {A = Seen} (Err stop) → ⊥
plain_stop n (Ok x) stop is plain h = cc
plain_stop n (Err kind) stop is plain h = let same : stop ≡ Here n kind = cc in plain (subst (λ (s : Stop). StopFailed {A = Seen} (Err s)) same h)

-- a part of a line that is handed on by `?`
pub handed_plain : {A : Type 0} (n : ℕ) (r : Result A PpKind) (stop : Stop) (q : Result Seen Stop) → ◌≡◌ {A = Result A Stop} (Err stop) (stopped n r) → IsPlain r → IsErrAnd q (λ found. found ≡ stop) → StopFailed q → ⊥
handed_plain n r stop q is plain e h = plain_stop n r stop is plain (failed_from q stop e h)

-- one that is answered
pub answered_plain : (n : ℕ) (r : Result Seen PpKind) (q : Result Seen Stop) → q ≡ stopped n r → IsPlain r → StopFailed q → ⊥
answered_plain n (Ok x) q is plain h = subst (λ (s : Result Seen Stop). StopFailed s) is h
answered_plain n (Err kind) q is plain h = plain (subst (λ (s : Result Seen Stop). StopFailed s) is h)

pub plain_out : {A : Type 0} (r : Result A PpKind) → IfErr r (λ kind. kind ≡ NoMemory) → IsPlain r
plain_out (Ok x) is = tt
plain_out (Err kind) is = λ e. cc

pub plain_comes : {A : Type 0} (Rules : Result A PpKind → Type 0) (r : Result A PpKind) → ((q : Result A PpKind) → Rules q → IsPlain q) → ComesTo Rules r → IsPlain r
plain_comes Rules (Ok x) plain h = tt
plain_comes Rules (Err kind) plain (inl out) = λ e. cc
plain_comes Rules (Err kind) plain (inr h) = plain (Err kind) h

plain_limits : {A : Type 0} (b c : Bool) (x : A) → IsPlain (cond b (Err TooManyEvents) (cond c (Err TooMuchText) (Ok x)))
plain_limits true c x = λ e. cc
plain_limits false true x = λ e. cc
plain_limits false false x = tt

pub plain_added : (seen : Seen) (item : Item ℕ) → IsPlain (added seen item)
plain_added seen item =
    plain_limits {A = Seen} (nat_le event_limit (length seen.items)) (nat_lt text_limit (texts_length seen.items + text_length item)) (record seen { items = seen.items ++ item ∷ [] })

pub plain_started : (seen : Seen) (line : ℕ) (path : List ℕ) → IsPlain (started seen line path)
plain_started seen line path = plain_added (record seen { files = with_path seen.files path (place_of seen path) }) (StartItem line (number_of seen path))

pub plain_if : {A : Type 0} (b : Bool) (r q : Result A PpKind) → IsPlain r → IsPlain q → IsPlain (cond b r q)
plain_if true r q a b = a
plain_if false r q a b = b

pub plain_defined : (seen : Seen) (line : ℕ) (def : DefValue) → IsPlain (defined seen line def)
plain_defined seen line def =
    plain_if {A = Seen} (is_predefined def.name) (Err (Predefined def.name)) _ (λ e. cc)
    (plain_if {A = Seen} (conflicts (text_in (table seen) def.name) def) (Err (Redefined def.name)) (added seen (DefineItem line (text_of def))) (λ e. cc) (plain_added seen (DefineItem line (text_of def))))

pub plain_undefined : (seen : Seen) (line : ℕ) (name : List ℕ) → IsPlain (undefined seen line name)
plain_undefined seen line name =
    plain_if {A = Seen} (is_predefined name) (Err (Predefined name)) (added seen (UndefItem line name)) (λ e. cc) (plain_added seen (UndefItem line name))

plain_define : (seen : Seen) (line : ℕ) (r : Result DefValue DefFault) → IsPlain (defined_by seen line r)
plain_define seen line (Ok def) = plain_defined seen line def
plain_define seen line (Err fault) = λ e. cc

plain_undef : (seen : Seen) (line : ℕ) (name : Option (List ℕ)) → IsPlain (undefined_by seen line name)
plain_undef seen line None = λ e. cc
plain_undef seen line (Some name) = plain_undefined seen line name

plain_line : {A : Type 0} (macros : Macros) (here : HereValue) (tokens : List Token) (x : A) (r : Result A PpKind) → HasLine macros here tokens x r → IsPlain r
plain_line macros here tokens x _ (LineStands is) = tt
plain_line macros here tokens x _ (LineFails is h) = λ e. cc
plain_line macros here tokens x _ (LineExpands {list = list} is h) = plain_if (is_line list) (Ok x) (Err BadLine) tt (λ e. cc)

by_same : {A : Type 0} (r q : Result A PpKind) → r ≡ q → IsPlain q → IsPlain r
by_same {A = A} r q is plain = subst (λ (s : Result A PpKind). IsPlain s) (sym is) plain

-- lines that are neither inclusions nor conditional directives
pub plain_directs : (open_file : OpenFile) (here : Line) (directive : Directive) (seen : Seen) (r : Result Seen PpKind) → Directs open_file here directive seen r → IsPlain r
plain_directs open_file here Text seen r h = by_same r _ h tt
plain_directs open_file here Null seen r h = by_same r _ h tt
plain_directs open_file here If seen r h = by_same r _ h tt
plain_directs open_file here (Ifdef name) seen r h = by_same r _ h tt
plain_directs open_file here (Ifndef name) seen r h = by_same r _ h tt
plain_directs open_file here Elif seen r h = by_same r _ h tt
plain_directs open_file here Else seen r h = by_same r _ h tt
plain_directs open_file here Endif seen r h = by_same r _ h tt
plain_directs open_file here Include seen r h = by_same r _ h tt
plain_directs open_file here Define seen r h = by_same r _ h (plain_define seen here.number (def_of (operands here)))
plain_directs open_file here (Undef name) seen r h = by_same r _ h (plain_undef seen here.number name)
plain_directs open_file here LineNumber seen r h = plain_line (macros seen) (here_of open_file here) (operands here) seen r h
plain_directs open_file here Error seen r h = by_same r _ h (λ e. cc)
plain_directs open_file here Pragma seen r h = by_same r _ h tt
plain_directs open_file here Unknown seen r h = by_same r _ h (λ e. cc)

plain_value : (seen : Seen) (here : HereValue) (tokens : List Token) (r : Result Bool PpKind) → HasValue seen here tokens r → IsPlain r
plain_value seen here tokens _ (Unresolved is) = λ e. cc
plain_value seen here tokens _ (Unexpanded is h) = λ e. cc
plain_value seen here tokens _ (Faulty is h v) = λ e. cc
plain_value seen here tokens _ (Decided is h v) = tt

plain_answer : (open_file : OpenFile) (here : Line) (seen : Seen) (directive : Directive) (r : Result Bool PpKind) → AnswersBy open_file here seen directive r → IsPlain r
plain_answer open_file here seen If r h = plain_value seen (here_of open_file here) (operands here) r h
plain_answer open_file here seen Elif r h = plain_value seen (here_of open_file here) (operands here) r h
plain_answer open_file here seen (Ifdef None) r h = by_same r _ h (λ e. cc)
plain_answer open_file here seen (Ifdef (Some name)) r h = by_same r _ h tt
plain_answer open_file here seen (Ifndef None) r h = by_same r _ h (λ e. cc)
plain_answer open_file here seen (Ifndef (Some name)) r h = by_same r _ h tt
plain_answer open_file here seen Text r h = by_same r _ h tt
plain_answer open_file here seen Null r h = by_same r _ h tt
plain_answer open_file here seen Else r h = by_same r _ h tt
plain_answer open_file here seen Endif r h = by_same r _ h tt
plain_answer open_file here seen Include r h = by_same r _ h tt
plain_answer open_file here seen Define r h = by_same r _ h tt
plain_answer open_file here seen (Undef name) r h = by_same r _ h tt
plain_answer open_file here seen LineNumber r h = by_same r _ h tt
plain_answer open_file here seen Error r h = by_same r _ h tt
plain_answer open_file here seen Pragma r h = by_same r _ h tt
plain_answer open_file here seen Unknown r h = by_same r _ h tt

plain_given : (due : Bool) (open_file : OpenFile) (here : Line) (seen : Seen) (directive : Directive) (r : Result Bool PpKind) → Given due (AnswersBy open_file here seen directive) r → IsPlain r
plain_given true open_file here seen directive r h = plain_answer open_file here seen directive r h
plain_given false open_file here seen directive r h = by_same r _ h tt

-- conditional directives
pub plain_turned : (open_file : OpenFile) (here : Line) (seen : Seen) (directive : Directive) (old new : List OpenSection) (r : Result (Unit {0}) PpKind) → Turned open_file here seen directive old new r → IsPlain r
plain_turned open_file here seen directive old new (Ok x) h = tt
plain_turned open_file here seen directive old new (Err kind) (inl out) = λ e. cc
plain_turned open_file here seen directive old new (Err kind) (inr (inl given)) = plain_given (is_due (role_of directive) old) open_file here seen directive (Err kind) given
plain_turned open_file here seen directive old new (Err kind) (inr (inr (answer, given, fault, is, turns))) = λ e. cc

plain_named : (form : Form) (name : List ℕ) → IsPlain (named form name)
plain_named form [] = λ e. cc
plain_named form (byte ∷ bytes) = tt

plain_angle : (tokens : Option (List Token)) → IsPlain (angle_named tokens)
plain_angle None = λ e. cc
plain_angle (Some tokens) = plain_named Angle (body_text tokens)

plain_spelled : (tokens : List Token) → IsPlain (spelled_name tokens)
plain_spelled [] = λ e. cc
plain_spelled (u ∷ []) = plain_if {A = HeaderName} (is_plain_string u) (named Quote (between u.text)) (Err BadInclude) (plain_named Quote (between u.text)) (λ e. cc)
plain_spelled (u ∷ v ∷ ts) = plain_if {A = HeaderName} (is_spelled (codes "<") u) (angle_named (before_angle (v ∷ ts))) (Err BadInclude) (plain_angle (before_angle (v ∷ ts))) (λ e. cc)

-- the names of headers
pub plain_header : (macros : Macros) (here : HereValue) (tokens : List Token) (r : Result HeaderName PpKind) → NamesHeader macros here tokens r → IsPlain r
plain_header macros here tokens _ (NameStands {text = text} is) = plain_named (form_of text) (between text)
plain_header macros here tokens _ (NameFails is h) = λ e. cc
plain_header macros here tokens _ (NameExpands {list = list} is h) = plain_spelled list

pub cause_at : (a b n : ℕ) (failed : Type 0) → b ≡ a → HasCause b n failed → HasCause a n failed
cause_at a b n failed is h = subst (λ m. HasCause m n failed) is h

-- what a function gives
pub plain_answers : {A : Type 0} (r reading : Result A PpKind) → IsPlain reading → Answers NoMemory r reading → IsPlain r
plain_answers (Ok x) reading plain h = tt
plain_answers {A = A} (Err kind) reading plain (inl out) = λ e. cc
plain_answers {A = A} (Err kind) reading plain (inr is) = subst (λ (q : Result A PpKind). IsPlain q) is plain
