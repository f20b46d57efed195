-- What conditions, header names and lines without an inclusion come to: one thing each, and never that a store failed.
use Rattle.std.proofs.Common.{◌≡◌, ◌≢◌, ◌↔◌, ℕ, Bool, true, false, cond, List, [], ◌∷◌, Option, None, Some, Result, Ok, Err, refl, sym, ap, ◌∙◌, length, ◌++◌, ◌+◌}
use Rattle.std.specs.Prelude.{nat_le, nat_lt}
use lib.Chars.{codes}
use Rattle.mac_base.specs.Input.{◌>>=◌}
use Rattle.mac_io.specs.declared.headers.Form.{Form}
use Rattle.mac_io.specs.declared.headers.Form.TheVariants.{Quote, Angle}
use Rattle.pp_tokens.specs.declared.token.Token.{Token}
use Rattle.pp_tokens.specs.declared.line.Line.{Line}
use Rattle.pp_tokens.specs.declared.fault.LexFault.TheVariants.{NoMemory as LexRanOut}
use Rattle.pp_tokens.specs.Kinds.{is_identifier}
use Rattle.macro_table.specs.declared.fault.DefFault.{DefFault}
use Rattle.macro_table.specs.declared.fault.DefFault.TheVariants.{NoName as DefNoName, NoMemory as DefRanOut}
use Rattle.macro_table.specs.declared.fault.TextFault.{TextFault}
use Rattle.macro_table.specs.declared.fault.TextFault.TheVariants.{Lex as TextLex, Def as TextDef}
use Rattle.macro_table.specs.declared.fault.TextFault.TheVariants.{NoMemory as TextRanOut}
use Rattle.macro_table.specs.Definitions.{DefValue, def_of, is_spelled}
use Rattle.macro_table.specs.Texts.{text_of, def_of_text, body_text}
use Rattle.mac_base.specs.Items.{Item, Define, Undef, Start}
use Rattle.macro_table.proofs.PlainLemmas.{faults_are_plain}
use Rattle.macro_expand.specs.declared.here.Here.{Here}
use Rattle.macro_expand.specs.declared.fault.ExpandFault.{ExpandFault}
use Rattle.macro_expand.specs.Macros.{Macros}
use Rattle.macro_expand.specs.Expansion.{expansion, whole}
use Rattle.macro_expand.specs.Rules.{Expands, ExpandsTo}
use Rattle.macro_expand.proofs.OneAnswer.{complete, only}
use Rattle.macro_expand.proofs.WholeTexts.{one_whole}
use Rattle.pp_directives.specs.declared.fault.ExprFault.{ExprFault}
use Rattle.pp_directives.specs.declared.directive.Directive.{Directive}
use Rattle.pp_directives.specs.declared.directive.Directive.TheVariants.{Text, Null, If, Ifdef, Ifndef, Elif, Else, Endif, Include, Define as DefineLine, Undef as UndefLine, LineNumber, Error, Pragma, Unknown}
use Rattle.pp_directives.specs.Directives.{directive_of}
use Rattle.pp_directives.specs.Defined.{is_defined, resolved}
use Rattle.pp_directives.specs.Values.{IsCondition}
use Rattle.pp_directives.proofs.AnswerLemmas.{an_answer, one_answer}
use Rattle.pp_unit.specs.declared.open_file.OpenFile.{OpenFile}
use Rattle.pp_unit.specs.declared.directives.header.HeaderName.{HeaderName}
use Rattle.pp_unit.specs.declared.request.Command.{Command}
use Rattle.pp_unit.specs.declared.request.Command.TheVariants.{Define as DefineWord, Undef as UndefWord}
use Rattle.pp_unit.specs.declared.fault.PpFault.{PpFault}
use Rattle.pp_unit.specs.declared.fault.PpKind.{PpKind}
use Rattle.pp_unit.specs.declared.fault.PpKind.TheVariants.{StoreFault, Expr, Expand, BadInclude, BadLine, Predefined, Redefined, Def, TooManyEvents, TooMuchText, ErrorDirective, Directive as BadDirective}
use Rattle.pp_unit.specs.declared.fault.DirectiveFault.TheVariants.{UnknownName}
use Rattle.pp_unit.specs.Kinds.{placed}
use Rattle.pp_unit.specs.Seen.{Seen, Marked, table, macros, text_in, added, started, texts_length, text_length, event_limit, text_limit, with_path, place_of, number_of}
use Rattle.pp_unit.specs.Definitions.{is_predefined, conflicts, defined, undefined, defined_by, defined_by_text, define_text, commanded, all_commanded}
use Rattle.pp_unit.specs.LineNumbers.{is_line, line_checked, HasLine, Stands as LineStands, Fails as LineFails, Expands as LineExpands, is_plain_string}
use Rattle.pp_unit.specs.HeaderNames.{between, form_of, named, header_text, before_angle, angle_named, spelled_name, NamesHeader, Stands, Fails, Expands as NameExpands}
use Rattle.pp_unit.specs.LineConditions.{operands, here_of, HasValue, Unresolved, Unexpanded, Faulty, Decided, defined_answer, undefined_answer, AnswersBy, HasAnswer}
use Rattle.pp_unit.specs.Lines.{pragma_seen, undefined_by, Directs}
use Rattle.pp_unit.specs.Files.{Part, keeping_marks}
use Rattle.pp_unit.specs.WalkLaws.{IsPlain}
use Rattle.pp_unit.proofs.OnePlainLemmas.{PlainExpand, plain_text, PlainExpr, plain_condition, plain_resolved}
use Rattle.pp_unit.proofs.OneGoodLemmas.{Good, One, equal_one, cond_good, mapped_one}

-- not that a store failed
abbrev pub Free : PpKind → Type 0
Free kind = kind ≢ StoreFault

abbrev pub FreeFault : PpFault → Type 0
FreeFault fault = Free fault.what

-- neither that nor want of memory
abbrev pub Plain : PpKind → Type 0
Plain kind = Free kind × IsPlain kind

abbrev pub PlainFault : PpFault → Type 0
PlainFault fault = Plain fault.what

abbrev pub GoodKind : {A : Type 0} → Result A PpKind → Type 0
GoodKind r = Good Plain r

-- Faults get a place.

placed_good : {A : Type 0} (open_file : OpenFile) (number : ℕ) (r : Result A PpKind) → GoodKind r → Good PlainFault (placed open_file number r)
placed_good open_file number (Ok x) good = tt
placed_good open_file number (Err kind) good = good

placed_back : {A : Type 0} (open_file : OpenFile) (number : ℕ) (r : Result A PpKind) → Good FreeFault (placed open_file number r) → Good Free r
placed_back open_file number (Ok x) good = tt
placed_back open_file number (Err kind) good = good

pub placed_one : {A : Type 0} (open_file : OpenFile) (number : ℕ) (P : Result A PpKind → Type 0) → One Free Plain P → One FreeFault PlainFault (λ r. (answer : Result A PpKind) × P answer × (r ≡ placed open_file number answer))
placed_one open_file number P one = mapped_one Free Plain FreeFault PlainFault P (placed open_file number) (placed_good open_file number) (placed_back open_file number) one

pub kept_good : (open_file : OpenFile) (number : ℕ) (m : Marked) (r : Result Seen PpKind) → GoodKind r → Good PlainFault (placed open_file number (keeping_marks m r))
kept_good open_file number m (Ok x) good = tt
kept_good open_file number m (Err kind) good = good

kept_back : (open_file : OpenFile) (number : ℕ) (m : Marked) (r : Result Seen PpKind) → Good FreeFault (placed open_file number (keeping_marks m r)) → Good Free r
kept_back open_file number m (Ok x) good = tt
kept_back open_file number m (Err kind) good = good

pub part_one : (open_file : OpenFile) (number : ℕ) (Gives : Result Seen PpKind → Type 0) (m : Marked) → One Free Plain Gives → One FreeFault PlainFault (Part open_file number Gives m)
part_one open_file number Gives m one = mapped_one Free Plain FreeFault PlainFault Gives (λ r. placed open_file number (keeping_marks m r)) (kept_good open_file number m) (kept_back open_file number m) one

-- Events and definitions.

pub added_good : (seen : Seen) (item : Item ℕ) → GoodKind (added seen item)
added_good seen item =
    let more : Result Seen PpKind = Ok (record seen { items = seen.items ++ item ∷ [] }) in
    cond_good Plain (nat_le event_limit (length seen.items)) (Err TooManyEvents) (cond (nat_lt text_limit (texts_length seen.items + text_length item)) (Err TooMuchText) more) (λ e. cc, tt)
    (cond_good Plain (nat_lt text_limit (texts_length seen.items + text_length item)) (Err TooMuchText) more (λ e. cc, tt) tt)

pub started_good : (seen : Seen) (line : ℕ) (path : List ℕ) → GoodKind (started seen line path)
started_good seen line path = added_good (record seen { files = with_path seen.files path (place_of seen path) }) (Start line (number_of seen path))

defined_good : (seen : Seen) (line : ℕ) (def : DefValue) → GoodKind (defined seen line def)
defined_good seen line def =
    let more = added seen (Define line (text_of def)) in
    cond_good Plain (is_predefined def.name) (Err (Predefined def.name)) (cond (conflicts (text_in (table seen) def.name) def) (Err (Redefined def.name)) more) (λ e. cc, tt)
    (cond_good Plain (conflicts (text_in (table seen) def.name) def) (Err (Redefined def.name)) more (λ e. cc, tt) (added_good seen (Define line (text_of def))))

undefined_good : (seen : Seen) (line : ℕ) (name : List ℕ) → GoodKind (undefined seen line name)
undefined_good seen line name = cond_good Plain (is_predefined name) (Err (Predefined name)) (added seen (Undef line name)) (λ e. cc, tt) (added_good seen (Undef line name))

defined_by_good : (seen : Seen) (line : ℕ) (r : Result DefValue DefFault) → r ≢ Err DefRanOut → GoodKind (defined_by seen line r)
defined_by_good seen line (Ok def) plain = defined_good seen line def
defined_by_good seen line (Err fault) plain = (λ e. cc, λ e. plain (ap (λ f. Err f) e))

by_text_good : (seen : Seen) (r : Result DefValue TextFault) → r ≢ Err (TextLex LexRanOut) → r ≢ Err (TextDef DefRanOut) → r ≢ Err TextRanOut → GoodKind (defined_by_text seen r)
by_text_good seen (Ok def) lexes defines more = defined_good seen 0 def
by_text_good seen (Err (TextLex fault)) lexes defines more = (λ e. cc, λ e. lexes (ap (λ f. Err (TextLex f)) e))
by_text_good seen (Err (TextDef fault)) lexes defines more = (λ e. cc, λ e. defines (ap (λ f. Err (TextDef f)) e))
by_text_good seen (Err TextRanOut) lexes defines more = absurd (more refl)

commanded_good : (seen : Seen) (command : Command) → GoodKind (commanded seen command)
commanded_good seen (DefineWord word) = let text = define_text word in by_text_good seen (def_of_text text) (faults_are_plain.lexing text) (faults_are_plain.defining text) (faults_are_plain.text text)
commanded_good seen (UndefWord word) = cond_good Plain (is_identifier word) (undefined seen 0 word) (Err (Def DefNoName)) (undefined_good seen 0 word) (λ e. cc, λ e. cc)

after_good : (r : Result Seen PpKind) (f : Seen → Result Seen PpKind) → GoodKind r → ((seen : Seen) → GoodKind (f seen)) → GoodKind (r >>= f)
after_good (Ok seen) f good more = more seen
after_good (Err kind) f good more = good

pub all_commanded_good : (commands : List Command) (seen : Seen) → GoodKind (all_commanded seen commands)
all_commanded_good [] seen = tt
all_commanded_good (command ∷ commands) seen = after_good (commanded seen command) (λ next. all_commanded next commands) (commanded_good seen command) (λ next. all_commanded_good commands next)

-- Texts expand to one thing.

expands : (macros : Macros) (here : Here) (tokens : List Token) (answer : Result (List Token) ExpandFault) → ExpandsTo macros here tokens answer ↔ (whole (expansion macros here) tokens ≡ answer)
expands macros here = one_whole (Expands macros here) (expansion macros here) (complete macros here) (λ list work answer e. only macros here e)

-- what an expansion comes to, by what follows one that succeeds
abbrev after_expansion : {A : Type 0} → (List Token → Result A PpKind) → Result (List Token) ExpandFault → Result A PpKind
after_expansion next (Ok list) = next list
after_expansion next (Err fault) = Err (Expand fault)

expansion_good : {A : Type 0} (next : List Token → Result A PpKind) (r : Result (List Token) ExpandFault) → Good PlainExpand r → ((list : List Token) → GoodKind (next list)) → GoodKind (after_expansion next r)
expansion_good next (Ok list) plain good = good list
expansion_good next (Err fault) plain good = (λ e. cc, plain)

expanded_good : {A : Type 0} (macros : Macros) (here : Here) (tokens : List Token) (next : List Token → Result A PpKind) → ((list : List Token) → GoodKind (next list)) → GoodKind (after_expansion next (whole (expansion macros here) tokens))
expanded_good macros here tokens next good = let r = whole (expansion macros here) tokens in expansion_good next r (plain_text ((expands macros here tokens r).1 refl)) good

-- Conditions.

abbrev condition_kind : Result Bool ExprFault → Result Bool PpKind
condition_kind (Ok answer) = Ok answer
condition_kind (Err fault) = Err (Expr fault)

condition_good : (r : Result Bool ExprFault) → Good PlainExpr r → GoodKind (condition_kind r)
condition_good (Ok answer) plain = tt
condition_good (Err fault) plain = (λ e. cc, plain)

module _ (seen : Seen) (here : Here) (tokens : List Token) where
  abbrev expanded_value : List Token → Result Bool PpKind
  expanded_value list = condition_kind (an_answer list).0

  abbrev value : Result (List Token) ExprFault → Result Bool PpKind
  value (Ok list) = after_expansion expanded_value (whole (expansion (macros seen) here) list)
  value (Err fault) = Err (Expr fault)

  value_good : (r : Result (List Token) ExprFault) → Good PlainExpr r → GoodKind (value r)
  value_good (Ok list) plain = expanded_good (macros seen) here list expanded_value (λ expanded. condition_good (an_answer expanded).0 (plain_condition (an_answer expanded).1))
  value_good (Err fault) plain = (λ e. cc, plain)

  condition_value : (list expanded : List Token) (answer : Result Bool ExprFault) → resolved (is_defined (table seen)) tokens ≡ Ok list → ExpandsTo (macros seen) here list (Ok expanded) → IsCondition expanded answer → HasValue seen here tokens (condition_kind answer)
  condition_value list expanded (Ok answer) is expands is_so = Decided is expands is_so
  condition_value list expanded (Err fault) is expands is_so = Faulty is expands is_so

  after_value : (list : List Token) (r : Result (List Token) ExpandFault) → resolved (is_defined (table seen)) tokens ≡ Ok list → whole (expansion (macros seen) here) list ≡ r → HasValue seen here tokens (after_expansion expanded_value r)
  after_value list (Ok expanded) is so = condition_value list expanded (an_answer expanded).0 is ((expands (macros seen) here list (Ok expanded)).1 so) (an_answer expanded).1
  after_value list (Err fault) is so = Unexpanded is ((expands (macros seen) here list (Err fault)).1 so)

  has_value : (r : Result (List Token) ExprFault) → resolved (is_defined (table seen)) tokens ≡ r → HasValue seen here tokens (value r)
  has_value (Ok list) is = after_value list (whole (expansion (macros seen) here) list) is refl
  has_value (Err fault) is = Unresolved is

  -- the condition of these tokens, that comes to this
  condition_only : (list expanded : List Token) (answer : Result Bool ExprFault) → resolved (is_defined (table seen)) tokens ≡ Ok list → ExpandsTo (macros seen) here list (Ok expanded) → IsCondition expanded answer →
      condition_kind answer ≡ value (resolved (is_defined (table seen)) tokens)
  condition_only list expanded answer is so also =
      ap condition_kind (one_answer expanded answer (an_answer expanded).0 also (an_answer expanded).1) ∙ ap (after_expansion expanded_value) (sym ((expands (macros seen) here list (Ok expanded)).0 so)) ∙ ap value (sym is)

  value_only : (r : Result Bool PpKind) → HasValue seen here tokens r → r ≡ value (resolved (is_defined (table seen)) tokens)
  value_only _ (Unresolved is) = ap value (sym is)
  value_only _ (Unexpanded {list} {fault} is so) = ap (after_expansion expanded_value) (sym ((expands (macros seen) here list (Err fault)).0 so)) ∙ ap value (sym is)
  value_only _ (Faulty {list} {expanded} {fault} is so also) = condition_only list expanded (Err fault) is so also
  value_only _ (Decided {list} {expanded} {answer} is so also) = condition_only list expanded (Ok answer) is so also

  value_one : One Free Plain (HasValue seen here tokens)
  value_one = record {
    answer = value (resolved (is_defined (table seen)) tokens);
    good = value_good (resolved (is_defined (table seen)) tokens) (plain_resolved (is_defined (table seen)) tokens);
    holds = has_value (resolved (is_defined (table seen)) tokens) refl;
    only = λ r g v. value_only r v;
  }

defined_answer_good : (seen : Seen) (name : Option (List ℕ)) → GoodKind (defined_answer seen name)
defined_answer_good seen None = (λ e. cc, tt)
defined_answer_good seen (Some name) = tt

undefined_answer_good : (seen : Seen) (name : Option (List ℕ)) → GoodKind (undefined_answer seen name)
undefined_answer_good seen None = (λ e. cc, tt)
undefined_answer_good seen (Some name) = tt

answers_one : (open_file : OpenFile) (here : Line) (seen : Seen) (directive : Directive) → One Free Plain (AnswersBy open_file here seen directive)
answers_one open_file here seen If = value_one seen (here_of open_file here) (operands here)
answers_one open_file here seen Elif = value_one seen (here_of open_file here) (operands here)
answers_one open_file here seen (Ifdef name) = equal_one Free Plain (defined_answer seen name) (defined_answer_good seen name)
answers_one open_file here seen (Ifndef name) = equal_one Free Plain (undefined_answer seen name) (undefined_answer_good seen name)
answers_one open_file here seen Text = equal_one Free Plain (Ok false) tt
answers_one open_file here seen Null = equal_one Free Plain (Ok false) tt
answers_one open_file here seen Else = equal_one Free Plain (Ok false) tt
answers_one open_file here seen Endif = equal_one Free Plain (Ok false) tt
answers_one open_file here seen Include = equal_one Free Plain (Ok false) tt
answers_one open_file here seen DefineLine = equal_one Free Plain (Ok false) tt
answers_one open_file here seen (UndefLine name) = equal_one Free Plain (Ok false) tt
answers_one open_file here seen LineNumber = equal_one Free Plain (Ok false) tt
answers_one open_file here seen Error = equal_one Free Plain (Ok false) tt
answers_one open_file here seen Pragma = equal_one Free Plain (Ok false) tt
answers_one open_file here seen Unknown = equal_one Free Plain (Ok false) tt

-- the condition of a line
pub question_one : (open_file : OpenFile) (here : Line) (seen : Seen) → One Free Plain (HasAnswer open_file here seen)
question_one open_file here seen = answers_one open_file here seen (directive_of here.tokens)

-- Header names.

named_good : (form : Form) (name : List ℕ) → GoodKind (named form name)
named_good form [] = (λ e. cc, tt)
named_good form (byte ∷ bytes) = tt

angle_good : (o : Option (List Token)) → GoodKind (angle_named o)
angle_good None = (λ e. cc, tt)
angle_good (Some tokens) = named_good Angle (body_text tokens)

spelled_good : (tokens : List Token) → GoodKind (spelled_name tokens)
spelled_good [] = (λ e. cc, tt)
spelled_good (t ∷ []) = cond_good Plain (is_plain_string t) (named Quote (between t.text)) (Err BadInclude) (named_good Quote (between t.text)) (λ e. cc, tt)
spelled_good (t ∷ u ∷ ts) = cond_good Plain (is_spelled (codes "<") t) (angle_named (before_angle (u ∷ ts))) (Err BadInclude) (angle_good (before_angle (u ∷ ts))) (λ e. cc, tt)

module _ (macros : Macros) (here : Here) (tokens : List Token) where
  abbrev header : Option (List ℕ) → Result HeaderName PpKind
  header (Some text) = named (form_of text) (between text)
  header None = after_expansion spelled_name (whole (expansion macros here) tokens)

  header_good : (o : Option (List ℕ)) → GoodKind (header o)
  header_good (Some text) = named_good (form_of text) (between text)
  header_good None = expanded_good macros here tokens spelled_name spelled_good

  names_expanded : (r : Result (List Token) ExpandFault) → header_text tokens ≡ None → whole (expansion macros here) tokens ≡ r → NamesHeader macros here tokens (after_expansion spelled_name r)
  names_expanded (Ok list) none is = NameExpands none ((expands macros here tokens (Ok list)).1 is)
  names_expanded (Err fault) none is = Fails none ((expands macros here tokens (Err fault)).1 is)

  names : (o : Option (List ℕ)) → header_text tokens ≡ o → NamesHeader macros here tokens (header o)
  names (Some text) is = Stands is
  names None is = names_expanded (whole (expansion macros here) tokens) is refl

  names_only : (r : Result HeaderName PpKind) → NamesHeader macros here tokens r → r ≡ header (header_text tokens)
  names_only _ (Stands is) = ap header (sym is)
  names_only _ (Fails {fault} is so) = ap (after_expansion spelled_name) (sym ((expands macros here tokens (Err fault)).0 so)) ∙ ap header (sym is)
  names_only _ (NameExpands {list} is so) = ap (after_expansion spelled_name) (sym ((expands macros here tokens (Ok list)).0 so)) ∙ ap header (sym is)

  pub header_one : One Free Plain (NamesHeader macros here tokens)
  header_one = record {
    answer = header (header_text tokens);
    good = header_good (header_text tokens);
    holds = names (header_text tokens) refl;
    only = λ r g h. names_only r h;
  }

-- Line numbers.

module _ {A : Type 0} (macros : Macros) (here : Here) (tokens : List Token) (x : A) where
  abbrev checked : List Token → Result A PpKind
  checked list = line_checked x list

  checked_good : (list : List Token) → GoodKind (checked list)
  checked_good list = cond_good Plain (is_line list) (Ok x) (Err BadLine) tt (λ e. cc, tt)

  abbrev line_value : Bool → Result A PpKind
  line_value true = Ok x
  line_value false = after_expansion checked (whole (expansion macros here) tokens)

  line_good : (t : Bool) → GoodKind (line_value t)
  line_good true = tt
  line_good false = expanded_good macros here tokens checked checked_good

  line_expanded : (r : Result (List Token) ExpandFault) → is_line tokens ≡ false → whole (expansion macros here) tokens ≡ r → HasLine macros here tokens x (after_expansion checked r)
  line_expanded (Ok list) none is = LineExpands none ((expands macros here tokens (Ok list)).1 is)
  line_expanded (Err fault) none is = LineFails none ((expands macros here tokens (Err fault)).1 is)

  has_line : (t : Bool) → is_line tokens ≡ t → HasLine macros here tokens x (line_value t)
  has_line true is = LineStands is
  has_line false is = line_expanded (whole (expansion macros here) tokens) is refl

  line_only : (r : Result A PpKind) → HasLine macros here tokens x r → r ≡ line_value (is_line tokens)
  line_only _ (LineStands is) = ap line_value (sym is)
  line_only _ (LineFails {fault} is so) = ap (after_expansion checked) (sym ((expands macros here tokens (Err fault)).0 so)) ∙ ap line_value (sym is)
  line_only _ (LineExpands {list} is so) = ap (after_expansion checked) (sym ((expands macros here tokens (Ok list)).0 so)) ∙ ap line_value (sym is)

  line_one : One Free Plain (HasLine macros here tokens x)
  line_one = record {
    answer = line_value (is_line tokens);
    good = line_good (is_line tokens);
    holds = has_line (is_line tokens) refl;
    only = λ r g h. line_only r h;
  }

-- Lines.

undefined_by_good : (seen : Seen) (line : ℕ) (name : Option (List ℕ)) → GoodKind (undefined_by seen line name)
undefined_by_good seen line None = (λ e. cc, tt)
undefined_by_good seen line (Some name) = undefined_good seen line name

pub directs_one : (open_file : OpenFile) (here : Line) (directive : Directive) (seen : Seen) → One Free Plain (Directs open_file here directive seen)
directs_one open_file here Text seen = equal_one Free Plain (Ok seen) tt
directs_one open_file here Null seen = equal_one Free Plain (Ok seen) tt
directs_one open_file here DefineLine seen = equal_one Free Plain (defined_by seen here.number (def_of (operands here))) (defined_by_good seen here.number (def_of (operands here)) (faults_are_plain.tokens (operands here)))
directs_one open_file here (UndefLine name) seen = equal_one Free Plain (undefined_by seen here.number name) (undefined_by_good seen here.number name)
directs_one open_file here LineNumber seen = line_one (macros seen) (here_of open_file here) (operands here) seen
directs_one open_file here Error seen = equal_one Free Plain (Err ErrorDirective) (λ e. cc, tt)
directs_one open_file here Pragma seen = equal_one Free Plain (Ok (pragma_seen open_file (operands here) seen)) tt
directs_one open_file here Unknown seen = equal_one Free Plain (Err (BadDirective UnknownName)) (λ e. cc, tt)
directs_one open_file here If seen = equal_one Free Plain (Ok seen) tt
directs_one open_file here (Ifdef name) seen = equal_one Free Plain (Ok seen) tt
directs_one open_file here (Ifndef name) seen = equal_one Free Plain (Ok seen) tt
directs_one open_file here Elif seen = equal_one Free Plain (Ok seen) tt
directs_one open_file here Else seen = equal_one Free Plain (Ok seen) tt
directs_one open_file here Endif seen = equal_one Free Plain (Ok seen) tt
directs_one open_file here Include seen = equal_one Free Plain (Ok seen) tt
