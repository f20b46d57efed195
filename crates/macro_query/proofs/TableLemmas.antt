-- What is told of a table, where its files are numbers.
use Rattle.std.proofs.Common.{◌≡◌, ◌⊎◌, ℕ, Bool, List, [], ◌∷◌, ◌++◌, map, Option, Some, None, Ok, Err, inl, inr, refl, ap, ◌∙◌, sym, append_assoc}
use Rattle.std.proofs.lemmas.List.{append-nil, map-append}
use Rattle.std.specs.Prelude.{IsErrAnd}
use Rattle.std.specs.List.{flat_map}
use Rattle.std.specs.Option.{option_map}
use Rattle.std.specs.FinMap as finite
use Rattle.mac_base.specs.declared.frames.Frame.{Frame}
use Rattle.macro_table.specs.Tables.{EntryValue, TableOf, entry_value, renamed_value}
use Rattle.macro_table.specs.declared.entry.Entry.{Entry}
use Rattle.mac_base.specs.ItemLines.{path_in}
use Rattle.macro_query.specs.declared.fault.QueryFault.{QueryFault}
use Rattle.macro_query.specs.declared.fault.QueryFault.TheVariants.{NoMemory as RanOut}
use Rattle.macro_query.specs.Limits.{Answers, limited}
use Rattle.mac_base.specs.ReportText.{Tells}
use Rattle.position_table.specs.declared.position.Position.{Position}
use Rattle.macro_query.specs.Scopes.{IsNamed}
use Rattle.position_table.specs.Scopes.{Scope}
use Rattle.macro_query.specs.Queries.{LeadsTo, ScopeSays}
use Rattle.macro_query.specs.Tables.{info_by, info_text, list_line, list_text, innermost, included_at, inclusions, defined_at, define_line, named_frame, found_text}
use Rattle.macro_query.proofs.QueryLemmas.{Said, handed_on, answers_by}
use Rattle.macro_query.proofs.PositionLemmas.{Fails}

-- a position that leads to a fault
pub scope_fails : (result : Said) (Says : Scope → Said → Type 0) (p : Position) (file : List ℕ) (fault : QueryFault) → Fails (LeadsTo p file) fault → IsErrAnd result (λ found. found ≡ fault) → Answers result (ScopeSays Says p file)
scope_fails result Says p file fault (inl ran) is = inl (handed_on result fault is ∙ ap Err ran)
scope_fails result Says p file fault (inr leads) is = inr (Err fault, (Err fault, leads, refl), handed_on result fault is)

-- a position that leads to a scope
pub scope_says : (result : Said) (Says : Scope → Said → Type 0) (p : Position) (file : List ℕ) (scope : Scope) → LeadsTo p file (Ok scope) → Answers result (Says scope) → Answers result (ScopeSays Says p file)
scope_says result Says p file scope leads answer = answers_by result (Says scope) (ScopeSays Says p file) answer (λ said says. (Ok scope, leads, says))

-- a text of the table that was found
pub text_says : (result : Said) (text whole : List ℕ) → whole ≡ text → (result ≡ Err RanOut) ⊎ (result ≡ limited text) → Answers result (λ said. said ≡ Ok whole)
text_says result text whole same (inl ran) = inl ran
text_says result text whole same (inr is) = inr (Ok whole, refl, is ∙ ap limited (sym same))

pub same_info : (paths : List (List ℕ)) (numbers : TableOf ℕ) (name : List ℕ) (table : TableOf (List ℕ)) → IsNamed paths numbers table → info_text name table ≡ info_by name (option_map (renamed_value (path_in paths)) (finite.get numbers name))
same_info paths numbers name table is = ap (info_by name) (is.1 name)

line_named : {P Q : Type 0} (f : P → Q) (o : Option (EntryValue P)) → list_line (option_map (renamed_value f) o) ≡ list_line o
line_named f None = refl
line_named f (Some value) = refl

lines_named : {P Q : Type 0} (f : P → Q) (numbers : TableOf P) (table : TableOf Q) → ((name : List ℕ) → finite.get table name ≡ option_map (renamed_value f) (finite.get numbers name)) → (names : List (List ℕ)) →
    flat_map (λ name. list_line (finite.get table name)) names ≡ flat_map (λ name. list_line (finite.get numbers name)) names
lines_named f numbers table same [] = refl
lines_named f numbers table same (name ∷ names) = λ i. (ap list_line (same name) ∙ line_named f (finite.get numbers name)) i ++ lines_named f numbers table same names i

pub same_list : (paths : List (List ℕ)) (numbers : TableOf ℕ) (table : TableOf (List ℕ)) → IsNamed paths numbers table → list_text table ≡ list_text numbers
same_list paths numbers table is =
    lines_named (path_in paths) numbers table is.1 (finite.keys table) ∙ ap (flat_map (λ name. list_line (finite.get numbers name))) is.0

-- the definitions of the names before those that are left are told
pub record Listed (table : TableOf ℕ) (is_long : Bool) (text : List ℕ) (left : List (List ℕ)) : Type 0 where
  pub whole : List ℕ
  pub tells : Tells is_long text whole
  pub all : whole ++ flat_map (λ name. list_line (finite.get table name)) left ≡ list_text table

pub listed_first : (table : TableOf ℕ) (is_long : Bool) (text : List ℕ) (names : List (List ℕ)) → Tells is_long text [] → names ≡ finite.keys table → Listed table is_long text names
listed_first table is_long text names tells is = record { whole = []; tells = tells; all = ap (flat_map (λ name. list_line (finite.get table name))) is }

pub listed_more : (table : TableOf ℕ) (one two : Bool) (a b : List ℕ) (old left : List (List ℕ)) (name : List ℕ) (o : Option (EntryValue ℕ)) → Listed table one a old → old ≡ name ∷ left → o ≡ finite.get table name →
    ((whole : List ℕ) → Tells one a whole → Tells two b (whole ++ list_line o)) → Listed table two b left
listed_more table one two a b old left name o listed is found more = record {
  whole = listed.whole ++ list_line o;
  tells = more listed.whole listed.tells;
  all = append_assoc listed.whole (list_line o) (flat_map (λ n. list_line (finite.get table n)) left)
      ∙ ap (λ (p : Option (EntryValue ℕ)). listed.whole ++ (list_line p ++ flat_map (λ n. list_line (finite.get table n)) left)) found
      ∙ ap (λ (names : List (List ℕ)). listed.whole ++ flat_map (λ n. list_line (finite.get table n)) names) (sym is) ∙ listed.all;
}

pub listed_all : (table : TableOf ℕ) (is_long : Bool) (text : List ℕ) (left : List (List ℕ)) (result : Said) → Listed table is_long text left → left ≡ [] → ((whole : List ℕ) → Tells is_long text whole → result ≡ limited whole) → result ≡ limited (list_text table)
listed_all table is_long text left result listed none ends =
    ends listed.whole listed.tells ∙ ap limited (sym (append-nil listed.whole) ∙ ap (λ (names : List (List ℕ)). listed.whole ++ flat_map (λ n. list_line (finite.get table n)) names) (sym none) ∙ listed.all)

-- one file more, the innermost
pub inclusions_more : (files : List (List ℕ × ℕ)) (outer file : List ℕ × ℕ) → inclusions (files ++ outer ∷ file ∷ []) ≡ included_at outer file ++ inclusions (files ++ outer ∷ [])
inclusions_more [] outer file = sym (append-nil (included_at outer file))
inclusions_more (first ∷ []) outer file = ap (λ xs. xs ++ included_at first outer) (inclusions_more [] outer file) ∙ append_assoc (included_at outer file) [] (included_at first outer)
inclusions_more (first ∷ second ∷ files) outer file =
    ap (λ xs. xs ++ included_at first second) (inclusions_more (second ∷ files) outer file) ∙ append_assoc (included_at outer file) (inclusions (second ∷ files ++ outer ∷ [])) (included_at first second)

pub innermost_last : (files : List (List ℕ × ℕ)) (file : List ℕ × ℕ) → innermost (files ++ file ∷ []) ≡ file.0
innermost_last [] file = refl
innermost_last (first ∷ []) file = refl
innermost_last (first ∷ second ∷ files) file = innermost_last (second ∷ files) file

pub innermost_of : (paths : List (List ℕ)) (frames outer : List Frame) (frame : Frame) → frames ≡ outer ++ frame ∷ [] → innermost (map (named_frame paths) frames) ≡ path_in paths frame.path
innermost_of paths frames outer frame is =
    ap (λ (fs : List Frame). innermost (map (named_frame paths) fs)) is ∙ ap innermost (map-append (named_frame paths) outer (frame ∷ [])) ∙ innermost_last (map (named_frame paths) outer) (named_frame paths frame)

-- the inclusion of one file is told
pub inclusions_next : (paths : List (List ℕ)) (old new whole : List ℕ) (outer further : List Frame) (around file : Frame) → outer ≡ further ++ around ∷ [] → new ≡ old ++ included_at (named_frame paths around) (named_frame paths file) →
    old ++ inclusions (map (named_frame paths) (outer ++ file ∷ [])) ≡ whole → new ++ inclusions (map (named_frame paths) (further ++ around ∷ [])) ≡ whole
inclusions_next paths old new whole outer further around file is grows before =
    let name = named_frame paths in
    let line = included_at (name around) (name file) in
    let apart : map name (outer ++ file ∷ []) ≡ map name further ++ name around ∷ name file ∷ [] =
    ap (λ (fs : List Frame). map name (fs ++ file ∷ [])) is ∙ ap (map name) (append_assoc further (around ∷ []) (file ∷ [])) ∙ map-append name further (around ∷ file ∷ []) in
    let split : inclusions (map name (outer ++ file ∷ [])) ≡ line ++ inclusions (map name (further ++ around ∷ [])) =
    ap inclusions apart ∙ inclusions_more (map name further) (name around) (name file) ∙ ap (λ fs. line ++ inclusions fs) (sym (map-append name further (around ∷ []))) in
    ap (λ xs. xs ++ inclusions (map name (further ++ around ∷ []))) grows ∙ append_assoc old line (inclusions (map name (further ++ around ∷ []))) ∙ ap (λ xs. old ++ xs) (sym split) ∙ before

frames_named : (paths : List (List ℕ)) (frames : List Frame) → map (named_frame paths) frames ≡ map (λ (file : ℕ × ℕ). (path_in paths file.0, file.1)) (map (λ (frame : Frame). (frame.path, frame.line)) frames)
frames_named paths [] = refl
frames_named paths (frame ∷ frames) = ap (λ fs. named_frame paths frame ∷ fs) (frames_named paths frames)

-- what is told of an entry is what is told of its definition
pub found_by : (paths : List (List ℕ)) (name : List ℕ) (entry : Entry) → found_text paths entry ≡ info_by name (Some (renamed_value (path_in paths) (entry_value entry)))
found_by paths name entry =
    ap (λ files. defined_at files entry.place.line ++ inclusions files ++ define_line entry.text) (frames_named paths entry.place.frames)

-- all inclusions are told
pub inclusions_done : (paths : List (List ℕ)) (text whole : List ℕ) (outer : List Frame) (file : Frame) → outer ≡ [] → text ++ inclusions (map (named_frame paths) (outer ++ file ∷ [])) ≡ whole → text ≡ whole
inclusions_done paths text whole outer file none is = sym (append-nil text) ∙ ap (λ (fs : List Frame). text ++ inclusions (map (named_frame paths) (fs ++ file ∷ []))) (sym none) ∙ is
