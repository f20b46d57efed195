-- Words and files have one answer, and a run ends as its answer does.
use Rattle.std.proofs.Common.{◌≡◌, ℕ, ◌≤◌, ◌<◌, [], ◌∷◌, ◌++◌, arith, Bool, true, false, ltb, if◌then◌else◌, List, length, Option, Some, None, Result, Ok, Err, inl, inr, refl, ap, subst, ◌∙◌, sym}
use Rattle.std.specs.Prelude.{IfSome}
use Rattle.std.specs.Bool.{MatchBool}
use Rattle.std.specs.FinMap as map
use borrow.Author.Tests.{le-ltb, lt-ltb}
use Rattle.mac_io.specs.Files.{Files, IsFileAt}
use Rattle.mac_io.specs.Calls.{Fetches, FetchesFrom}
use Rattle.mac_io.specs.declared.shelf.Fetched.TheVariants.{Found, Absent, TooLong}
use Rattle.pp_unit.specs.Files.{Stores}
use Rattle.std.specs.Option.{option_map}
use Rattle.macro_query.specs.declared.fault.QueryFault.{QueryFault}
use Rattle.macro_query.specs.declared.fault.QueryFault.TheVariants.{Elf as QueryElf, Info as QueryInfo, Line as QueryLine, Unit as QueryUnit, NoSuchUnit as QueryNoSuchUnit, Position as QueryPosition, Text as QueryText, Expand as QueryExpand, ReportTooLong, NoMemory as QueryRanOut}
use Rattle.macro_query.specs.Limits.{within_limit, Answers}
use Rattle.macro_query.specs.Laws.{One as OneSaid}
use Rattle.macro_query.proofs.QueryLemmas.{one_raw, one_unit_at}
use Rattle.macro_query.proofs.OneAnswerLemmas.{one_dump, one_info, one_list, one_expand, one_once}
use Rattle.dwmac_run.specs.declared.refusal.Refusal.TheVariants.{NoSuchFile, FileTooLong, ReportTooLong as TextTooLong}
use Rattle.dwmac_run.specs.declared.request.Request.{Request}
use Rattle.dwmac_run.specs.declared.request.Request.TheVariants.{Query as Asks, Events, Record, Help, Version}
use Rattle.dwmac_run.specs.declared.request.Query.{Query}
use Rattle.dwmac_run.specs.declared.request.Query.TheVariants.{Raw, Unit as UnitAt, Dump, Info, List as ListAt, Expand, Once}
use Rattle.dwmac_run.specs.Command.{request_of, folders_of, labels_by, StoresNothing}
use Rattle.dwmac_run.specs.Roots.{labels, HasStores, IsPathFor}
use Rattle.dwmac_run.specs.Help.{help_text, version_text}
use Rattle.dwmac_run.specs.Refusals.{refusal_line}
use Rattle.dwmac_run.specs.Answers.{Answer, Prints, Refuses, Misuse}
use Rattle.dwmac_run.specs.Units.{reported_events, events_text, WalkSays}
use Rattle.mac_base.specs.ReportText.{most_report}
use Rattle.pp_unit.specs.Seen.{Marked}
use Rattle.pp_unit.specs.declared.fault.PpFault.{PpFault}
use Rattle.dwmac_run.specs.Record.{recorded_seen}
use Rattle.dwmac_run.proofs.UnitLemmas.{unit_once, unit_some, line_said}
use Rattle.dwmac_run.specs.Answer.{answer_by, QuerySays, QueryAnswer, FileAnswer, AboutFile, AnswerTo, IsAnswer, ReadsTold, IsTold, most_bytes}
use Rattle.dwmac_run.specs.Leaves.{State, KeepsFiles, StoresFew, StoresBadly, Leaves}
use Rattle.dwmac_run.specs.declared.outcome.NewFile.{NewFile}
use Rattle.dwmac_run.specs.Outcome.{query_answer, Ends}
use Rattle.dwmac_run.specs.declared.status.Status.{Status}
use Rattle.dwmac_run.specs.declared.status.Status.TheVariants.{Ok as Fine, Refused, Usage, NoMemory as RanOut, Outside}

abbrev Said : Type 0
Said = Result (List ℕ) QueryFault

-- answers of which there is at most one
abbrev One : (Answer → Type 0) → Type 0
One P = (a b : Answer) → P a → P b → a ≡ b

-- what is said once has one answer
one_query : (file : List ℕ) (Says : Said → Type 0) → OneSaid Says → One (QueryAnswer file Says)
one_query file Says one a b is also =
    is.2 ∙ ap (λ (r : Said). answer_by file (within_limit r)) (one.2 is.0 is.1 ∙ sym (one.2 also.0 also.1)) ∙ sym also.2

one_of_both : (t : Bool) (P Q : Answer → Type 0) → One P → One Q → One (λ a. MatchBool t (P a) (Q a))
one_of_both true P Q one other a b is also = one a b is also
one_of_both false P Q one other a b is also = other a b is also

one_same : (x : Answer) → One (λ a. a ≡ x)
one_same x a b is also = is ∙ sym also

one_file_answer : (file : List ℕ) (read : List ℕ → Answer → Type 0) (content : Option (List ℕ)) → ((bytes : List ℕ) → One (read bytes)) → One (λ a. FileAnswer file content (λ bytes. read bytes a) a)
one_file_answer file read None one a b is also = is ∙ sym also
one_file_answer file read (Some bytes) one a b is also = one_of_both (ltb most_bytes (length bytes)) (λ c. c ≡ Refuses (refusal_line (FileTooLong file))) (read bytes) (one_same _) (one bytes) a b is also

told_once : (file : List ℕ) (files : Files) (read : List ℕ → Answer → Type 0) → ((bytes : List ℕ) → One (read bytes)) → One (λ a. (content : Option (List ℕ)) × IsFileAt (Some files) file content × FileAnswer file content (λ bytes. read bytes a) a)
told_once file files read one a b is also =
    one_file_answer file read also.0 one a b (subst (λ (content : Option (List ℕ)). FileAnswer file content (λ bytes. read bytes a) a) (sym is.1 ∙ also.1) is.2) also.2

one_about : (file : List ℕ) (files : Files) (Says : List ℕ → Said → Type 0) → ((bytes : List ℕ) → OneSaid (Says bytes)) → One (AboutFile (Some files) file Says)
one_about file files Says one = told_once file files (λ bytes a. QueryAnswer file (Says bytes) a) (λ bytes. one_query file (Says bytes) (one bytes))

-- there is one thing to be said to each query
one_query_says : (query : Query) (bytes : List ℕ) → OneSaid (QuerySays query bytes)
one_query_says Raw bytes = one_raw bytes
one_query_says (UnitAt offset) bytes = one_unit_at offset bytes
one_query_says Dump bytes = one_dump bytes
one_query_says (Info position name) bytes = one_info position name bytes
one_query_says (ListAt position) bytes = one_list position bytes
one_query_says (Expand position text) bytes = one_expand position text bytes
one_query_says (Once position text) bytes = one_once position text bytes

one_asked : (file : List ℕ) (query : Query) (told : Option Files) (files : Files) → told ≡ Some files → One (AboutFile told file (QuerySays query))
one_asked file query told files is =
    subst (λ (t : Option Files). One (AboutFile t file (QuerySays query))) (sym is) (one_about file files (QuerySays query) (one_query_says query))

one_answer_to : (request : Option Request) (told : Option Files) (stores : Stores) → 0 < length stores → ReadsTold request told stores → One (AnswerTo request told stores)
one_answer_to None told stores some reads a b is also = is ∙ sym also
one_answer_to (Some (Asks file query)) told stores some reads a b is also = one_asked file query told reads.0 reads.1 a b is also
one_answer_to (Some (Events unit folders)) told stores some reads a b is also = unit_once reported_events stores unit some reads a b is also
one_answer_to (Some (Record unit folders forms output)) told stores some reads a b is also = unit_once (recorded_seen unit forms output) stores unit some reads a b is also
one_answer_to (Some Help) told stores some reads a b is also = is ∙ sym also
one_answer_to (Some Version) told stores some reads a b is also = is ∙ sym also

-- where the path has a store for each label, it has one
has_one : (stores : Stores) (folders : List (List ℕ)) → labels stores ≡ [] ∷ folders → 0 < length stores
has_one [] folders is = cc
has_one (store ∷ stores) folders is = omega arith

pub path_some : (command : Option Request) (stores : Stores) (found : Request) → Some found ≡ command → HasStores (option_map labels_by command) stores → 0 < length stores
path_some None stores found is has = cc
path_some (Some command) stores found is has = has_one stores (folders_of command) has

one_by : (request : Option Request) (told : Option Files) (stores : Stores) → HasStores (option_map labels_by request) stores → ReadsTold request told stores → One (AnswerTo request told stores)
one_by None told stores has reads a b is also = is ∙ sym also
one_by (Some request) told stores has reads a b is also = one_answer_to (Some request) told stores (has_one stores (folders_of request) has) reads a b is also

-- told files allow at most one answer
pub one_answer : (words : List (List ℕ)) (told : Option Files) (stores : Stores) → IsPathFor words stores → IsTold words told stores → (a b : Answer) → IsAnswer words told stores a → IsAnswer words told stores b → a ≡ b
one_answer words told stores has reads a b is also = one_by (request_of words) told stores has reads a b is also

-- answers of which there is one
abbrev Some_of : (Answer → Type 0) → Type 0
Some_of P = (a : Answer) × P a

some_query : (file : List ℕ) (Says : Said → Type 0) → OneSaid Says → Some_of (QueryAnswer file Says)
some_query file Says one = (answer_by file (within_limit one.0), (one.0, one.1, refl))

some_of_both : (t : Bool) (P Q : Answer → Type 0) → Some_of P → Some_of Q → Some_of (λ a. MatchBool t (P a) (Q a))
some_of_both true P Q p q = p
some_of_both false P Q p q = q

file_answer : (file : List ℕ) (read : List ℕ → Answer → Type 0) (content : Option (List ℕ)) → ((bytes : List ℕ) → Some_of (read bytes)) → Some_of (λ a. FileAnswer file content (λ bytes. read bytes a) a)
file_answer file read None some = (Refuses (refusal_line (NoSuchFile file)), refl)
file_answer file read (Some bytes) some =
    some_of_both (ltb most_bytes (length bytes)) (λ a. a ≡ Refuses (refusal_line (FileTooLong file))) (read bytes) (Refuses (refusal_line (FileTooLong file)), refl) (some bytes)

told_answer : (file : List ℕ) (told : Option Files) (read : List ℕ → Answer → Type 0) → ((bytes : List ℕ) → Some_of (read bytes)) → Some_of (λ a. (content : Option (List ℕ)) × IsFileAt told file content × FileAnswer file content (λ bytes. read bytes a) a)
told_answer file None read some = let found = file_answer file read None some in (found.0, (None, tt, found.1))
told_answer file (Some files) read some = let found = file_answer file read (map.get files file) some in (found.0, (map.get files file, refl, found.1))

about_answer : (file : List ℕ) (told : Option Files) (Says : List ℕ → Said → Type 0) → ((bytes : List ℕ) → OneSaid (Says bytes)) → Some_of (AboutFile told file Says)
about_answer file told Says one = told_answer file told (λ bytes a. QueryAnswer file (Says bytes) a) (λ bytes. some_query file (Says bytes) (one bytes))

answer_to : (request : Option Request) (told : Option Files) (stores : Stores) → 0 < length stores → Some_of (AnswerTo request told stores)
answer_to None told stores some = (Misuse, refl)
answer_to (Some (Asks file query)) told stores some = about_answer file told (QuerySays query) (one_query_says query)
answer_to (Some (Events unit folders)) told stores some = unit_some reported_events stores unit some
answer_to (Some (Record unit folders forms output)) told stores some = unit_some (recorded_seen unit forms output) stores unit some
answer_to (Some Help) told stores some = (Prints [] help_text, refl)
answer_to (Some Version) told stores some = (Prints [] version_text, refl)

some_by : (request : Option Request) (told : Option Files) (stores : Stores) → HasStores (option_map labels_by request) stores → Some_of (AnswerTo request told stores)
some_by None told stores has = (Misuse, refl)
some_by (Some request) told stores has = answer_to (Some request) told stores (has_one stores (folders_of request) has)

-- and there is one
pub some_answer : (words : List (List ℕ)) (told : Option Files) (stores : Stores) → IsPathFor words stores → (a : Answer) × IsAnswer words told stores a
some_answer words told stores has = some_by (request_of words) told stores has

told_says : (file : List ℕ) (Says : Said → Type 0) (result said : Said) → Says said → result ≡ within_limit said → IfSome (query_answer file result) (QueryAnswer file Says)
told_says file Says (Ok text) said says is = (said, says, ap (answer_by file) is)
told_says file Says (Err (QueryElf fault)) said says is = (said, says, ap (answer_by file) is)
told_says file Says (Err (QueryInfo fault)) said says is = (said, says, ap (answer_by file) is)
told_says file Says (Err (QueryLine fault)) said says is = (said, says, ap (answer_by file) is)
told_says file Says (Err QueryNoSuchUnit) said says is = (said, says, ap (answer_by file) is)
told_says file Says (Err (QueryPosition fault)) said says is = (said, says, ap (answer_by file) is)
told_says file Says (Err (QueryUnit fault)) said says is = (said, says, ap (answer_by file) is)
told_says file Says (Err (QueryText fault)) said says is = (said, says, ap (answer_by file) is)
told_says file Says (Err (QueryExpand fault)) said says is = (said, says, ap (answer_by file) is)
told_says file Says (Err ReportTooLong) said says is = (said, says, ap (answer_by file) is)
told_says file Says (Err QueryRanOut) said says is = tt

told_query : (file : List ℕ) (Says : Said → Type 0) (result : Said) → Answers result Says → IfSome (query_answer file result) (QueryAnswer file Says)
told_query file Says result (inl ran) = subst (λ (r : Said). IfSome (query_answer file r) (QueryAnswer file Says)) (sym ran) tt
told_query file Says result (inr found) = told_says file Says result found.0 found.1 found.2

file_by : (file : List ℕ) (told : Option Files) (bytes : List ℕ) (Says : List ℕ → Said → Type 0) (o : Option Answer) → IsFileAt told file (Some bytes) → length bytes ≤ most_bytes → IfSome o (QueryAnswer file (Says bytes)) → IfSome o (AboutFile told file Says)
file_by file told bytes Says None is short means = tt
file_by file told bytes Says (Some a) is short means = (Some bytes, is, rw (le-ltb most_bytes (length bytes) short) means)

-- the answer by the bytes that were read
file_found : (file : List ℕ) (told : Option Files) (bytes read : List ℕ) (Says : List ℕ → Said → Type 0) (result : Said) (o : Option Answer) →
    IsFileAt told file (Some bytes) × (length bytes ≤ most_bytes) → read ≡ bytes → Answers result (Says read) → o ≡ query_answer file result → IfSome o (AboutFile told file Says)
file_found file told bytes read Says result o found same answers is =
    let says = subst (λ (xs : List ℕ). Answers result (Says xs)) same answers in
    file_by file told bytes Says o found.0 found.1 (subst (λ (p : Option Answer). IfSome p (QueryAnswer file (Says bytes))) (sym is) (told_query file (Says bytes) result says))

read_found : (file : List ℕ) (told : Option Files) (content : Option (List ℕ)) (Says : List ℕ → Said → Type 0) (old new read : List ℕ) (result : Said) (o : Option Answer) →
    old ≡ [] → IsFileAt told file content → Fetches content most_bytes Found old new → read ≡ new → Answers result (Says read) → o ≡ query_answer file result → IfSome o (AboutFile told file Says)
read_found file told content Says old new read result o empty at found same answers is =
    file_found file told found.0 read Says result o (subst (λ (c : Option (List ℕ)). IsFileAt told file c) found.1 at, found.2) (same ∙ found.3 ∙ ap (λ (xs : List ℕ). xs ++ found.0) empty) answers is

-- what was read within the limit is answered by its bytes
pub file_read : (file named : List ℕ) (told : Option Files) (Says : List ℕ → Said → Type 0) (old new read : List ℕ) (result : Said) (o : Option Answer) →
    named ≡ file → old ≡ [] → FetchesFrom told named most_bytes Found old new → read ≡ new → Answers result (Says read) → o ≡ query_answer file result → IfSome o (AboutFile told file Says)
file_read file named told Says old new read result o name empty fetched same answers is =
    let got = subst (λ (n : List ℕ). FetchesFrom told n most_bytes Found old new) name fetched in
    read_found file told got.0 Says old new read result o empty got.1 got.2 same answers is

read_absent : (file : List ℕ) (told : Option Files) (content : Option (List ℕ)) (Says : List ℕ → Said → Type 0) (old new : List ℕ) → IsFileAt told file content → Fetches content most_bytes Absent old new →
    AboutFile told file Says (Refuses (refusal_line (NoSuchFile file)))
read_absent file told content Says old new at found = (None, subst (λ (c : Option (List ℕ)). IsFileAt told file c) found.0 at, refl)

-- a file that is missing
pub file_absent : (file named : List ℕ) (told : Option Files) (Says : List ℕ → Said → Type 0) (old new : List ℕ) → named ≡ file → FetchesFrom told named most_bytes Absent old new →
    AboutFile told file Says (Refuses (refusal_line (NoSuchFile file)))
file_absent file named told Says old new name fetched =
    let got = subst (λ (n : List ℕ). FetchesFrom told n most_bytes Absent old new) name fetched in
    read_absent file told got.0 Says old new got.1 got.2

read_long : (file : List ℕ) (told : Option Files) (content : Option (List ℕ)) (Says : List ℕ → Said → Type 0) (old new : List ℕ) → IsFileAt told file content → Fetches content most_bytes TooLong old new →
    AboutFile told file Says (Refuses (refusal_line (FileTooLong file)))
read_long file told content Says old new at found =
    (Some found.0, subst (λ (c : Option (List ℕ)). IsFileAt told file c) found.1 at, rw (lt-ltb most_bytes (length found.0) found.2) refl)

-- and a file that is too long
pub file_long : (file named : List ℕ) (told : Option Files) (Says : List ℕ → Said → Type 0) (old new : List ℕ) → named ≡ file → FetchesFrom told named most_bytes TooLong old new →
    AboutFile told file Says (Refuses (refusal_line (FileTooLong file)))
file_long file named told Says old new name fetched =
    let got = subst (λ (n : List ℕ). FetchesFrom told n most_bytes TooLong old new) name fetched in
    read_long file told got.0 Says old new got.1 got.2

-- a state of the shelf and the texts
abbrev state : Option Files → ℕ → Option (List ℕ) → Option (List ℕ) → State
state files faults out err = record { files = files; faults = faults; out = out; err = err }

badly_since : (files : List NewFile) (early late : ℕ) (told : Option Files) (out err : Option (List ℕ)) (new : State) → early ≤ late → StoresBadly files (state told late out err) new → StoresBadly files (state told early out err) new
badly_since files early late told out err new later (inl same) = inl same
badly_since files early late told out err new later (inr lost) = inr (lost.0, omega (arith, lost.1))

failed_since : (files : List NewFile) (text : List ℕ) (early late : ℕ) (told : Option Files) (out err : Option (List ℕ)) (new : State) → early ≤ late → Leaves (Prints files text) Outside (state told late out err) new → Leaves (Prints files text) Outside (state told early out err) new
failed_since files text early late told out err new later (inl printed) = inl printed
failed_since files text early late told out err new later (inr (inl failed)) = inr (inl (badly_since files early late told out err new later failed.0, failed.1))
failed_since files text early late told out err new later (inr (inr cut)) = inr (inr cut)

-- A run that ends so from a state ends so from one that is like it, but in which fewer calls of the shelf had failed.
leaves_since : (answer : Answer) (status : Status) (early late : ℕ) (told : Option Files) (out err : Option (List ℕ)) (new : State) → early ≤ late → Leaves answer status (state told late out err) new → Leaves answer status (state told early out err) new
leaves_since (Prints files text) Fine early late told out err new later leaves = leaves
leaves_since (Prints files text) Refused early late told out err new later leaves = leaves
leaves_since (Prints files text) Usage early late told out err new later leaves = leaves
leaves_since (Prints files text) RanOut early late told out err new later leaves = leaves
leaves_since (Prints files text) Outside early late told out err new later leaves = failed_since files text early late told out err new later leaves
leaves_since (Refuses line) Fine early late told out err new later leaves = leaves
leaves_since (Refuses line) Refused early late told out err new later leaves = leaves
leaves_since (Refuses line) Usage early late told out err new later leaves = leaves
leaves_since (Refuses line) RanOut early late told out err new later leaves = leaves
leaves_since (Refuses line) Outside early late told out err new later leaves = leaves
leaves_since Misuse Fine early late told out err new later leaves = leaves
leaves_since Misuse Refused early late told out err new later leaves = leaves
leaves_since Misuse Usage early late told out err new later leaves = leaves
leaves_since Misuse RanOut early late told out err new later leaves = leaves
leaves_since Misuse Outside early late told out err new later leaves = leaves

ends_later : (o : Option Answer) (status : Status) (early late : ℕ) (told : Option Files) (out err : Option (List ℕ)) (new : State) → early ≤ late → Ends o status (state told late out err) new → Ends o status (state told early out err) new
ends_later (Some answer) status early late told out err new later ends = leaves_since answer status early late told out err new later ends
ends_later None status early late told out err new later ends = λ (answer : Answer). leaves_since answer status early late told out err new later (ends answer)

-- the same of an outcome, where the files of the shelf were as before
pub ends_since : (o : Option Answer) (status : Status) (early late : ℕ) (told mid : Option Files) (out err : Option (List ℕ)) (new : State) → mid ≡ told → early ≤ late → Ends o status (state mid late out err) new → Ends o status (state told early out err) new
ends_since o status early late told mid out err new same later ends =
    ends_later o status early late told out err new later (subst (λ (files : Option Files). Ends o status (state files late out err) new) same ends)

-- an end is that of some answer
pub answered : (words : List (List ℕ)) (told : Option Files) (stores : Stores) (o : Option Answer) (status : Status) (old new : State) → IsPathFor words stores → IfSome o (IsAnswer words told stores) → Ends o status old new →
    (answer : Answer) × IsAnswer words told stores answer × Leaves answer status old new
answered words told stores (Some a) status old new has means ends = (a, means, ends)
answered words told stores None status old new has means ends = let found = some_answer words told stores has in (found.0, found.1, ends found.0)

-- and over told files that of each, since there is one
pub only : (words : List (List ℕ)) (told : Option Files) (stores : Stores) (o : Option Answer) (status : Status) (old new : State) → IsPathFor words stores → IsTold words told stores → IfSome o (IsAnswer words told stores) → Ends o status old new →
    (answer : Answer) → IsAnswer words told stores answer → Leaves answer status old new
only words told stores (Some a) status old new has reads means ends answer is = subst (λ (b : Answer). Leaves b status old new) (one_answer words told stores has reads a answer means is) ends
only words told stores None status old new has reads means ends answer is = ends answer

-- an answer that stores no file
abbrev HasNoFiles : Answer → Type 0
HasNoFiles (Prints files text) = files ≡ []
HasNoFiles (Refuses line) = Unit {0}
HasNoFiles Misuse = Unit {0}

no_files_by : (file : List ℕ) (said : Said) → HasNoFiles (answer_by file said)
no_files_by file (Ok text) = refl
no_files_by file (Err fault) = tt

no_files_said : (file : List ℕ) (Says : Said → Type 0) (a : Answer) → QueryAnswer file Says a → HasNoFiles a
no_files_said file Says a is = subst HasNoFiles (sym is.2) (no_files_by file (within_limit is.0))

no_files_of_both : (t : Bool) (line file : List ℕ) (Says : Said → Type 0) (a : Answer) → MatchBool t (a ≡ Refuses line) (QueryAnswer file Says a) → HasNoFiles a
no_files_of_both true line file Says a is = subst HasNoFiles (sym is) tt
no_files_of_both false line file Says a is = no_files_said file Says a is

no_files_in : (file : List ℕ) (content : Option (List ℕ)) (Says : List ℕ → Said → Type 0) (a : Answer) → FileAnswer file content (λ bytes. QueryAnswer file (Says bytes) a) a → HasNoFiles a
no_files_in file None Says a is = subst HasNoFiles (sym is) tt
no_files_in file (Some bytes) Says a is = no_files_of_both (ltb most_bytes (length bytes)) (refusal_line (FileTooLong file)) file (Says bytes) a is

no_files_reported : (t : Bool) (text : List ℕ) → HasNoFiles (if t then Refuses (refusal_line TextTooLong) else Prints [] text)
no_files_reported true text = tt
no_files_reported false text = refl

no_files_walked : (result : Result Marked PpFault) (a : Answer) → WalkSays reported_events result a → HasNoFiles a
no_files_walked (Ok m) a is = subst HasNoFiles (sym is) (no_files_reported (ltb most_report (length (events_text m.seen))) (events_text m.seen))
no_files_walked (Err fault) a is = subst HasNoFiles (sym (line_said fault.what fault a is)) tt

no_files_to : (request : Option Request) (told : Option Files) (stores : Stores) (a : Answer) → StoresNothing request → AnswerTo request told stores a → HasNoFiles a
no_files_to None told stores a nothing is = subst HasNoFiles (sym is) tt
no_files_to (Some (Asks file query)) told stores a nothing is = no_files_in file is.0 (QuerySays query) a is.2
no_files_to (Some (Events unit folders)) told stores a nothing is = no_files_walked is.0 a is.2
no_files_to (Some (Record unit folders forms output)) told stores a nothing is = absurd nothing
no_files_to (Some Help) told stores a nothing is = subst HasNoFiles (sym is) refl
no_files_to (Some Version) told stores a nothing is = subst HasNoFiles (sym is) refl

nothing_in : (front back : List NewFile) (next : NewFile) → [] ≡ front ++ next ∷ back → ⊥
nothing_in [] back next is = cc
nothing_in (file ∷ front) back next is = cc

few_none : (old new : State) → StoresFew [] old new → KeepsFiles old new
few_none old new (inl same) = same
few_none old new (inr some) = absurd (nothing_in some.0 some.1 some.2 some.3)

bad_none : (old new : State) → StoresBadly [] old new → KeepsFiles old new
bad_none old new (inl same) = same
bad_none old new (inr lost) = absurd (nothing_in lost.0.0 lost.0.1 lost.0.2 lost.0.3)

keeps_failed : (text : List ℕ) (old new : State) → Leaves (Prints [] text) Outside old new → KeepsFiles old new
keeps_failed text old new (inl printed) = printed.0
keeps_failed text old new (inr (inl failed)) = bad_none old new failed.0
keeps_failed text old new (inr (inr cut)) = few_none old new cut.0

keeps_printed : (text : List ℕ) (status : Status) (old new : State) → Leaves (Prints [] text) status old new → KeepsFiles old new
keeps_printed text Fine old new leaves = leaves.0
keeps_printed text Refused old new leaves = absurd leaves
keeps_printed text Usage old new leaves = absurd leaves
keeps_printed text RanOut old new leaves = few_none old new leaves.0
keeps_printed text Outside old new leaves = keeps_failed text old new leaves

keeps : (a : Answer) (status : Status) (old new : State) → HasNoFiles a → Leaves a status old new → KeepsFiles old new
keeps (Prints files text) status old new none leaves = keeps_printed text status old new (subst (λ (fs : List NewFile). Leaves (Prints fs text) status old new) none leaves)
keeps (Refuses line) Fine old new none leaves = absurd leaves
keeps (Refuses line) Refused old new none leaves = leaves.0
keeps (Refuses line) Usage old new none leaves = absurd leaves
keeps (Refuses line) RanOut old new none leaves = leaves.0
keeps (Refuses line) Outside old new none leaves = leaves.0
keeps Misuse Fine old new none leaves = absurd leaves
keeps Misuse Refused old new none leaves = absurd leaves
keeps Misuse Usage old new none leaves = leaves.0
keeps Misuse RanOut old new none leaves = leaves.0
keeps Misuse Outside old new none leaves = leaves.0

-- what stores no file leaves the shelf as it is
pub stays : (words : List (List ℕ)) (told : Option Files) (stores : Stores) (status : Status) (old new : State) → StoresNothing (request_of words) → (answer : Answer) × IsAnswer words told stores answer × Leaves answer status old new → KeepsFiles old new
stays words told stores status old new nothing found = keeps found.0 status old new (no_files_to (request_of words) told stores found.0 nothing found.1) found.2
