-- What a file comes to that is lexed, followed and ended, by what the code does with it; and the searches for it.
use Rattle.std.proofs.Common.{◌≡◌, ◌⊎◌, inl, inr, ℕ, suc, zero, ◌<◌, ◌≤◌, List, [], length, None, Result, Ok, Err, refl, sym, ap, subst, ◌∙◌, arith}
use Rattle.mac_io.specs.Search.{Finds, candidates}
use Rattle.mac_io.specs.declared.headers.FileId.{FileId}
use Rattle.mac_io.specs.declared.headers.Form.{Form}
use Rattle.mac_io.specs.declared.headers.Located.{Located}
use Rattle.mac_base.specs.Items.{End}
use Rattle.pp_tokens.specs.declared.line.Line.{Line}
use Rattle.pp_tokens.specs.Cut.{LexesFile}
use Rattle.pp_directives.specs.Following.{Stops, Goes}
use Rattle.pp_directives.specs.Running.{Runs}
use Rattle.pp_directives.proofs.OneLemmas.{lines_run}
use Rattle.pp_unit.specs.declared.open_file.OpenFile.{OpenFile}
use Rattle.pp_unit.specs.declared.directives.header.HeaderName.{HeaderName}
use Rattle.pp_unit.specs.declared.stop.Stop.{Stop}
use Rattle.pp_unit.specs.declared.stop.Stop.TheVariants.{Here, Inside}
use Rattle.pp_unit.specs.declared.fault.PpFault.{PpFault}
use Rattle.pp_unit.specs.declared.fault.PpKind.{PpKind}
use Rattle.pp_unit.specs.declared.fault.PpKind.TheVariants.{Lex, Def, Predefined, Redefined, Directive, Expr, Expand, Struct, NoSuchFile, BadInclude, IncludeDepth, ErrorDirective, BadLine, SourceTooLong, TooManyEvents, TooMuchText, StoreFault, NoMemory}
use Rattle.pp_unit.specs.Kinds.{fault_at, ran_out}
use Rattle.pp_unit.specs.Seen.{Seen, Mark, Marked, marked, macros, added}
use Rattle.pp_unit.specs.LineConditions.{operands, here_of}
use Rattle.pp_unit.specs.HeaderNames.{NamesHeader}
use Rattle.pp_unit.specs.Files.{Stores, IncludesFound, DoesInclude, with_roles, last_number, ended, keeping_marks, WalksBytes, Unlexed, Followed, Walks, fault_line}
use Rattle.pp_unit.specs.Kinds.{placed}
use Rattle.pp_unit.specs.Recorded.{ComesTo}
use Rattle.pp_unit.specs.Stopping.{stopped, refused, stop_answer, with_marks, HasLeft, FileComesTo, StopComesTo, StopFailed, IsOut, stop_fault, IsUnlexed}
use Rattle.pp_unit.proofs.WalkLemmas.{rules}
use Rattle.pp_unit.proofs.EnterLemmas.{stop_map}

-- an inclusion that names no header
pub unnamed : (stores : Stores) (left : ℕ) (outer : OpenFile) (here : Line) (seen : Seen) (marks : List Mark) (r : Result HeaderName PpKind) (stop : Stop) →
    ComesTo (NamesHeader (macros seen) (here_of outer here) (operands here)) r → ◌≡◌ {A = Result HeaderName Stop} (Err stop) (stopped here.number r) →
    IsOut stop ⊎ DoesInclude stores left (Walks stores left) outer here (with_marks seen marks) (Err (stop_fault outer stop))
unnamed stores left outer here seen marks (Ok x) stop comes same = cc
unnamed stores left outer here seen marks (Err kind) stop (inl out) same = let at : stop ≡ Here here.number kind = cc in inl (subst IsOut (sym at) out)
unnamed stores left outer here seen marks (Err kind) stop (inr names) same =
    let at : stop ≡ Here here.number kind = cc in
    subst (λ (s : Stop). IsOut s ⊎ DoesInclude stores left (Walks stores left) outer here (with_marks seen marks) (Err (stop_fault outer s))) (sym at) (inr (Stops (Err kind, names, refl)))

-- a header that is named
pub told_name : (n : ℕ) (P : Result HeaderName PpKind → Type 0) (r : Result HeaderName PpKind) (x : HeaderName) → ComesTo P r → ◌≡◌ {A = Result HeaderName Stop} (Ok x) (stopped n r) → P (Ok x)
told_name n P (Ok y) x h same = let is : y ≡ x = cc in subst (λ (z : HeaderName). P (Ok z)) is h
told_name n P (Err kind) x h same = cc

-- as many files are open as may be
pub deep : (stores : Stores) (left : ℕ) (outer : OpenFile) (here : Line) (m : Marked) (header : HeaderName) → HasLeft left outer → 200 ≤ length outer.frames →
    NamesHeader (macros m.seen) (here_of outer here) (operands here) (Ok header) → DoesInclude stores left (Walks stores left) outer here m (Err (fault_at outer here.number IncludeDepth))
deep stores zero outer here m header has full names = Goes {s = header} (Ok header, names, refl) refl
deep stores (suc left) outer here m header has full names = absurd (omega arith)

-- a search
pub searched : (stores : Stores) (left : ℕ) (outer : OpenFile) (here : Line) (seen : Seen) (marks : List Mark) (header : HeaderName) (located : Located) (bytes : List ℕ) (result : Result Seen Stop) → HasLeft left outer → length outer.frames < 200 →
    NamesHeader (macros seen) (here_of outer here) (operands here) (Ok header) → Finds stores (candidates (length stores) outer.id header.form header.name) located [] bytes →
    ((l : ℕ) (ms : List Mark) → HasLeft (suc l) outer → StopComesTo outer (IncludesFound stores (Walks stores (suc l)) outer here.number header.name (with_marks seen ms) located bytes) result) →
    StopComesTo outer (DoesInclude stores left (Walks stores left) outer here (with_marks seen marks)) result
searched stores zero outer here seen marks header located bytes result has few names finds opened = absurd (omega arith)
searched stores (suc left) outer here seen marks header located bytes result has few names finds opened =
    stop_map outer (IncludesFound stores (Walks stores (suc left)) outer here.number header.name (with_marks seen marks) located bytes) (DoesInclude stores (suc left) (Walks stores (suc left)) outer here (with_marks seen marks))
    (λ r found. Goes {s = header} (Ok header, names, refl) (located, bytes, finds, found)) result (opened left marks has)

pub finds_at : (stores : Stores) (id : FileId) (form : Form) (name shown : List ℕ) (located : Located) (old new bytes : List ℕ) → Finds stores (candidates (length stores) id form shown) located old new →
    shown ≡ name → old ≡ [] → bytes ≡ new → Finds stores (candidates (length stores) id form name) located [] bytes
finds_at stores id form name shown located old new bytes finds is_name is_old is_new =
    subst (λ (b : List ℕ). Finds stores (candidates (length stores) id form name) located [] b) (sym is_new)
    (subst (λ (o : List ℕ). Finds stores (candidates (length stores) id form name) located o new) is_old
    (subst (λ (n : List ℕ). Finds stores (candidates (length stores) id form n) located old new) is_name finds))

walks_by : (stores : Stores) (left : ℕ) (open_file : OpenFile) (bytes : List ℕ) (m : Marked) (r : Result Marked PpFault) → WalksBytes stores left (Walks stores left) open_file bytes m r → Walks stores (suc left) open_file bytes m r
unfolding Walks
walks_by stores left open_file bytes m r h = h

-- a fault other than want of memory is in its line
pub refused_is : (open_file : OpenFile) (n : ℕ) (kind : PpKind) → (kind ≡ NoMemory) ⊎ (refused open_file n kind ≡ fault_at open_file n kind)
refused_is open_file n NoMemory = inl refl
refused_is open_file n (Lex f) = inr refl
refused_is open_file n (Def f) = inr refl
refused_is open_file n (Predefined name) = inr refl
refused_is open_file n (Redefined name) = inr refl
refused_is open_file n (Directive f) = inr refl
refused_is open_file n (Expr f) = inr refl
refused_is open_file n (Expand f) = inr refl
refused_is open_file n (Struct f) = inr refl
refused_is open_file n (NoSuchFile name) = inr refl
refused_is open_file n BadInclude = inr refl
refused_is open_file n IncludeDepth = inr refl
refused_is open_file n ErrorDirective = inr refl
refused_is open_file n BadLine = inr refl
refused_is open_file n (SourceTooLong name) = inr refl
refused_is open_file n TooManyEvents = inr refl
refused_is open_file n TooMuchText = inr refl
refused_is open_file n StoreFault = inr refl

by_refusal : (stores : Stores) (left : ℕ) (open_file : OpenFile) (bytes : List ℕ) (m : Marked) (n : ℕ) (kind : PpKind) (fault : PpFault) → fault ≡ refused open_file n kind →
    ((kind ≡ NoMemory) ⊎ (refused open_file n kind ≡ fault_at open_file n kind)) → Walks stores (suc left) open_file bytes m (Err (fault_at open_file n kind)) → (fault ≡ ran_out) ⊎ Walks stores (suc left) open_file bytes m (Err fault)
by_refusal stores left open_file bytes m n kind fault is (inl out) walks = inl (is ∙ ap (refused open_file n) out)
by_refusal stores left open_file bytes m n kind fault is (inr same) walks = inr (subst (λ (f : PpFault). Walks stores (suc left) open_file bytes m (Err f)) (sym (is ∙ same)) walks)

-- a file without tokens
pub file_unlexed : (stores : Stores) (left : ℕ) (open_file : OpenFile) (bytes : List ℕ) (m : Marked) (n : ℕ) (kind : PpKind) (fault : PpFault) → (kind ≡ NoMemory) ⊎ IsUnlexed bytes n kind → fault ≡ refused open_file n kind →
    FileComesTo (Walks stores (suc left) open_file bytes m) (Err fault)
file_unlexed stores left open_file bytes m n kind fault (inl out) is = inl (is ∙ ap (refused open_file n) out)
file_unlexed stores left open_file bytes m n kind fault (inr (f, lexes, plain, at, is_kind)) is =
    by_refusal stores left open_file bytes m n kind fault is (refused_is open_file n kind)
    (walks_by stores left open_file bytes m _ (Unlexed f lexes plain (ap (λ l. Err (fault_at open_file l kind)) at ∙ ap (λ (k : PpKind). Err (fault_at open_file (fault_line f) k)) is_kind)))

followed : (stores : Stores) (left : ℕ) (open_file : OpenFile) (bytes : List ℕ) (m t : Marked) (lines : List Line) (r : Result Marked PpFault) → LexesFile bytes (Ok lines) →
    Runs (rules stores left open_file) [] (with_roles lines) m (Ok t) → r ≡ ended open_file lines t → Walks stores (suc left) open_file bytes m r
followed stores left open_file bytes m t lines r lexes runs ends =
    walks_by stores left open_file bytes m r (Followed lines lexes (Goes {s = t} (((lines_run (rules stores left open_file)).same (with_roles lines) m (Ok t)).0 runs) ends))

-- the run from the state and over the lines that the call before left
pub runs_lines : (stores : Stores) (left : ℕ) (open_file : OpenFile) (marks : List Mark) (after before : Seen) (given lines : List Line) (r : Result Seen Stop) → after ≡ before → given ≡ lines →
    StopComesTo open_file (Runs (rules stores left open_file) [] (with_roles given) (with_marks after marks)) r → StopComesTo open_file (Runs (rules stores left open_file) [] (with_roles lines) (with_marks before marks)) r
runs_lines stores left open_file marks after before given lines r same is runs =
    subst (λ (ls : List Line). StopComesTo open_file (Runs (rules stores left open_file) [] (with_roles ls) (with_marks before marks)) r) is
    (subst (λ (s : Seen). StopComesTo open_file (Runs (rules stores left open_file) [] (with_roles given) (with_marks s marks)) r) same runs)

-- a file that is followed and ends
pub file_ends : (stores : Stores) (left : ℕ) (open_file : OpenFile) (bytes : List ℕ) (m : Marked) (lines : List Line) (seen after : Seen) → LexesFile bytes (Ok lines) →
    StopComesTo open_file (Runs (rules stores left open_file) [] (with_roles lines) m) (Ok seen) → added seen End ≡ Ok after → FileComesTo (Walks stores (suc left) open_file bytes m) (Ok after)
file_ends stores left open_file bytes m lines seen after lexes (marks, runs) ends =
    let t : Marked = marked open_file.frames None (with_marks seen marks) in (
      t.marks,
      followed stores left open_file bytes m (with_marks seen marks) lines (Ok (with_marks after t.marks)) lexes runs
          (ap (λ (a : Result Seen PpKind). placed open_file (last_number 0 lines) (keeping_marks t a)) (sym ends)),
    )

-- one whose end is rejected
pub file_end_fails : (stores : Stores) (left : ℕ) (open_file : OpenFile) (bytes : List ℕ) (m : Marked) (lines : List Line) (seen : Seen) (n : ℕ) (kind : PpKind) (fault : PpFault) → LexesFile bytes (Ok lines) →
    StopComesTo open_file (Runs (rules stores left open_file) [] (with_roles lines) m) (Ok seen) → n ≡ last_number 0 lines → (kind ≡ NoMemory) ⊎ (added seen End ≡ Err kind) → fault ≡ refused open_file n kind →
    FileComesTo (Walks stores (suc left) open_file bytes m) (Err fault)
file_end_fails stores left open_file bytes m lines seen n kind fault lexes runs at (inl out) is = inl (is ∙ ap (refused open_file n) out)
file_end_fails stores left open_file bytes m lines seen n kind fault lexes (marks, runs) at (inr ends) is =
    by_refusal stores left open_file bytes m n kind fault is (refused_is open_file n kind)
    (followed stores left open_file bytes m (with_marks seen marks) lines _ lexes runs
    (ap (λ l. Err (fault_at open_file l kind)) at ∙ ap (λ (a : Result Seen PpKind). placed open_file (last_number 0 lines) (keeping_marks (marked open_file.frames None (with_marks seen marks)) a)) (sym ends)))

stopped_walk : (stores : Stores) (left : ℕ) (open_file : OpenFile) (bytes : List ℕ) (m : Marked) (lines : List Line) (fault : PpFault) → LexesFile bytes (Ok lines) →
    Runs (rules stores left open_file) [] (with_roles lines) m (Err fault) → Walks stores (suc left) open_file bytes m (Err fault)
stopped_walk stores left open_file bytes m lines fault lexes runs =
    walks_by stores left open_file bytes m _ (Followed lines lexes (Stops (((lines_run (rules stores left open_file)).same (with_roles lines) m (Err fault)).0 runs)))

-- a file that stops
pub file_stops : (stores : Stores) (left : ℕ) (open_file : OpenFile) (bytes : List ℕ) (m : Marked) (lines : List Line) (stop : Stop) (fault : PpFault) → LexesFile bytes (Ok lines) →
    StopComesTo open_file (Runs (rules stores left open_file) [] (with_roles lines) m) (Err stop) → fault ≡ stop_answer open_file stop → FileComesTo (Walks stores (suc left) open_file bytes m) (Err fault)
file_stops stores left open_file bytes m lines (Here n kind) fault lexes (inl out) is = inl (is ∙ ap (refused open_file n) out)
file_stops stores left open_file bytes m lines (Inside f) fault lexes (inl out) is = inl (is ∙ out)
file_stops stores left open_file bytes m lines (Here n kind) fault lexes (inr runs) is =
    by_refusal stores left open_file bytes m n kind fault is (refused_is open_file n kind) (stopped_walk stores left open_file bytes m lines (fault_at open_file n kind) lexes runs)
file_stops stores left open_file bytes m lines (Inside f) fault lexes (inr runs) is =
    inr (subst (λ (g : PpFault). Walks stores (suc left) open_file bytes m (Err g)) (sym is) (stopped_walk stores left open_file bytes m lines f lexes runs))

kind_kept : (open_file : OpenFile) (n : ℕ) (kind : PpKind) → ((kind ≡ NoMemory) ⊎ (refused open_file n kind ≡ fault_at open_file n kind)) → (refused open_file n kind).what ≡ kind
kind_kept open_file n kind (inl out) = ap (λ (k : PpKind). (refused open_file n k).what) out ∙ sym out
kind_kept open_file n kind (inr same) = ap (λ (f : PpFault). f.what) same

-- the kind of a refusal
pub refused_what : (open_file : OpenFile) (n : ℕ) (kind : PpKind) (fault : PpFault) → fault ≡ refused open_file n kind → fault.what ≡ kind
refused_what open_file n kind fault is = ap (λ (f : PpFault). f.what) is ∙ kind_kept open_file n kind (refused_is open_file n kind)

-- a file fails since it stopped by a failure
pub file_failed : (open_file : OpenFile) (stop : Stop) (fault : PpFault) → fault ≡ stop_answer open_file stop → StopFailed {A = Seen} (Err stop) → fault.what ≡ StoreFault
file_failed open_file (Here n kind) fault is failed = refused_what open_file n kind fault is ∙ failed
file_failed open_file (Inside f) fault is failed = ap (λ (g : PpFault). g.what) is ∙ failed

pub stop_failed : (open_file : OpenFile) (stop : Stop) (fault : PpFault) → fault ≡ stop_answer open_file stop → fault.what ≡ StoreFault → StopFailed {A = Seen} (Err stop)
stop_failed open_file (Here n kind) fault is failed = sym (refused_what open_file n kind fault is) ∙ failed
stop_failed open_file (Inside f) fault is failed = sym (ap (λ (g : PpFault). g.what) is) ∙ failed

-- a fault of tokens is none of a store
pub unlexed_plain : (bytes : List ℕ) (n : ℕ) (kind : PpKind) → (kind ≡ NoMemory) ⊎ IsUnlexed bytes n kind → kind ≡ StoreFault → ⊥
unlexed_plain bytes n kind (inl out) failed = cc
unlexed_plain bytes n kind (inr (f, lexes, plain, at, is)) failed = cc
