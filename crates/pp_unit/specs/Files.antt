-- How the files of a translation unit are walked: each by the tree of its lines, and an inclusion by the file that is found (C17 6.10.2).
use Rattle.std.specs.Prelude.{◌≡◌, ℕ, zero, suc, Bool, List, [], ◌∷◌, ◌++◌, length, map, Option, None, Some, Result, Ok, Err}
use Rattle.mac_io.specs.Files.{Files}
use Rattle.mac_io.specs.Search.{Finds, candidates, label_of, path_text}
use Rattle.mac_io.specs.declared.headers.FileId.{FileId}
use Rattle.mac_io.specs.declared.headers.Located.{Located}
use Rattle.mac_io.specs.declared.headers.Located.TheVariants.{Found, Absent, TooLong, Failed}
use Rattle.mac_io.specs.declared.headers.Located.TheVariants.{NoMemory as SearchRanOut}
use Rattle.pp_tokens.specs.Cut.{LexesFile}
use Rattle.pp_tokens.specs.Laws.{IsAnswer}
use Rattle.pp_tokens.specs.declared.line.Line.{Line}
use Rattle.pp_tokens.specs.declared.fault.LexFault.{LexFault}
use Rattle.pp_tokens.specs.declared.fault.LexFault.TheVariants.{NulByte, OpenComment, NoMemory as LexRanOut}
use Rattle.mac_base.specs.Items.{End}
use Rattle.pp_directives.specs.declared.directive.Directive.{Directive}
use Rattle.pp_directives.specs.declared.directive.Directive.TheVariants.{Include}
use Rattle.pp_directives.specs.Directives.{directive_of}
use Rattle.pp_directives.specs.Groups.{CondLine, line, role_of}
use Rattle.pp_directives.specs.Following.{Ways, Then, Chosen, FollowsFile}
use Rattle.pp_unit.specs.declared.open_file.OpenFile.{OpenFile}
use Rattle.pp_unit.specs.declared.directives.header.HeaderName.{HeaderName}
use Rattle.pp_unit.specs.declared.fault.PpFault.{PpFault}
use Rattle.pp_unit.specs.declared.fault.PpKind.{PpKind}
use Rattle.pp_unit.specs.declared.fault.PpKind.TheVariants.{Lex, Struct, NoSuchFile, SourceTooLong, StoreFault, IncludeDepth}
use Rattle.pp_unit.specs.Kinds.{fault_at, placed}
use Rattle.pp_unit.specs.Seen.{Seen, Marked, added, started, number_of, is_once, macros, marked, with_seen}
use Rattle.pp_unit.specs.LineConditions.{operands, here_of, HasAnswer}
use Rattle.pp_unit.specs.HeaderNames.{NamesHeader}
use Rattle.pp_unit.specs.Lines.{Directs}

-- the stores of the path, each with its label and what it tells of its files
abbrev pub Stores : Type 0
Stores = List (List ℕ × Option Files)

-- what the walk of a file with these bytes comes to, from after its start to its end
abbrev pub FileWalk : Type 1
FileWalk = OpenFile → List ℕ → Marked → Result Marked PpFault → Type 0

-- an answer of a part that sees no marks
abbrev pub keeping_marks : Marked → Result Seen PpKind → Result Marked PpKind
keeping_marks m (Ok seen) = Ok (with_seen m seen)
keeping_marks m (Err kind) = Err kind

-- a part of a line that sees no marks; its faults are in the line
abbrev pub Part : OpenFile → ℕ → (Result Seen PpKind → Type 0) → Marked → Result Marked PpFault → Type 0
Part open_file number Gives m r = (answer : Result Seen PpKind) × Gives answer × (r ≡ placed open_file number (keeping_marks m answer))

-- a file that is included in this line of a file: it is open innermost, by the number of its path
abbrev pub inside : Stores → OpenFile → ℕ → FileId → Seen → OpenFile
inside stores outer number id seen =
    let path = path_text (label_of stores id.store) id.name in
    record { frames = outer.frames ++ record { path = number_of seen path; line = number } ∷ []; path = path; id = id }

-- a file that was found begins, and is walked
abbrev pub Enters : Stores → FileWalk → OpenFile → ℕ → FileId → List ℕ → Marked → Result Marked PpFault → Type 0
Enters stores Inner outer number id bytes m =
    let open_file = inside stores outer number id m.seen in
    Then (Part outer number (λ answer. answer ≡ started m.seen number open_file.path) m) (Inner open_file bytes)

-- what an inclusion comes to by what the search found; a file that contributes nothing any more has no events
abbrev pub IncludesFound : Stores → FileWalk → OpenFile → ℕ → List ℕ → Marked → Located → List ℕ → Result Marked PpFault → Type 0
IncludesFound stores Inner outer number name m (Found id) bytes r = Chosen (λ q. q ≡ Ok m) (Enters stores Inner outer number id bytes m) (is_once m.seen id) r
IncludesFound stores Inner outer number name m Absent bytes r = r ≡ Err (fault_at outer number (NoSuchFile name))
IncludesFound stores Inner outer number name m TooLong bytes r = r ≡ Err (fault_at outer number (SourceTooLong name))
IncludesFound stores Inner outer number name m Failed bytes r = r ≡ Err (fault_at outer number StoreFault)
IncludesFound stores Inner outer number name m SearchRanOut bytes r = ⊥

-- The file of one of these names in stores is asked for, in order. A store that tells nothing has some content that explains the answer; any store may fail.
abbrev pub Includes : Stores → FileWalk → OpenFile → ℕ → List ℕ → List FileId → Marked → Result Marked PpFault → Type 0
Includes stores Inner outer number name ids m r =
    (located : Located) × (bytes : List ℕ) × Finds stores ids located [] bytes × IncludesFound stores Inner outer number name m located bytes r

-- the inclusion of a header, where so many files may still be opened
abbrev pub IncludesHeader : Stores → ℕ → FileWalk → OpenFile → ℕ → HeaderName → Marked → Result Marked PpFault → Type 0
IncludesHeader stores zero Inner outer number header m r = r ≡ Err (fault_at outer number IncludeDepth)
IncludesHeader stores (suc left) Inner outer number header m r =
    Includes stores Inner outer number header.name (candidates (length stores) outer.id header.form header.name) m r

-- an `#include`
abbrev pub DoesInclude : Stores → ℕ → FileWalk → OpenFile → Line → Marked → Result Marked PpFault → Type 0
DoesInclude stores left Inner open_file here m =
    Then
    (λ (r : Result HeaderName PpFault). (answer : Result HeaderName PpKind) × NamesHeader (macros m.seen) (here_of open_file here) (operands here) answer × (r ≡ placed open_file here.number answer))
    (λ header. IncludesHeader stores left Inner open_file here.number header m)

-- a line of a taken group that is no conditional directive, by the directive that it is
abbrev pub DoesBy : Stores → ℕ → FileWalk → OpenFile → Line → Directive → Marked → Result Marked PpFault → Type 0
DoesBy stores left Inner open_file here Include m r = DoesInclude stores left Inner open_file here m r
DoesBy stores left Inner open_file here directive m r = Part open_file here.number (Directs open_file here directive m.seen) m r

-- what the lines of a file do: each has a mark before it
abbrev pub ways : Stores → ℕ → FileWalk → OpenFile → Ways Line Marked PpFault
ways stores left Inner open_file = record {
  passes = λ here m. marked open_file.frames (Some here.number) m;
  Does = λ here m. DoesBy stores left Inner open_file here (directive_of here.tokens) (marked open_file.frames (Some here.number) m);
  Asks = λ here m r. (answer : Result Bool PpKind) × HasAnswer open_file here m.seen answer × (r ≡ placed open_file here.number answer);
  breaks = λ fault number. fault_at open_file number (Struct fault);
  spot = λ here. here.number;
}

-- the lines of a file, each with what it does to the groups
abbrev pub with_roles : List Line → List (CondLine Line)
with_roles = map (λ (here : Line). line (role_of (directive_of here.tokens)) here)

-- the number of the last line, or this one where there is none
abbrev pub last_number : ℕ → List Line → ℕ
last_number number [] = number
last_number number (here ∷ lines) = last_number here.number lines

-- the end of a file, after the mark there; its faults are in the last line
abbrev pub ended : OpenFile → List Line → Marked → Result Marked PpFault
ended open_file lines m = placed open_file (last_number 0 lines) (keeping_marks (marked open_file.frames None m) (added m.seen End))

-- the line of a fault of tokens
abbrev pub fault_line : LexFault → ℕ
fault_line (NulByte line) = line
fault_line (OpenComment line) = line
fault_line LexRanOut = 0

-- WalksBytes: what a file comes to of these bytes, where so many files may still be opened in it: it is lexed to its end, then its lines are followed, then it ends
pub data WalksBytes (stores : Stores) (left : ℕ) (Inner : FileWalk) (open_file : OpenFile) (bytes : List ℕ) (m : Marked) (r : Result Marked PpFault) : Type 0 where
  Unlexed : (fault : LexFault) → LexesFile bytes (Err fault) → IsAnswer {A = List Line} (Err fault) →
      r ≡ Err (fault_at open_file (fault_line fault) (Lex fault)) → WalksBytes stores left Inner open_file bytes m r
  Followed : (lines : List Line) → LexesFile bytes (Ok lines) →
      Then (FollowsFile (ways stores left Inner open_file) (with_roles lines) m) (λ t q. q ≡ ended open_file lines t) r → WalksBytes stores left Inner open_file bytes m r

-- the walk of a file, where so many files may be opened, this one among them
unfoldable pub Walks : Stores → ℕ → FileWalk
Walks stores zero open_file bytes m r = ⊥
Walks stores (suc left) open_file bytes m r = WalksBytes stores left (Walks stores left) open_file bytes m r
