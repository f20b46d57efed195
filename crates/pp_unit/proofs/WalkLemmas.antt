-- How the lines of a file are followed one after another by the code, and what its parts come to.
use Rattle.std.proofs.Common.{◌≡◌, ◌⊎◌, inl, inr, ℕ, ◌+◌, ◌<◌, suc, List, [], ◌∷◌, length, drop, get_or, Some, None, Result, Ok, Err, sym, ap, subst, ◌∙◌, arith}
use Rattle.std.specs.Result.{IsErrAnd}
use Rattle.std.proofs.Math.Seq.{drop-cons}
use Rattle.pp_tokens.specs.declared.line.Line.{Line}
use Rattle.pp_directives.specs.declared.conditional.open_section.OpenSection.{OpenSection}
use Rattle.pp_directives.specs.declared.fault.StructFault.TheVariants.{OpenIf}
use Rattle.pp_directives.specs.Conditions.{open_line}
use Rattle.pp_directives.specs.Following.{Ways}
use Rattle.pp_directives.specs.Running.{Runs}
use Rattle.pp_directives.specs.Directives.{directive_of}
use Rattle.pp_directives.specs.Groups.{CondLine, line, role_of}
use Rattle.pp_directives.proofs.RunningLemmas.{runs_closed, runs_open}
use Rattle.pp_unit.specs.declared.open_file.OpenFile.{OpenFile}
use Rattle.pp_unit.specs.declared.stop.Stop.{Stop}
use Rattle.pp_unit.specs.declared.stop.Stop.TheVariants.{Here}
use Rattle.pp_unit.specs.declared.fault.PpFault.{PpFault}
use Rattle.pp_unit.specs.declared.fault.PpKind.TheVariants.{Struct}
use Rattle.pp_unit.specs.Seen.{Seen, Mark, Marked}
use Rattle.pp_unit.specs.Files.{Stores, ways, with_roles, Walks}
use Rattle.pp_unit.specs.Stopping.{HasLeft, with_marks, LineRuns, StopComesTo, IsOut, stop_fault}

-- the rules of the lines of a file
abbrev pub rules : Stores → ℕ → OpenFile → Ways Line Marked PpFault
rules stores left open_file = ways stores left (Walks stores left) open_file

-- what the lines that are left come to, with some marks, is what all lines come to
pub record RunsOn (stores : Stores) (open_file : OpenFile) (lines : List Line) (start : Seen) (pending : List OpenSection) (rest : List Line) (seen : Seen) : Type 0 where
  pub goes : (left : ℕ) (marks : List Mark) → HasLeft left open_file → (more : List Mark) ×
      ((r : Result Marked PpFault) → Runs (rules stores left open_file) pending (with_roles rest) (with_marks seen more) r →
      Runs (rules stores left open_file) [] (with_roles lines) (with_marks start marks) r)

-- before the first line
pub runs_all : (stores : Stores) (open_file : OpenFile) (lines : List Line) (start : Seen) (pending : List OpenSection) → pending ≡ [] → RunsOn stores open_file lines start pending lines start
runs_all stores open_file lines start pending is =
    subst (λ (p : List OpenSection). RunsOn stores open_file lines start p lines start) (sym is) (record { goes = λ left marks has. (marks, λ r h. h) })

-- what a line comes to
abbrev pub LineSteps : Stores → OpenFile → List OpenSection → Line → Seen → Result Seen Stop → List OpenSection → Type 0
LineSteps stores open_file pending here seen result next = (left : ℕ) (marks : List Mark) → HasLeft left open_file →
    LineRuns (rules stores left open_file) open_file pending here (with_marks seen marks) result next

one_more : (stores : Stores) (open_file : OpenFile) (lines : List Line) (start : Seen) (pending next : List OpenSection) (here : Line) (rest : List Line) (seen more : Seen) →
    RunsOn stores open_file lines start pending (here ∷ rest) seen → LineSteps stores open_file pending here seen (Ok more) next → RunsOn stores open_file lines start next rest more
one_more stores open_file lines start pending next here rest seen more on steps = record {
  goes = λ left marks has.
      let before = on.goes left marks has in
      let step = steps left before.0 has in
      (step.0, λ r h. before.1 r (step.1 (with_roles rest) r h));
}

-- after one line more
pub runs_more : (stores : Stores) (open_file : OpenFile) (lines : List Line) (start : Seen) (pending next : List OpenSection) (i : ℕ) (here : Line) (seen more : Seen) → i < length lines →
    here ≡ get_or lines i here → RunsOn stores open_file lines start pending (drop i lines) seen → LineSteps stores open_file pending here seen (Ok more) next → RunsOn stores open_file lines start next (drop (i + 1) lines) more
runs_more stores open_file lines start pending next i here seen more short is on steps =
    let cut : drop i lines ≡ here ∷ drop (suc i) lines = drop-cons lines i here short ∙ ap (λ (l : Line). l ∷ drop (suc i) lines) (sym is) in
    let one : suc i ≡ i + 1 = omega arith in
    subst (λ n. RunsOn stores open_file lines start next (drop n lines) more) one
    (one_more stores open_file lines start pending next here (drop (suc i) lines) seen more (subst (λ (ls : List Line). RunsOn stores open_file lines start pending ls seen) cut on) steps)

stops_at : (stores : Stores) (open_file : OpenFile) (lines : List Line) (start : Seen) (pending : List OpenSection) (here : Line) (rest : List Line) (seen : Seen) (stop : Stop) (left : ℕ) (marks more : List Mark) →
    ((r : Result Marked PpFault) → Runs (rules stores left open_file) pending (with_roles (here ∷ rest)) (with_marks seen more) r →
    Runs (rules stores left open_file) [] (with_roles lines) (with_marks start marks) r) →
    (IsOut stop ⊎ ((others : List (CondLine Line)) → Runs (rules stores left open_file) pending (line (role_of (directive_of here.tokens)) here ∷ others) (with_marks seen more) (Err (stop_fault open_file stop)))) →
    IsOut stop ⊎ Runs (rules stores left open_file) [] (with_roles lines) (with_marks start marks) (Err (stop_fault open_file stop))
stops_at stores open_file lines start pending here rest seen stop left marks more on (inl out) = inl out
stops_at stores open_file lines start pending here rest seen stop left marks more on (inr step) = inr (on (Err (stop_fault open_file stop)) (step (with_roles rest)))

-- a call hands on a stop
pub stop_by : (open_file : OpenFile) (Rules : Result Marked PpFault → Type 0) (r : Result Seen Stop) (stop : Stop) → IsErrAnd r (λ found. found ≡ stop) → (IsOut stop ⊎ Rules (Err (stop_fault open_file stop))) → StopComesTo open_file Rules r
stop_by open_file Rules (Ok x) stop e h = absurd e
stop_by open_file Rules (Err found) stop e h = subst (λ (s : Stop). IsOut s ⊎ Rules (Err (stop_fault open_file s))) (sym e) h

-- a line that stops
pub runs_stop : (stores : Stores) (open_file : OpenFile) (lines : List Line) (start : Seen) (pending next : List OpenSection) (i : ℕ) (here : Line) (seen : Seen) (stop : Stop) (r : Result Seen Stop) → i < length lines →
    here ≡ get_or lines i here → RunsOn stores open_file lines start pending (drop i lines) seen → LineSteps stores open_file pending here seen (Err stop) next → IsErrAnd r (λ found. found ≡ stop) →
    (left : ℕ) (marks : List Mark) → HasLeft left open_file → StopComesTo open_file (Runs (rules stores left open_file) [] (with_roles lines) (with_marks start marks)) r
runs_stop stores open_file lines start pending next i here seen stop r short is on steps e left marks has =
    let cut : drop i lines ≡ here ∷ drop (suc i) lines = drop-cons lines i here short ∙ ap (λ (l : Line). l ∷ drop (suc i) lines) (sym is) in
    let front : RunsOn stores open_file lines start pending (here ∷ drop (suc i) lines) seen = subst (λ (ls : List Line). RunsOn stores open_file lines start pending ls seen) cut on in
    let before = front.goes left marks has in
    stop_by open_file (Runs (rules stores left open_file) [] (with_roles lines) (with_marks start marks)) r stop e
    (stops_at stores open_file lines start pending here (drop (suc i) lines) seen stop left marks before.0 before.1 (steps left before.0 has))

-- the end of the lines, where nothing is open
pub runs_end : (stores : Stores) (open_file : OpenFile) (lines : List Line) (start : Seen) (pending : List OpenSection) (rest : List Line) (seen : Seen) → rest ≡ [] → open_line pending ≡ None →
    RunsOn stores open_file lines start pending rest seen → (left : ℕ) (marks : List Mark) → HasLeft left open_file → StopComesTo open_file (Runs (rules stores left open_file) [] (with_roles lines) (with_marks start marks)) (Ok seen)
runs_end stores open_file lines start pending rest seen none is on left marks has =
    let front : RunsOn stores open_file lines start pending [] seen = subst (λ (ls : List Line). RunsOn stores open_file lines start pending ls seen) none on in
    let before = front.goes left marks has in
    (before.0, before.1 (Ok (with_marks seen before.0)) (runs_closed (rules stores left open_file) pending (with_marks seen before.0) is))

-- where a section is open
pub runs_unclosed : (stores : Stores) (open_file : OpenFile) (lines : List Line) (start : Seen) (pending : List OpenSection) (rest : List Line) (seen : Seen) (number : ℕ) → rest ≡ [] → open_line pending ≡ Some number →
    RunsOn stores open_file lines start pending rest seen → (left : ℕ) (marks : List Mark) → HasLeft left open_file →
    StopComesTo open_file (Runs (rules stores left open_file) [] (with_roles lines) (with_marks start marks)) (Err (Here number (Struct OpenIf)))
runs_unclosed stores open_file lines start pending rest seen number none is on left marks has =
    let front : RunsOn stores open_file lines start pending [] seen = subst (λ (ls : List Line). RunsOn stores open_file lines start pending ls seen) none on in
    let before = front.goes left marks has in
    inr (before.1 _ (runs_open (rules stores left open_file) pending (with_marks seen before.0) number is))
