-- What a line comes to, by what the code does with it.
use Rattle.std.proofs.Common.{◌≡◌, ◌⊎◌, inl, inr, ℕ, Bool, true, false, not, List, ◌∷◌, Some, Result, Ok, Err, refl, sym, subst}
use Rattle.std.specs.Result.{IsErrAnd, IfErr, IfOk}
use Rattle.pp_tokens.specs.declared.line.Line.{Line}
use Rattle.pp_directives.specs.declared.directive.Directive.{Directive}
use Rattle.pp_directives.specs.declared.directive.Directive.TheVariants.{Text, Null, If, Ifdef, Ifndef, Elif, Else, Endif, Include, Define, Undef, LineNumber, Error, Pragma, Unknown}
use Rattle.pp_directives.specs.declared.conditional.open_section.OpenSection.{OpenSection}
use Rattle.pp_directives.specs.Reached.{is_other}
use Rattle.pp_directives.specs.Conditions.{is_active, is_due}
use Rattle.pp_directives.specs.Following.{Ways}
use Rattle.pp_directives.specs.Running.{Runs, Answers}
use Rattle.pp_directives.specs.Directives.{directive_of}
use Rattle.pp_directives.specs.Groups.{LineRole, OtherLine, IfLine, ElifLine, ElseLine, EndifLine, CondLine, line, role_of}
use Rattle.pp_directives.proofs.RunningLemmas.{other_does, other_fails, other_passed, condition_fails, line_turned, line_refused, answer_due, answer_not_due}
use Rattle.pp_unit.specs.declared.open_file.OpenFile.{OpenFile}
use Rattle.pp_unit.specs.declared.stop.Stop.{Stop}
use Rattle.pp_unit.specs.declared.stop.Stop.TheVariants.{Here}
use Rattle.pp_unit.specs.declared.fault.PpFault.{PpFault}
use Rattle.pp_unit.specs.declared.fault.PpKind.{PpKind}
use Rattle.pp_unit.specs.declared.fault.PpKind.TheVariants.{NoMemory}
use Rattle.pp_unit.specs.Kinds.{fault_at}
use Rattle.pp_unit.specs.Seen.{Seen, Mark, Marked, marked}
use Rattle.pp_unit.specs.LineConditions.{AnswersBy}
use Rattle.pp_unit.specs.Lines.{Directs}
use Rattle.pp_unit.specs.Files.{Stores, ways, Part, DoesBy, DoesInclude, Walks}
use Rattle.pp_unit.specs.Recorded.{ComesTo}
use Rattle.pp_unit.specs.Stopping.{stopped, with_marks, HasLeft, LineRuns, StopComesTo, IsOut, stop_fault, Given, Turned, is_include}
use Rattle.pp_unit.proofs.WalkLemmas.{rules, LineSteps}

-- want of memory, in a line
pub stopped_out : {A : Type 0} (n : ℕ) (r : Result A PpKind) (stop : Stop) → ◌≡◌ {A = Result A Stop} (Err stop) (stopped n r) → IfErr r (λ kind. kind ≡ NoMemory) → IsOut stop
stopped_out n (Ok x) stop is out = cc
stopped_out n (Err kind) stop is out = let same : stop ≡ Here n kind = cc in subst IsOut (sym same) out

-- a call hands on a stop
pub line_stop_by : (ways : Ways Line Marked PpFault) (open_file : OpenFile) (old new : List OpenSection) (here : Line) (m : Marked) (r : Result Seen Stop) (stop : Stop) →
    IsErrAnd r (λ found. found ≡ stop) → LineRuns ways open_file old here m (Err stop) new → LineRuns ways open_file old here m r new
line_stop_by ways open_file old new here m (Ok x) stop e h = absurd e
line_stop_by ways open_file old new here m (Err found) stop e h = subst (λ (s : Stop). LineRuns ways open_file old here m (Err s) new) (sym e) h

other_role : (role : LineRole) → not (is_other role) ≡ false → role ≡ OtherLine
other_role OtherLine is = refl
other_role IfLine is = cc
other_role ElifLine is = cc
other_role ElseLine is = cc
other_role EndifLine is = cc

turning_role : (role : LineRole) → not (is_other role) ≡ true → is_other role ≡ false
turning_role OtherLine is = cc
turning_role IfLine is = refl
turning_role ElifLine is = refl
turning_role ElseLine is = refl
turning_role EndifLine is = refl

-- the lines of a taken group that are no inclusions
does_part : (stores : Stores) (left : ℕ) (open_file : OpenFile) (here : Line) (d : Directive) (m : Marked) (r : Result Marked PpFault) → is_include d ≡ false →
    Part open_file here.number (Directs open_file here d m.seen) m r → DoesBy stores left (Walks stores left) open_file here d m r
does_part stores left open_file here Text m r is h = h
does_part stores left open_file here Null m r is h = h
does_part stores left open_file here If m r is h = h
does_part stores left open_file here (Ifdef name) m r is h = h
does_part stores left open_file here (Ifndef name) m r is h = h
does_part stores left open_file here Elif m r is h = h
does_part stores left open_file here Else m r is h = h
does_part stores left open_file here Endif m r is h = h
does_part stores left open_file here Include m r is h = cc
does_part stores left open_file here Define m r is h = h
does_part stores left open_file here (Undef name) m r is h = h
does_part stores left open_file here LineNumber m r is h = h
does_part stores left open_file here Error m r is h = h
does_part stores left open_file here Pragma m r is h = h
does_part stores left open_file here Unknown m r is h = h

does_include : (stores : Stores) (left : ℕ) (open_file : OpenFile) (here : Line) (d : Directive) (m : Marked) (r : Result Marked PpFault) → is_include d ≡ true →
    DoesInclude stores left (Walks stores left) open_file here m r → DoesBy stores left (Walks stores left) open_file here d m r
does_include stores left open_file here Include m r is h = h
does_include stores left open_file here Text m r is h = cc
does_include stores left open_file here Null m r is h = cc
does_include stores left open_file here If m r is h = cc
does_include stores left open_file here (Ifdef name) m r is h = cc
does_include stores left open_file here (Ifndef name) m r is h = cc
does_include stores left open_file here Elif m r is h = cc
does_include stores left open_file here Else m r is h = cc
does_include stores left open_file here Endif m r is h = cc
does_include stores left open_file here Define m r is h = cc
does_include stores left open_file here (Undef name) m r is h = cc
does_include stores left open_file here LineNumber m r is h = cc
does_include stores left open_file here Error m r is h = cc
does_include stores left open_file here Pragma m r is h = cc
does_include stores left open_file here Unknown m r is h = cc

-- the line is before others: what it does, if it is in a taken group
does_runs : (ways : Ways Line Marked PpFault) (open_file : OpenFile) (pending : List OpenSection) (here : Line) (m : Marked) (seen : Seen) (more : List Mark) → role_of (directive_of here.tokens) ≡ OtherLine → is_active pending ≡ true →
    ways.Does here m (Ok (with_marks seen more)) → LineRuns ways open_file pending here m (Ok seen) pending
does_runs ways open_file pending here m seen more role active does =
    (more, λ rest r h. subst (λ (k : LineRole). Runs ways pending (line k here ∷ rest) m r) (sym role) (other_does ways here pending rest m (with_marks seen more) r active does h))

does_stops : (ways : Ways Line Marked PpFault) (open_file : OpenFile) (pending : List OpenSection) (here : Line) (m : Marked) (stop : Stop) → role_of (directive_of here.tokens) ≡ OtherLine → is_active pending ≡ true →
    (IsOut stop ⊎ ways.Does here m (Err (stop_fault open_file stop))) → LineRuns ways open_file pending here m (Err stop) pending
does_stops ways open_file pending here m stop role active (inl out) = inl out
does_stops ways open_file pending here m stop role active (inr does) =
    inr (λ rest. subst (λ (k : LineRole). Runs ways pending (line k here ∷ rest) m (Err (stop_fault open_file stop))) (sym role) (other_fails ways here pending rest m (stop_fault open_file stop) active does))

-- an inclusion
pub included_steps : (stores : Stores) (open_file : OpenFile) (pending : List OpenSection) (here : Line) (seen : Seen) (d : Directive) (result : Result Seen Stop) →
    d ≡ directive_of here.tokens → not (is_other (role_of d)) ≡ false → is_active pending ≡ true → is_include d ≡ true →
    ((left : ℕ) (marks : List Mark) → HasLeft left open_file → StopComesTo open_file (DoesInclude stores left (Walks stores left) open_file here (with_marks seen marks)) result) →
    LineSteps stores open_file pending here seen result pending
included_steps stores open_file pending here seen d (Ok after) is other active include comes left marks has =
    let m : Marked = marked open_file.frames (Some here.number) (with_marks seen marks) in
    let role : role_of (directive_of here.tokens) ≡ OtherLine = other_role _ (subst (λ (e : Directive). not (is_other (role_of e)) ≡ false) is other) in
    let include' : is_include (directive_of here.tokens) ≡ true = subst (λ (e : Directive). is_include e ≡ true) is include in
    let found = comes left m.marks has in
    does_runs (rules stores left open_file) open_file pending here (with_marks seen marks) after found.0 role active (does_include stores left open_file here (directive_of here.tokens) m _ include' found.1)
included_steps stores open_file pending here seen d (Err stop) is other active include comes left marks has =
    let m : Marked = marked open_file.frames (Some here.number) (with_marks seen marks) in
    let role : role_of (directive_of here.tokens) ≡ OtherLine = other_role _ (subst (λ (e : Directive). not (is_other (role_of e)) ≡ false) is other) in
    let include' : is_include (directive_of here.tokens) ≡ true = subst (λ (e : Directive). is_include e ≡ true) is include in
    does_stops (rules stores left open_file) open_file pending here (with_marks seen marks) stop role active
    (either_does stores left open_file here m stop include' (comes left m.marks has))
  where
    either_does : (stores : Stores) (left : ℕ) (open_file : OpenFile) (here : Line) (m : Marked) (stop : Stop) → is_include (directive_of here.tokens) ≡ true →
        (IsOut stop ⊎ DoesInclude stores left (Walks stores left) open_file here m (Err (stop_fault open_file stop))) →
        IsOut stop ⊎ DoesBy stores left (Walks stores left) open_file here (directive_of here.tokens) m (Err (stop_fault open_file stop))
    either_does stores left open_file here m stop is (inl out) = inl out
    either_does stores left open_file here m stop is (inr h) = inr (does_include stores left open_file here (directive_of here.tokens) m _ is h)

-- a line of a group that is not taken
pub passed_steps : (stores : Stores) (open_file : OpenFile) (pending : List OpenSection) (here : Line) (seen : Seen) (d : Directive) →
    d ≡ directive_of here.tokens → not (is_other (role_of d)) ≡ false → is_active pending ≡ false → LineSteps stores open_file pending here seen (Ok seen) pending
passed_steps stores open_file pending here seen d is other active left marks has =
    let m : Marked = marked open_file.frames (Some here.number) (with_marks seen marks) in
    let role : role_of (directive_of here.tokens) ≡ OtherLine = other_role _ (subst (λ (e : Directive). not (is_other (role_of e)) ≡ false) is other) in (
      m.marks,
      λ rest r h. subst (λ (k : LineRole). Runs (rules stores left open_file) pending (line k here ∷ rest) (with_marks seen marks) r) (sym role)
          (other_passed (rules stores left open_file) here pending rest (with_marks seen marks) r active h),
    )

-- another line of a taken group
pub directed_steps : (stores : Stores) (open_file : OpenFile) (pending : List OpenSection) (here : Line) (seen : Seen) (d : Directive) (r : Result Seen PpKind) (result : Result Seen Stop) →
    d ≡ directive_of here.tokens → not (is_other (role_of d)) ≡ false → is_active pending ≡ true → is_include d ≡ false → ComesTo (Directs open_file here d seen) r → result ≡ stopped here.number r →
    LineSteps stores open_file pending here seen result pending
directed_steps stores open_file pending here seen d (Ok after) result is other active include comes same left marks has =
    let m : Marked = marked open_file.frames (Some here.number) (with_marks seen marks) in
    let role : role_of (directive_of here.tokens) ≡ OtherLine = other_role _ (subst (λ (e : Directive). not (is_other (role_of e)) ≡ false) is other) in
    subst (λ (q : Result Seen Stop). LineRuns (rules stores left open_file) open_file pending here (with_marks seen marks) q pending) (sym same)
    (does_runs (rules stores left open_file) open_file pending here (with_marks seen marks) after m.marks role active
    (does_part stores left open_file here (directive_of here.tokens) m _ (subst (λ (e : Directive). is_include e ≡ false) is include) (Ok after, subst (λ (e : Directive). Directs open_file here e seen (Ok after)) is comes, refl)))
directed_steps stores open_file pending here seen d (Err kind) result is other active include (inl out) same left marks has =
    subst (λ (q : Result Seen Stop). LineRuns (rules stores left open_file) open_file pending here (with_marks seen marks) q pending) (sym same) (inl out)
directed_steps stores open_file pending here seen d (Err kind) result is other active include (inr comes) same left marks has =
    let m : Marked = marked open_file.frames (Some here.number) (with_marks seen marks) in
    let role : role_of (directive_of here.tokens) ≡ OtherLine = other_role _ (subst (λ (e : Directive). not (is_other (role_of e)) ≡ false) is other) in
    subst (λ (q : Result Seen Stop). LineRuns (rules stores left open_file) open_file pending here (with_marks seen marks) q pending) (sym same)
    (does_stops (rules stores left open_file) open_file pending here (with_marks seen marks) (Here here.number kind) role active
    (inr (does_part stores left open_file here (directive_of here.tokens) m _ (subst (λ (e : Directive). is_include e ≡ false) is include) (Err kind, subst (λ (e : Directive). Directs open_file here e seen (Err kind)) is comes, refl))))

-- the answer to a condition, as the rules have it
given_answer : (stores : Stores) (left : ℕ) (open_file : OpenFile) (here : Line) (role : LineRole) (pending : List OpenSection) (m : Marked) (answer : Bool) (due : Bool) → is_due role pending ≡ due →
    Given due (AnswersBy open_file here m.seen (directive_of here.tokens)) (Ok answer) → Answers (rules stores left open_file) (is_due role pending) here m (Ok answer)
given_answer stores left open_file here role pending m answer true is given = answer_due (rules stores left open_file) role here pending m answer is (Ok answer, given, refl)
given_answer stores left open_file here role pending m answer false is given =
    let no_answer : answer ≡ false = cc in
    subst (λ b. Answers (rules stores left open_file) (is_due role pending) here m (Ok b)) (sym no_answer) (answer_not_due (rules stores left open_file) role here pending m is)

-- a condition that is asked and has a fault
given_fault : (stores : Stores) (left : ℕ) (open_file : OpenFile) (here : Line) (role : LineRole) (pending : List OpenSection) (m : Marked) (kind : PpKind) (rest : List (CondLine Line)) (due : Bool) → is_due role pending ≡ due →
    Given due (AnswersBy open_file here m.seen (directive_of here.tokens)) (Err kind) → Runs (rules stores left open_file) pending (line role here ∷ rest) m (Err (fault_at open_file here.number kind))
given_fault stores left open_file here role pending m kind rest true is given = condition_fails (rules stores left open_file) role here pending rest m _ is (Err kind, given, refl)
given_fault stores left open_file here role pending m kind rest false is given = cc

-- a conditional directive
pub turned_steps : (stores : Stores) (open_file : OpenFile) (old new : List OpenSection) (here : Line) (seen : Seen) (d : Directive) (x : Unit {0}) →
    d ≡ directive_of here.tokens → not (is_other (role_of d)) ≡ true → Turned open_file here seen d old new (Ok x) → LineSteps stores open_file old here seen (Ok seen) new
turned_steps stores open_file old new here seen d x is turning turns left marks has =
    let m : Marked = with_marks seen marks in
    let role : is_other (role_of (directive_of here.tokens)) ≡ false = turning_role _ (subst (λ (e : Directive). not (is_other (role_of e)) ≡ true) is turning) in
    let all : Turned open_file here seen (directive_of here.tokens) old new (Ok x) = subst (λ (e : Directive). Turned open_file here seen e old new (Ok x)) is turns in (
      (marked open_file.frames (Some here.number) m).marks,
      λ rest r h. line_turned (rules stores left open_file) (role_of (directive_of here.tokens)) here old new rest m all.0 r role
          (given_answer stores left open_file here (role_of (directive_of here.tokens)) old m all.0 _ refl all.1) all.2 h,
    )

turn_fails : (stores : Stores) (left : ℕ) (open_file : OpenFile) (old new : List OpenSection) (here : Line) (seen : Seen) (marks : List Mark) (kind : PpKind) → is_other (role_of (directive_of here.tokens)) ≡ false →
    Turned open_file here seen (directive_of here.tokens) old new (Err kind) → LineRuns (rules stores left open_file) open_file old here (with_marks seen marks) (Err (Here here.number kind)) new
turn_fails stores left open_file old new here seen marks kind role (inl out) = inl out
turn_fails stores left open_file old new here seen marks kind role (inr (inl given)) =
    inr (λ rest. given_fault stores left open_file here (role_of (directive_of here.tokens)) old (with_marks seen marks) kind rest _ refl given)
turn_fails stores left open_file old new here seen marks kind role (inr (inr (answer, given, fault, is, turns))) =
    inr (λ rest. subst (λ (k : PpKind). Runs (rules stores left open_file) old (line (role_of (directive_of here.tokens)) here ∷ rest) (with_marks seen marks) (Err (fault_at open_file here.number k))) (sym is)
    (line_refused (rules stores left open_file) (role_of (directive_of here.tokens)) here old rest (with_marks seen marks) answer fault role
    (given_answer stores left open_file here (role_of (directive_of here.tokens)) old (with_marks seen marks) answer _ refl given) turns))

-- one that stops
pub turn_stops : (stores : Stores) (open_file : OpenFile) (old new : List OpenSection) (here : Line) (seen : Seen) (d : Directive) (r : Result (Unit {0}) PpKind) (stop : Stop) (q : Result Seen Stop) →
    d ≡ directive_of here.tokens → not (is_other (role_of d)) ≡ true → Turned open_file here seen d old new r → ◌≡◌ {A = Result (Unit {0}) Stop} (Err stop) (stopped here.number r) → IsErrAnd q (λ found. found ≡ stop) →
    LineSteps stores open_file old here seen q new
turn_stops stores open_file old new here seen d (Ok x) stop q is turning turns same e left marks has = cc
turn_stops stores open_file old new here seen d (Err kind) stop q is turning turns same e left marks has =
    let at : stop ≡ Here here.number kind = cc in
    let role : is_other (role_of (directive_of here.tokens)) ≡ false = turning_role _ (subst (λ (e : Directive). not (is_other (role_of e)) ≡ true) is turning) in
    line_stop_by (rules stores left open_file) open_file old new here (with_marks seen marks) q stop e
    (subst (λ (s : Stop). LineRuns (rules stores left open_file) open_file old here (with_marks seen marks) (Err s) new) (sym at)
    (turn_fails stores left open_file old new here seen marks kind role (subst (λ (e : Directive). Turned open_file here seen e old new (Err kind)) is turns)))

-- what an answer was before it was put in a line
pub told : {A : Type 0} (n : ℕ) (r : Result A PpKind) (x : A) (P : A → Type 0) → ◌≡◌ {A = Result A Stop} (Ok x) (stopped n r) → IfOk r P → P x
told n (Ok y) x P is h = let same : y ≡ x = cc in subst P same h
told n (Err kind) x P is h = cc

pub turned_ok : (n : ℕ) (open_file : OpenFile) (here : Line) (seen : Seen) (d : Directive) (old new : List OpenSection) (r : Result (Unit {0}) PpKind) (x : Unit {0}) → ◌≡◌ {A = Result (Unit {0}) Stop} (Ok x) (stopped n r) →
    Turned open_file here seen d old new r → Turned open_file here seen d old new (Ok x)
turned_ok n open_file here seen d old new (Ok y) x is h = h
turned_ok n open_file here seen d old new (Err kind) x is h = cc
