-- What the lines of a file leave, one before the others.
use Rattle.std.proofs.Common.{◌≡◌, ℕ, suc, ◌+◌, List, [], ◌∷◌, ◌++◌, length, Some, None, refl, sym, ap, ◌∙◌, append_assoc, length-append, arith}
use Rattle.std.proofs.lemmas.List.{append-nil}
use Rattle.pp_tokens.specs.declared.line.Line.{Line}
use Rattle.pp_tokens.specs.Laws.{RiseFrom}
use Rattle.mac_base.specs.Items.{Item, Define, Undef, Start, End}
use Rattle.pp_unit.specs.Seen.{Mark, Marked}
use Rattle.pp_unit.proofs.Traces.{Trace, Done, Silent, Defines, Undefines, Includes, items_onto, size, mark, marks_onto, Rises, onto_append, onto_length}

pub marks_append : (t : Trace) (c : List ℕ) (e : ℕ) (more rest : List Mark) → marks_onto c e t (more ++ rest) ≡ marks_onto c e t more ++ rest
marks_append Done c e more rest = refl
marks_append (Silent n t) c e more rest = ap (λ (list : List Mark). mark c (Some n) e ∷ list) (marks_append t c e more rest)
marks_append (Defines n text t) c e more rest = ap (λ (list : List Mark). mark c (Some n) e ∷ list) (marks_append t c (suc e) more rest)
marks_append (Undefines n name t) c e more rest = ap (λ (list : List Mark). mark c (Some n) e ∷ list) (marks_append t c (suc e) more rest)
marks_append (Includes n path inner t) c e more rest =
    let inside = c ++ n ∷ [] in
    let next = suc (suc e + size inner) in
    let end = mark inside None (suc e + size inner) in
    ap (λ (list : List Mark). mark c (Some n) e ∷ marks_onto inside (suc e) inner (end ∷ list)) (marks_append t c next more rest)
    ∙ ap (λ (list : List Mark). mark c (Some n) e ∷ list) (marks_append inner inside (suc e) (end ∷ marks_onto c next t more) rest)

-- the numbers rise where those of these lines do
abbrev pub Covers : List Line → Trace → Type 0
Covers lines t = (low : ℕ) → RiseFrom low lines → Rises low t

-- what these lines of a file leave, from a state to another
pub record Leaves (c : List ℕ) (to : Marked) (lines : List Line) (m : Marked) : Type 0 where
  pub trace : Trace
  pub items : to.seen.items ≡ m.seen.items ++ items_onto trace []
  pub marks : to.marks ≡ m.marks ++ marks_onto c (length m.seen.items) trace []
  pub covers : Covers lines trace

-- what a whole file leaves, with its end
pub record FileLeaves (c : List ℕ) (m to : Marked) : Type 0 where
  pub trace : Trace
  pub items : to.seen.items ≡ m.seen.items ++ items_onto trace (End ∷ [])
  pub marks : to.marks ≡ m.marks ++ marks_onto c (length m.seen.items) trace (mark c None (length m.seen.items + size trace) ∷ [])
  pub rises : Rises 0 trace

-- one list after another after a third
after_two : {A : Type 0} (a b c new rest : List A) → b ≡ a ++ new → c ≡ b ++ rest → c ≡ a ++ (new ++ rest)
after_two a b c new rest one two = two ∙ ap (λ (list : List _). list ++ rest) one ∙ append_assoc a new rest

module _ (c : List ℕ) (to : Marked) (here : Line) (lines : List Line) (m next : Marked) where
  -- a line that leaves its mark alone
  pub silent : next.seen.items ≡ m.seen.items → next.marks ≡ m.marks ++ mark c (Some here.number) (length m.seen.items) ∷ [] → Leaves c to lines next → Leaves c to (here ∷ lines) m
  silent same marks rest = record {
    trace = Silent here.number rest.trace;
    items = rest.items ∙ ap (λ (list : List (Item ℕ)). list ++ items_onto rest.trace []) same;
    marks =
        after_two m.marks next.marks to.marks (mark c (Some here.number) (length m.seen.items) ∷ []) (marks_onto c (length m.seen.items) rest.trace []) marks
        (rest.marks ∙ ap (λ (list : List (Item ℕ)). next.marks ++ marks_onto c (length list) rest.trace []) same);
    covers = λ low up. (up.0, rest.covers here.number up.1);
  }

  -- the marks of a line that leaves one entry
  one_entry : (item : Item ℕ) (t : Trace) → next.seen.items ≡ m.seen.items ++ item ∷ [] → next.marks ≡ m.marks ++ mark c (Some here.number) (length m.seen.items) ∷ [] →
      to.marks ≡ next.marks ++ marks_onto c (length next.seen.items) t [] → to.marks ≡ m.marks ++ mark c (Some here.number) (length m.seen.items) ∷ marks_onto c (suc (length m.seen.items)) t []
  one_entry item t more marks rest =
      let long : length next.seen.items ≡ suc (length m.seen.items) = ap (λ (list : List (Item ℕ)). length list) more ∙ length-append m.seen.items (item ∷ []) ∙ omega arith in
      after_two m.marks next.marks to.marks (mark c (Some here.number) (length m.seen.items) ∷ []) (marks_onto c (suc (length m.seen.items)) t []) marks
      (rest ∙ ap (λ (k : ℕ). next.marks ++ marks_onto c k t []) long)

  -- a definition
  pub defines : (text : List ℕ) → next.seen.items ≡ m.seen.items ++ Define here.number text ∷ [] → next.marks ≡ m.marks ++ mark c (Some here.number) (length m.seen.items) ∷ [] →
      Leaves c to lines next → Leaves c to (here ∷ lines) m
  defines text more marks rest = record {
    trace = Defines here.number text rest.trace;
    items = after_two m.seen.items next.seen.items to.seen.items (Define here.number text ∷ []) (items_onto rest.trace []) more rest.items;
    marks = one_entry (Define here.number text) rest.trace more marks rest.marks;
    covers = λ low up. (up.0, rest.covers here.number up.1);
  }

  -- an `#undef`
  pub undefines : (name : List ℕ) → next.seen.items ≡ m.seen.items ++ Undef here.number name ∷ [] → next.marks ≡ m.marks ++ mark c (Some here.number) (length m.seen.items) ∷ [] →
      Leaves c to lines next → Leaves c to (here ∷ lines) m
  undefines name more marks rest = record {
    trace = Undefines here.number name rest.trace;
    items = after_two m.seen.items next.seen.items to.seen.items (Undef here.number name ∷ []) (items_onto rest.trace []) more rest.items;
    marks = one_entry (Undef here.number name) rest.trace more marks rest.marks;
    covers = λ low up. (up.0, rest.covers here.number up.1);
  }

  -- an inclusion
  pub includes : (path : ℕ) (inner : Trace) → Rises 0 inner →
      next.seen.items ≡ m.seen.items ++ Start here.number path ∷ items_onto inner (End ∷ []) →
      next.marks ≡ m.marks ++ mark c (Some here.number) (length m.seen.items)
      ∷ marks_onto (c ++ here.number ∷ []) (suc (length m.seen.items)) inner (mark (c ++ here.number ∷ []) None (suc (length m.seen.items) + size inner) ∷ []) →
      Leaves c to lines next → Leaves c to (here ∷ lines) m
  includes path inner rises more marks rest =
      let e = length m.seen.items in
      let inside = c ++ here.number ∷ [] in
      let end = mark inside None (suc e + size inner) in
      let long : length next.seen.items ≡ suc (suc e + size inner) =
      ap (λ (list : List (Item ℕ)). length list) more
      ∙ length-append m.seen.items (Start here.number path ∷ items_onto inner (End ∷ []))
      ∙ ap (λ (k : ℕ). e + suc k) (onto_length inner (End ∷ []))
      ∙ omega arith in
      record {
        trace = Includes here.number path inner rest.trace;
        items =
            after_two m.seen.items next.seen.items to.seen.items (Start here.number path ∷ items_onto inner (End ∷ [])) (items_onto rest.trace []) more rest.items
            ∙ ap (λ (list : List (Item ℕ)). m.seen.items ++ Start here.number path ∷ list) (sym (onto_append inner (End ∷ []) (items_onto rest.trace [])));
        marks =
            after_two m.marks next.marks to.marks (mark c (Some here.number) e ∷ marks_onto inside (suc e) inner (end ∷ [])) (marks_onto c (suc (suc e + size inner)) rest.trace []) marks
            (rest.marks ∙ ap (λ (k : ℕ). next.marks ++ marks_onto c k rest.trace []) long)
            ∙ ap (λ (list : List Mark). m.marks ++ mark c (Some here.number) e ∷ list) (sym (marks_append inner inside (suc e) (end ∷ []) (marks_onto c (suc (suc e + size inner)) rest.trace [])));
        covers = λ low up. (up.0, rises, rest.covers here.number up.1);
      }

-- no lines leave nothing
pub nothing : (c : List ℕ) (m : Marked) → Leaves c m [] m
nothing c m = record { trace = Done; items = sym (append-nil m.seen.items); marks = sym (append-nil m.marks); covers = λ low up. tt }

-- the end of a file
pub ends : (c : List ℕ) (lines : List Line) (m last to : Marked) → Leaves c last lines m → RiseFrom 0 lines →
    to.seen.items ≡ last.seen.items ++ End ∷ [] → to.marks ≡ last.marks ++ mark c None (length last.seen.items) ∷ [] → FileLeaves c m to
ends c lines m last to leaves up items marks =
    let t = leaves.trace in
    let e = length m.seen.items in
    let long : length last.seen.items ≡ e + size t =
    ap (λ (list : List (Item ℕ)). length list) leaves.items ∙ length-append m.seen.items (items_onto t []) ∙ ap (λ (k : ℕ). e + k) (onto_length t []) ∙ omega arith in
    record {
      trace = t;
      items =
          after_two m.seen.items last.seen.items to.seen.items (items_onto t []) (End ∷ []) leaves.items items
          ∙ ap (λ (list : List (Item ℕ)). m.seen.items ++ list) (sym (onto_append t [] (End ∷ [])));
      marks =
          after_two m.marks last.marks to.marks (marks_onto c e t []) (mark c None (e + size t) ∷ []) leaves.marks
          (marks ∙ ap (λ (k : ℕ). last.marks ++ mark c None k ∷ []) long)
          ∙ ap (λ (list : List Mark). m.marks ++ list) (sym (marks_append t c e [] (mark c None (e + size t) ∷ [])));
      rises = leaves.covers 0 up;
    }
