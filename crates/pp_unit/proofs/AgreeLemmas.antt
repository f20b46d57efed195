-- The entries of a file and its marks give the same table at each line, and in each file that it includes.
use Rattle.std.proofs.Common.{◌≡◌, ◌≤◌, ℕ, suc, ◌+◌, Bool, true, false, cond, ◌&&◌, eqb, leb, List, [], ◌∷◌, ◌++◌, length, take, drop, Option, Some, None, Result, Ok, Err, refl, sym, ap, ◌∙◌, subst, append_assoc, length-append, arith}
use Rattle.std.proofs.lemmas.List.{append-nil}
use Rattle.std.proofs.lemmas.Bool.{eqb-true, eqb-false, leb-true, le-leb, eq-eqb, or_left}
use Rattle.std.proofs.Math.Seq.{drop-append_seam}
use Rattle.std.specs.Prelude.{unwrap_or}
use Rattle.std.specs.Option.{option_map, ok_or}
use Rattle.std.specs.List.{list_any, find}
use Rattle.mac_base.specs.Input.{◌>>=◌}
use Rattle.pp_tokens.specs.Kinds.{same}
use Rattle.mac_base.specs.Items.{Item, Define, Undef, Start, End, starts_at, ends_or_reaches, first_inside}
use Rattle.macro_table.specs.FileTable.{behind, levels, prefix}
use Rattle.pp_unit.specs.Seen.{Mark}
use Rattle.pp_unit.specs.PreTables.{is_of, is_at, files_walked}
use Rattle.pp_unit.proofs.Traces.{Trace, Done, Silent, Defines, Undefines, Includes, items_onto, size, mark, marks_onto, Rises, onto_append, onto_length, shift, no_shift, two_shifts, past, found, past_one, past_file as past_included}
use Rattle.pp_unit.proofs.MarkLemmas.{same_self, below, only, included, other_lines, not_inside, Alike, ◌⨾◌, past_mark, past_file, past_lines, deeper, by_marks, gives_alike}

-- where a line or the end comes first, among the entries after so many, and among the marks
record AtLine (c : List ℕ) (l e : ℕ) (items : List (Item ℕ)) (marks : List Mark) : Type 0 where
  count : ℕ
  line : Option ℕ
  inside : first_inside (ends_or_reaches l) items 0 ≡ Some count
  marked : find (is_at c l) marks ≡ Some (mark c line (e + count))

-- after a line that is reached the first entry is, or the end
reached_first : (t : Trace) (low l : ℕ) (items : List (Item ℕ)) → Rises low t → l ≤ low → first_inside (ends_or_reaches l) (items_onto t (End ∷ items)) 0 ≡ Some 0
reached_first Done low l items rises near = refl
reached_first (Silent n t) low l items rises near = reached_first t n l items rises.1 (let up = rises.0 in omega arith)
reached_first (Defines n text t) low l items rises near = found (ends_or_reaches l) (Define n text) (items_onto t (End ∷ items)) (le-leb l n (let up = rises.0 in omega arith))
reached_first (Undefines n name t) low l items rises near = found (ends_or_reaches l) (Undef n name) (items_onto t (End ∷ items)) (le-leb l n (let up = rises.0 in omega arith))
reached_first (Includes n path inner t) low l items rises near =
    found (ends_or_reaches l) (Start n path) (items_onto inner (End ∷ items_onto t (End ∷ items))) (le-leb l n (let up = rises.0 in omega arith))

-- a line, with what it leaves
at_step : (reaches : Bool) (c : List ℕ) (l n m e next : ℕ) (items more : List (Item ℕ)) (marks others : List Mark) → leb l n ≡ reaches → next ≡ e + m →
    (leb l n ≡ true → first_inside (ends_or_reaches l) items 0 ≡ Some 0) →
    (leb l n ≡ false → first_inside (ends_or_reaches l) items 0 ≡ shift m (first_inside (ends_or_reaches l) more 0)) →
    find (is_at c l) marks ≡ find (is_at c l) others →
    AtLine c l next more others → AtLine c l e items (mark c (Some n) e ∷ marks)
at_step true c l n m e next items more marks others is count here past alike rest = record {
  count = 0;
  line = Some n;
  inside = here is;
  marked = (λ i. cond (same_self c i && is i) (Some (mark c (Some n) e)) (find (is_at c l) marks)) ∙ ap (λ (k : ℕ). Some (mark c (Some n) k)) (omega arith);
}
at_step false c l n m e next items more marks others is count here past alike rest = record {
  count = m + rest.count;
  line = rest.line;
  inside = past is ∙ ap (shift m) rest.inside;
  marked =
      (λ i. cond (same_self c i && is i) (Some (mark c (Some n) e)) (find (is_at c l) marks))
      ∙ alike ∙ rest.marked
      ∙ ap (λ (k : ℕ). Some (mark c rest.line k)) (let k = rest.count in omega arith);
}

at_line : (t : Trace) (c : List ℕ) (low l e end : ℕ) (items : List (Item ℕ)) (marks : List Mark) → Rises low t → end ≡ e + size t →
    AtLine c l e (items_onto t (End ∷ items)) (marks_onto c e t (mark c None end ∷ marks))
at_line Done c low l e end items marks rises is = record {
  count = 0;
  line = None;
  inside = refl;
  marked = (λ i. cond (same_self c i && true) (Some (mark c None end)) (find (is_at c l) marks)) ∙ ap (λ (k : ℕ). Some (mark c None k)) is;
}
at_line (Silent n t) c low l e end items marks rises is =
    at_step (leb l n) c l n 0 e e _ _ _ _ refl (omega arith)
    (λ near. reached_first t n l items rises.1 (leb-true l n near))
    (λ far. no_shift _) refl
    (at_line t c n l e end items marks rises.1 is)
at_line (Defines n text t) c low l e end items marks rises is =
    at_step (leb l n) c l n 1 e (suc e) _ (items_onto t (End ∷ items)) _ _ refl (omega arith)
    (found (ends_or_reaches l) (Define n text) (items_onto t (End ∷ items)))
    (past_one (ends_or_reaches l) (Define n text) (items_onto t (End ∷ items)) refl) refl
    (at_line t c n l (suc e) end items marks rises.1 (is ∙ omega arith))
at_line (Undefines n name t) c low l e end items marks rises is =
    at_step (leb l n) c l n 1 e (suc e) _ (items_onto t (End ∷ items)) _ _ refl (omega arith)
    (found (ends_or_reaches l) (Undef n name) (items_onto t (End ∷ items)))
    (past_one (ends_or_reaches l) (Undef n name) (items_onto t (End ∷ items)) refl) refl
    (at_line t c n l (suc e) end items marks rises.1 (is ∙ omega arith))
at_line (Includes n path inner t) c low l e end items marks rises is =
    let rest = suc (suc e + size inner) in
    at_step (leb l n) c l n (suc (suc (size inner))) e rest _ (items_onto t (End ∷ items)) _ (marks_onto c rest t (mark c None end ∷ marks)) refl (omega arith)
    (found (ends_or_reaches l) (Start n path) (items_onto inner (End ∷ items_onto t (End ∷ items))))
    (past_included (ends_or_reaches l) n path inner (items_onto t (End ∷ items)))
    ((past_file (only c) inner (c ++ n ∷ []) (suc e) (suc e + size inner) (marks_onto c rest t (mark c None end ∷ marks)) (included c n)).first [] l)
    (at_line t c n l rest end items marks rises.2 (is ∙ omega arith))

-- a file has marks of its own
has_marks : (t : Trace) (c : List ℕ) (e end : ℕ) (marks : List Mark) → list_any (is_of c) (marks_onto c e t (mark c None end ∷ marks)) ≡ true
has_marks Done c e end marks = or_left (same c c) (list_any (is_of c) marks) (same_self c)
has_marks (Silent n t) c e end marks = or_left (same c c) (list_any (is_of c) (marks_onto c e t (mark c None end ∷ marks))) (same_self c)
has_marks (Defines n text t) c e end marks = or_left (same c c) (list_any (is_of c) (marks_onto c (suc e) t (mark c None end ∷ marks))) (same_self c)
has_marks (Undefines n name t) c e end marks = or_left (same c c) (list_any (is_of c) (marks_onto c (suc e) t (mark c None end ∷ marks))) (same_self c)
has_marks (Includes n path inner t) c e end marks =
    or_left (same c c)
    (list_any (is_of c) (marks_onto (c ++ n ∷ []) (suc e) inner (mark (c ++ n ∷ []) None (suc e + size inner) ∷ marks_onto c (suc (suc e + size inner)) t (mark c None end ∷ marks))))
    (same_self c)

-- what comes after the entry that begins a file
after_is : (items front more : List (Item ℕ)) (s : ℕ) → items ≡ front ++ more → length front ≡ suc s → behind items s ≡ more
after_is items front more s is long =
    ap (λ (list : List (Item ℕ)). drop (s + 1) list) is
    ∙ ap (λ (k : ℕ). drop k (front ++ more)) (omega (arith, long))
    ∙ drop-append_seam front more

plus_one : (s : ℕ) (o : Option ℕ) → option_map (λ n. s + 1 + n) o ≡ shift (suc s) o
plus_one s None = refl
plus_one s (Some k) = ap (λ (n : ℕ). Some n) (omega arith)

pub no_level : (items : List (Item ℕ)) (lines : List ℕ) (depth : ℕ) → levels items lines depth None ≡ Err depth
no_level items [] depth = refl
no_level items (line ∷ lines) depth = refl

pub none_walked : (front lines : List ℕ) → files_walked [] front lines ≡ 0
none_walked front [] = refl
none_walked front (line ∷ lines) = refl

module _ {X : Type 0} (table : List (Item ℕ) → X) where
  -- what the entries give at a line, from a file on that begins at an entry or is missing
  abbrev pub by_items : List (Item ℕ) → List ℕ → ℕ → Option ℕ → ℕ → Result X ℕ
  by_items items lines depth start l = levels items lines depth start >>= λ s. Ok (table (prefix items s l))

  -- a table by the number of entries
  abbrev pub first : List (Item ℕ) → ℕ → X
  first items n = table (take n items)

  -- in all files below the one that begins at an entry
  abbrev pub Whole : Trace → Type 0
  Whole t =
      (items front more : List (Item ℕ)) (c lines : List ℕ) (l s end depth : ℕ) (marks : List Mark) →
      items ≡ front ++ items_onto t (End ∷ more) → length front ≡ suc s → end ≡ suc s + size t → Rises 0 t → Alike (below c) marks [] →
      by_items items lines depth (Some s) l ≡ by_marks (first items) (marks_onto c (suc s) t (mark c None end ∷ marks)) depth c lines l

  -- in all files below the one that this line of a file includes, of which the lines before were passed
  abbrev pub After : Trace → Type 0
  After t =
      (items front more : List (Item ℕ)) (c : List ℕ) (n : ℕ) (lines : List ℕ) (l low e end depth : ℕ) (marks : List Mark) →
      items ≡ front ++ items_onto t (End ∷ more) → length front ≡ e → end ≡ e + size t → Rises low t → Alike (below (c ++ n ∷ [])) marks [] →
      by_items items lines depth (shift e (first_inside (starts_at n) (items_onto t (End ∷ more)) 0)) l
      ≡ by_marks (first items) (marks_onto c e t (mark c None end ∷ marks)) depth (c ++ n ∷ []) lines l

  -- the file itself
  here_agrees : (items front more : List (Item ℕ)) (c : List ℕ) (l s depth : ℕ) (marks : List Mark) →
      items ≡ front ++ more → length front ≡ suc s → AtLine c l (suc s) more marks →
      by_items items [] depth (Some s) l ≡ by_marks (first items) marks depth c [] l
  here_agrees items front more c l s depth marks is long at =
      let inside : first_inside (ends_or_reaches l) (behind items s) 0 ≡ Some at.count =
      ap (λ (list : List (Item ℕ)). first_inside (ends_or_reaches l) list 0) (after_is items front more s is long) ∙ at.inside in
      let found : find (is_at (c ++ []) l) marks ≡ Some (mark c at.line (suc s + at.count)) = ap (λ (chain : List ℕ). find (is_at chain l) marks) (append-nil c) ∙ at.marked in
      ap (λ (o : Option ℕ). Ok (table (take (s + 1 + unwrap_or o (length items)) items))) inside
      ∙ ap (λ (n : ℕ). Ok (table (take n items))) (let k = at.count in omega arith)
      ∙ sym (ap (λ (o : Option Mark). ok_or (option_map (λ (found : Mark). first items found.events) o) (depth + files_walked marks c [])) found)

  -- a file, where those that its lines include agree
  pub whole : (t : Trace) → After t → Whole t
  whole t agrees items front more c [] l s end depth marks is long last rises alike =
      here_agrees items front (items_onto t (End ∷ more)) c l s depth (marks_onto c (suc s) t (mark c None end ∷ marks)) is long (at_line t c 0 l (suc s) end more marks rises last)
  whole t agrees items front more c (n ∷ lines) l s end depth marks is long last rises alike =
      let all = marks_onto c (suc s) t (mark c None end ∷ marks) in
      let level : option_map (λ k. s + 1 + k) (first_inside (starts_at n) (behind items s) 0) ≡ shift (suc s) (first_inside (starts_at n) (items_onto t (End ∷ more)) 0) =
      plus_one s (first_inside (starts_at n) (behind items s) 0)
      ∙ ap (λ (list : List (Item ℕ)). shift (suc s) (first_inside (starts_at n) list 0)) (after_is items front (items_onto t (End ∷ more)) s is long) in
      ap (λ (start : Option ℕ). by_items items lines (depth + 1) start l) level
      ∙ agrees items front more c n lines l 0 (suc s) end (depth + 1) marks is long last rises (deeper c n marks [] alike)
      ∙ one_deeper all c n lines l depth (has_marks t c (suc s) end marks)
    where
      one_deeper : (all : List Mark) (c : List ℕ) (n : ℕ) (lines : List ℕ) (l depth : ℕ) → list_any (is_of c) all ≡ true →
          by_marks (first items) all (depth + 1) (c ++ n ∷ []) lines l ≡ by_marks (first items) all depth c (n ∷ lines) l
      one_deeper all c n lines l depth has =
          let walked : depth + 1 + files_walked all (c ++ n ∷ []) lines ≡ depth + files_walked all c (n ∷ lines) =
          omega arith ∙ ap (λ (k : ℕ). depth + k) (sym (λ i. cond (has i) (1 + files_walked all (c ++ n ∷ []) lines) 0)) in
          λ i. ok_or (option_map (λ (found : Mark). first items found.events) (find (is_at (append_assoc c (n ∷ []) lines i) l) all)) (walked i)

  -- one entry more at the front
  one_on : (items front : List (Item ℕ)) (item : Item ℕ) (more : List (Item ℕ)) → items ≡ front ++ item ∷ more → items ≡ (front ++ item ∷ []) ++ more
  one_on items front item more is = is ∙ sym (append_assoc front (item ∷ []) more)

  one_longer : (front : List (Item ℕ)) (item : Item ℕ) (e : ℕ) → length front ≡ e → length (front ++ item ∷ []) ≡ suc e
  one_longer front item e long = length-append front (item ∷ []) ∙ ap (λ (k : ℕ). k + 1) long ∙ omega arith

  -- a line that leaves an entry, or the whole of a file, and includes none that counts
  passes : (items : List (Item ℕ)) (c : List ℕ) (n : ℕ) (lines : List ℕ) (l m e next depth : ℕ) (entries more : List (Item ℕ)) (marks others : List Mark) →
      next ≡ e + m →
      first_inside (starts_at n) entries 0 ≡ shift m (first_inside (starts_at n) more 0) →
      Alike (below (c ++ n ∷ [])) marks others →
      by_items items lines depth (shift next (first_inside (starts_at n) more 0)) l ≡ by_marks (first items) others depth (c ++ n ∷ []) lines l →
      by_items items lines depth (shift e (first_inside (starts_at n) entries 0)) l ≡ by_marks (first items) marks depth (c ++ n ∷ []) lines l
  passes items c n lines l m e next depth entries more marks others count past alike rest =
      ap (λ (start : Option ℕ). by_items items lines depth start l) (ap (shift e) past ∙ two_shifts e m (first_inside (starts_at n) more 0) ∙ ap (λ (k : ℕ). shift k (first_inside (starts_at n) more 0)) (sym count))
      ∙ rest
      ∙ sym (gives_alike (first items) marks others depth (c ++ n ∷ []) lines l alike)

  -- the line of the inclusion
  enters : (inner t : Trace) (path : ℕ) (items front more : List (Item ℕ)) (c : List ℕ) (n : ℕ) (lines : List ℕ) (l e end depth : ℕ) (marks : List Mark) →
      items ≡ front ++ Start n path ∷ items_onto inner (End ∷ more) → length front ≡ e → Rises 0 inner → Alike (below (c ++ n ∷ [])) marks [] → Whole inner →
      by_items items lines depth (shift e (first_inside (starts_at n) (Start n path ∷ items_onto inner (End ∷ more)) 0)) l
      ≡ by_marks (first items) (mark c (Some n) e ∷ marks_onto (c ++ n ∷ []) (suc e) inner (mark (c ++ n ∷ []) None (suc e + size inner) ∷ marks)) depth (c ++ n ∷ []) lines l
  enters inner t path items front more c n lines l e end depth marks is long rises alike agrees =
      let inside = marks_onto (c ++ n ∷ []) (suc e) inner (mark (c ++ n ∷ []) None (suc e + size inner) ∷ marks) in
      let starts : shift e (first_inside (starts_at n) (Start n path ∷ items_onto inner (End ∷ more)) 0) ≡ Some e =
      ap (shift e) (found (starts_at n) (Start n path) (items_onto inner (End ∷ more)) (eq-eqb n n refl)) ∙ ap (λ (k : ℕ). Some k) (omega arith) in
      ap (λ (start : Option ℕ). by_items items lines depth start l) starts
      ∙ agrees items (front ++ Start n path ∷ []) more (c ++ n ∷ []) lines l e (suc e + size inner) depth marks
      (one_on items front (Start n path) (items_onto inner (End ∷ more)) is) (one_longer front (Start n path) e long) refl rises alike
      ∙ sym (gives_alike (first items) (mark c (Some n) e ∷ inside) inside depth (c ++ n ∷ []) lines l (past_mark (below (c ++ n ∷ [])) (mark c (Some n) e) inside (not_inside c n)))

  -- an inclusion in this line or in another
  by_line : (here : Bool) (inner t : Trace) (m path : ℕ) (items front more : List (Item ℕ)) (c : List ℕ) (n : ℕ) (lines : List ℕ) (l e end depth : ℕ) (marks : List Mark) →
      eqb m n ≡ here → items ≡ front ++ items_onto (Includes m path inner t) (End ∷ more) → length front ≡ e → end ≡ e + size (Includes m path inner t) → Rises 0 inner → Rises m t →
      Alike (below (c ++ n ∷ [])) marks [] → Whole inner → After t →
      by_items items lines depth (shift e (first_inside (starts_at n) (items_onto (Includes m path inner t) (End ∷ more)) 0)) l
      ≡ by_marks (first items) (marks_onto c e (Includes m path inner t) (mark c None end ∷ marks)) depth (c ++ n ∷ []) lines l
  by_line true inner t m path items front more c n lines l e end depth marks same is long last inner_rises rises alike agrees more_agree =
      let e_is : m ≡ n = eqb-true m n same in
      subst (λ (k : ℕ).
      by_items items lines depth (shift e (first_inside (starts_at k) (items_onto (Includes m path inner t) (End ∷ more)) 0)) l
      ≡ by_marks (first items) (marks_onto c e (Includes m path inner t) (mark c None end ∷ marks)) depth (c ++ k ∷ []) lines l)
      e_is
      (enters inner t path items front (items_onto t (End ∷ more)) c m lines l e end depth (marks_onto c (suc (suc e + size inner)) t (mark c None end ∷ marks)) is long inner_rises
      (past_lines t c m m (suc (suc e + size inner)) (mark c None end ∷ marks) (omega arith) rises
      ⨾ past_mark (below (c ++ m ∷ [])) (mark c None end) marks (not_inside c m)
      ⨾ subst (λ (k : ℕ). Alike (below (c ++ k ∷ [])) marks []) (sym e_is) alike)
      agrees)
  by_line false inner t m path items front more c n lines l e end depth marks other is long last inner_rises rises alike agrees more_agree =
      let next = suc (suc e + size inner) in
      let after_marks = marks_onto c next t (mark c None end ∷ marks) in
      let inside = c ++ m ∷ [] in
      let file : List (Item ℕ) = Start m path ∷ items_onto inner (End ∷ []) in
      passes items c n lines l (suc (suc (size inner))) e next depth (items_onto (Includes m path inner t) (End ∷ more)) (items_onto t (End ∷ more))
      (marks_onto c e (Includes m path inner t) (mark c None end ∷ marks)) after_marks (omega arith)
      (past_included (starts_at n) m path inner (items_onto t (End ∷ more)) other)
      (past_mark (below (c ++ n ∷ [])) (mark c (Some m) e) (marks_onto inside (suc e) inner (mark inside None (suc e + size inner) ∷ after_marks)) (not_inside c n)
      ⨾ past_file (below (c ++ n ∷ [])) inner inside (suc e) (suc e + size inner) after_marks (other_lines c m n (eqb-false m n other)))
      (more_agree items (front ++ file) more c n lines l m next end depth marks
      (is ∙ ap (λ (list : List (Item ℕ)). front ++ Start m path ∷ list) (onto_append inner (End ∷ []) (items_onto t (End ∷ more))) ∙ sym (append_assoc front file (items_onto t (End ∷ more))))
      (length-append front file ∙ (λ i. long i + suc (onto_length inner (End ∷ []) i)) ∙ omega arith)
      (last ∙ omega arith) rises alike)

  mutual
    pub after_all : (t : Trace) → After t
    after_all Done items front more c n lines l low e end depth marks is long last rises alike =
        ap (λ (r : Result ℕ ℕ). r >>= λ s. Ok (table (prefix items s l))) (no_level items lines depth)
        ∙ ap (λ (k : ℕ). Err k) (omega arith ∙ ap (λ (k : ℕ). depth + k) (sym (none_walked (c ++ n ∷ []) lines)))
        ∙ sym (gives_alike (first items) (mark c None end ∷ marks) [] depth (c ++ n ∷ []) lines l (past_mark (below (c ++ n ∷ [])) (mark c None end) marks (not_inside c n) ⨾ alike))
    after_all (Silent m t) items front more c n lines l low e end depth marks is long last rises alike =
        after_all t items front more c n lines l m e end depth marks is long last rises.1 alike
        ∙ sym (gives_alike (first items) (mark c (Some m) e ∷ marks_onto c e t (mark c None end ∷ marks)) (marks_onto c e t (mark c None end ∷ marks)) depth (c ++ n ∷ []) lines l
        (past_mark (below (c ++ n ∷ [])) (mark c (Some m) e) (marks_onto c e t (mark c None end ∷ marks)) (not_inside c n)))
    after_all (Defines m text t) items front more c n lines l low e end depth marks is long last rises alike =
        let after_marks = marks_onto c (suc e) t (mark c None end ∷ marks) in
        passes items c n lines l 1 e (suc e) depth (items_onto (Defines m text t) (End ∷ more)) (items_onto t (End ∷ more)) (mark c (Some m) e ∷ after_marks) after_marks (omega arith)
        (past_one (starts_at n) (Define m text) (items_onto t (End ∷ more)) refl refl)
        (past_mark (below (c ++ n ∷ [])) (mark c (Some m) e) after_marks (not_inside c n))
        (after_all t items (front ++ Define m text ∷ []) more c n lines l m (suc e) end depth marks
        (one_on items front (Define m text) (items_onto t (End ∷ more)) is) (one_longer front (Define m text) e long) (last ∙ omega arith) rises.1 alike)
    after_all (Undefines m name t) items front more c n lines l low e end depth marks is long last rises alike =
        let after_marks = marks_onto c (suc e) t (mark c None end ∷ marks) in
        passes items c n lines l 1 e (suc e) depth (items_onto (Undefines m name t) (End ∷ more)) (items_onto t (End ∷ more)) (mark c (Some m) e ∷ after_marks) after_marks (omega arith)
        (past_one (starts_at n) (Undef m name) (items_onto t (End ∷ more)) refl refl)
        (past_mark (below (c ++ n ∷ [])) (mark c (Some m) e) after_marks (not_inside c n))
        (after_all t items (front ++ Undef m name ∷ []) more c n lines l m (suc e) end depth marks
        (one_on items front (Undef m name) (items_onto t (End ∷ more)) is) (one_longer front (Undef m name) e long) (last ∙ omega arith) rises.1 alike)
    after_all (Includes m path inner t) items front more c n lines l low e end depth marks is long last rises alike =
        by_line (eqb m n) inner t m path items front more c n lines l e end depth marks refl is long last rises.1 rises.2 alike (whole inner (after_all inner)) (after_all t)
