-- How the table changes by one event, by a line, and from one mark to the next.
use Rattle.std.proofs.Common.{◌≡◌, ℕ, suc, ◌+◌, ◌-◌, Bool, true, false, cond, List, [], ◌∷◌, ◌++◌, map, length, take, Option, Some, None, Result, Ok, Err, refl, sym, ap, ◌∙◌, subst, append_assoc, length-append, arith}
use Rattle.std.proofs.lemmas.List.{map-append}
use Rattle.std.proofs.lemmas.Bool.{or_parts}
use Rattle.std.proofs.Math.Seq.{take-append_seam}
use Rattle.std.specs.FinMap as finite
use Rattle.std.specs.List.{list_any}
use Rattle.mac_base.proofs.Choices.{same_ok}
use Rattle.mac_base.specs.Items.{Item, Define, Undef, Start, End, is_start}
use Rattle.pp_tokens.specs.declared.line.Line.{Line}
use Rattle.pp_tokens.specs.Kinds.{is_identifier}
use Rattle.macro_table.specs.declared.fault.DefFault.{DefFault}
use Rattle.macro_table.specs.declared.fault.DefFault.TheVariants.{NoName}
use Rattle.macro_table.specs.declared.fault.TextFault.{TextFault}
use Rattle.macro_table.specs.declared.fault.TextFault.TheVariants.{Lex as TextLex, Def as TextDef}
use Rattle.macro_table.specs.declared.fault.TextFault.TheVariants.{NoMemory as TextRanOut}
use Rattle.macro_table.specs.Definitions.{DefValue, def_of}
use Rattle.macro_table.specs.FileTable.{table_of, open_behind}
use Rattle.macro_table.specs.Texts.{text_of, def_of_text}
use Rattle.pp_directives.specs.declared.directive.Directive.{Directive}
use Rattle.pp_directives.specs.declared.directive.Directive.TheVariants.{Text, Null, If, Ifdef, Ifndef, Elif, Else, Endif, Include, LineNumber, Error, Pragma, Unknown}
use Rattle.pp_directives.specs.declared.directive.Directive.TheVariants.{Define as DefineDirective, Undef as UndefDirective}
use Rattle.pp_directives.specs.Directives.{directive_of}
use Rattle.pp_unit.specs.declared.open_file.OpenFile.{OpenFile}
use Rattle.pp_unit.specs.declared.request.Command.{Command}
use Rattle.pp_unit.specs.declared.request.Command.TheVariants.{Define as DefineWord, Undef as UndefWord}
use Rattle.pp_unit.specs.declared.request.UnitSpec.{UnitSpec}
use Rattle.pp_unit.specs.declared.fault.PpFault.{PpFault}
use Rattle.pp_unit.specs.declared.fault.PpKind.{PpKind}
use Rattle.pp_unit.specs.declared.fault.PpKind.TheVariants.{Def}
use Rattle.pp_unit.specs.Kinds.{placed}
use Rattle.pp_unit.specs.Seen.{Seen, Mark, Marked, table, macros, added, started, number_of, place_of, with_path, marked, with_seen}
use Rattle.pp_unit.specs.Definitions.{defined_by, defined_by_text, define_text, undefined, commanded}
use Rattle.pp_unit.specs.LineConditions.{operands, here_of}
use Rattle.pp_unit.specs.Lines.{pragma_seen, undefined_by, Directs}
use Rattle.pp_unit.specs.Files.{Stores, Part, keeping_marks, DoesBy, ended, last_number, Walks}
use Rattle.pp_unit.specs.Walk.{Walk}
use Rattle.pp_unit.specs.TableChanges.{files_open, with_definition, ChangesTable, WordChangesTable, TableFollowsDirectives, events_before, table_seen, IsBetween, NextTable, Unchanged, Sets, Removes, Begins, Ends, OfFirst, AllNext, MarksChangeTables, HasCommandTable, FirstMarkHasCommandTable}
use Rattle.pp_unit.proofs.EventLogLemmas.{table_more}
use Rattle.pp_unit.proofs.Traces.{Trace, Done, Silent, Defines, Undefines, Includes, items_onto, size, mark, marks_onto, onto_append, onto_length}
use Rattle.pp_unit.proofs.LineTraces.{added_one, defined_one, undefined_one, part_ends, line_stays, pragma_stays}
use Rattle.pp_unit.proofs.UnitTraces.{NoStart, UnitLeaves, Bare, Walked, unit_leaves}

-- the table of a state with one event more
by_event : (before after : Seen) (item : Item ℕ) → after.items ≡ before.items ++ item ∷ [] → table after ≡ table_of (before.items ++ item ∷ [])
by_event before after item is = ap table_of is

-- the table of a state with the same events
by_none : (before after : Seen) → after.items ≡ before.items → table after ≡ table before
by_none before after is = ap table_of is

defines : (tokens : Result DefValue DefFault) (seen next : Seen) (n : ℕ) → ◌≡◌ {A = Result Seen PpKind} (Ok next) (defined_by seen n tokens) →
    (def : DefValue) × (tokens ≡ Ok def) × (table next ≡ with_definition (table seen) seen.items n (text_of def))
defines (Ok def) seen next n is = (def, refl, by_event seen next (Define n (text_of def)) (defined_one seen next n def (sym is)) ∙ table_more seen.items (Define n (text_of def)))
defines (Err fault) seen next n is = cc

removes : (seen next : Seen) (n : ℕ) (name : List ℕ) → undefined seen n name ≡ Ok next → table next ≡ finite.remove (table seen) name
removes seen next n name is = by_event seen next (Undef n name) (undefined_one seen next n name is) ∙ table_more seen.items (Undef n name)

undefines : (name : Option (List ℕ)) (seen next : Seen) (n : ℕ) → ◌≡◌ {A = Result Seen PpKind} (Ok next) (undefined_by seen n name) →
    (other : List ℕ) × (name ≡ Some other) × (table next ≡ finite.remove (table seen) other)
undefines None seen next n is = cc
undefines (Some name) seen next n is = (name, refl, removes seen next n name (sym is))

-- a line of a taken group, by its directive
by_directive : (directive : Directive) (open_file : OpenFile) (here : Line) (seen next : Seen) → Directs open_file here directive seen (Ok next) → ChangesTable directive here seen next
by_directive Text open_file here seen next is = by_none seen next (ap (λ (s : Seen). s.items) (same_ok {E = PpKind} next seen is))
by_directive Null open_file here seen next is = by_none seen next (ap (λ (s : Seen). s.items) (same_ok {E = PpKind} next seen is))
by_directive DefineDirective open_file here seen next is = defines (def_of (operands here)) seen next here.number is
by_directive (UndefDirective name) open_file here seen next is = undefines name seen next here.number is
by_directive LineNumber open_file here seen next line = by_none seen next (ap (λ (s : Seen). s.items) (line_stays (macros seen) (here_of open_file here) (operands here) seen (Ok next) line))
by_directive Error open_file here seen next is = cc
by_directive Pragma open_file here seen next is =
    by_none seen next (ap (λ (s : Seen). s.items) (same_ok {E = PpKind} next (pragma_seen open_file (operands here) seen) is) ∙ pragma_stays open_file (operands here) seen)
by_directive Unknown open_file here seen next is = cc
by_directive Include open_file here seen next is = tt
by_directive If open_file here seen next is = by_none seen next (ap (λ (s : Seen). s.items) (same_ok {E = PpKind} next seen is))
by_directive (Ifdef name) open_file here seen next is = by_none seen next (ap (λ (s : Seen). s.items) (same_ok {E = PpKind} next seen is))
by_directive (Ifndef name) open_file here seen next is = by_none seen next (ap (λ (s : Seen). s.items) (same_ok {E = PpKind} next seen is))
by_directive Elif open_file here seen next is = by_none seen next (ap (λ (s : Seen). s.items) (same_ok {E = PpKind} next seen is))
by_directive Else open_file here seen next is = by_none seen next (ap (λ (s : Seen). s.items) (same_ok {E = PpKind} next seen is))
by_directive Endif open_file here seen next is = by_none seen next (ap (λ (s : Seen). s.items) (same_ok {E = PpKind} next seen is))

-- the same with marks
by_part : (directive : Directive) (open_file : OpenFile) (here : Line) (m next : Marked) → Part open_file here.number (Directs open_file here directive m.seen) m (Ok next) → ChangesTable directive here m.seen next.seen
by_part directive open_file here m next part =
    let end = part_ends open_file here.number (Directs open_file here directive m.seen) m next part in
    subst (λ (s : Seen). ChangesTable directive here m.seen s) (sym (ap (λ (x : Marked). x.seen) end.is)) (by_directive directive open_file here m.seen end.seen end.gives)

module _ (stores : Stores) (left : ℕ) (open_file : OpenFile) (here : Line) (m next : Marked) where
  by_line : (directive : Directive) → DoesBy stores left (Walks stores left) open_file here directive m (Ok next) → ChangesTable directive here m.seen next.seen
  by_line Include does = tt
  by_line Text part = by_part Text open_file here m next part
  by_line Null part = by_part Null open_file here m next part
  by_line DefineDirective part = by_part DefineDirective open_file here m next part
  by_line (UndefDirective name) part = by_part (UndefDirective name) open_file here m next part
  by_line LineNumber part = by_part LineNumber open_file here m next part
  by_line Error part = by_part Error open_file here m next part
  by_line Pragma part = by_part Pragma open_file here m next part
  by_line Unknown part = by_part Unknown open_file here m next part
  by_line If part = by_part If open_file here m next part
  by_line (Ifdef name) part = by_part (Ifdef name) open_file here m next part
  by_line (Ifndef name) part = by_part (Ifndef name) open_file here m next part
  by_line Elif part = by_part Elif open_file here m next part
  by_line Else part = by_part Else open_file here m next part
  by_line Endif part = by_part Endif open_file here m next part

starts_same : (line : ℕ) (path : List ℕ) (before after : Seen) → started before line path ≡ Ok after → table after ≡ table before
starts_same line path before after is =
    let named : Seen = record before { files = with_path before.files path (place_of before path) } in
    by_event before after (Start line (number_of before path)) (added_one named after (Start line (number_of before path)) is) ∙ table_more before.items (Start line (number_of before path))

-- the end of a file, by what it comes to
end_by : (open_file : OpenFile) (number : ℕ) (marks m next : Marked) (answer : Result Seen PpKind) → added m.seen End ≡ answer →
    placed open_file number (keeping_marks marks answer) ≡ Ok next → table next.seen ≡ table m.seen
end_by open_file number marks m next (Ok seen) more is =
    let to : with_seen marks seen ≡ next = same_ok {E = PpFault} (with_seen marks seen) next is in
    sym (ap (λ (x : Marked). table x.seen) to) ∙ by_event m.seen seen End (added_one m.seen seen End more) ∙ table_more m.seen.items End
end_by open_file number marks m next (Err kind) more is = cc

ends_same : (open_file : OpenFile) (lines : List Line) (m next : Marked) → ended open_file lines m ≡ Ok next → table next.seen ≡ table m.seen
ends_same open_file lines m next is = end_by open_file (last_number 0 lines) (marked open_file.frames None m) m next (added m.seen End) refl is

by_text : (text : Result DefValue TextFault) (before after : Seen) → defined_by_text before text ≡ Ok after →
    (def : DefValue) × (text ≡ Ok def) × (table after ≡ with_definition (table before) before.items 0 (text_of def))
by_text (Ok def) before after is = (def, refl, by_event before after (Define 0 (text_of def)) (defined_one before after 0 def is) ∙ table_more before.items (Define 0 (text_of def)))
by_text (Err (TextLex fault)) before after is = cc
by_text (Err (TextDef fault)) before after is = cc
by_text (Err TextRanOut) before after is = cc

by_name : (named : Bool) (name : List ℕ) (before after : Seen) → cond named (undefined before 0 name) (Err (Def NoName)) ≡ Ok after → table after ≡ finite.remove (table before) name
by_name true name before after is = removes before after 0 name is
by_name false name before after is = cc

by_word : (command : Command) (before after : Seen) → commanded before command ≡ Ok after → WordChangesTable command before after
by_word (DefineWord word) before after is = by_text (def_of_text (define_text word)) before after is
by_word (UndefWord word) before after is = by_name (is_identifier word) word before after is

pub table_follows_directives : TableFollowsDirectives
table_follows_directives = record {
  lines = λ stores left open_file here m next does. by_line stores left open_file here (marked open_file.frames (Some here.number) m) next (directive_of here.tokens) does;
  passed = λ stores left open_file here m. refl;
  starts = starts_same;
  ends = ends_same;
  words = by_word;
}

-- the files that are open after more events
open_append : (files : List (ℕ × ℕ)) (items more : List (Item ℕ)) → files_open files (items ++ more) ≡ files_open (files_open files items) more
open_append files [] more = refl
open_append files (item ∷ items) more = open_append (open_behind files item) items more

-- a file that begins is open innermost, until it ends
popped : (files : List (ℕ × ℕ)) (file : ℕ × ℕ) → take (length (files ++ file ∷ []) - 1) (files ++ file ∷ []) ≡ files
popped files file =
    let long = length-append files (file ∷ []) in
    let short : length (files ++ file ∷ []) - 1 ≡ length files = omega (arith, long) in
    ap (λ (n : ℕ). take n (files ++ file ∷ [])) short ∙ take-append_seam files (file ∷ [])

-- the lines of a file leave open what was open before them
closes : (t : Trace) (files : List (ℕ × ℕ)) (more : List (Item ℕ)) → files_open files (items_onto t more) ≡ files_open files more
closes Done files more = refl
closes (Silent n t) files more = closes t files more
closes (Defines n text t) files more = closes t files more
closes (Undefines n name t) files more = closes t files more
closes (Includes n path inner t) files more =
    closes inner (files ++ (path, n) ∷ []) (End ∷ items_onto t more)
    ∙ ap (λ (list : List (ℕ × ℕ)). files_open list (items_onto t more)) (popped files (path, n))
    ∙ closes t files more

-- words begin no file
none_open : (items : List (Item ℕ)) → NoStart items → files_open [] items ≡ []
none_open [] none = refl
none_open (Define line text ∷ items) none = none_open items (or_parts false (list_any is_start items) none).1
none_open (Undef line name ∷ items) none = none_open items (or_parts false (list_any is_start items) none).1
none_open (Start line path ∷ items) none = cc
none_open (End ∷ items) none = none_open items (or_parts false (list_any is_start items) none).1

-- the first events
first_events : (items front rest : List (Item ℕ)) (e : ℕ) → items ≡ front ++ rest → length front ≡ e → take e items ≡ front
first_events items front rest e is long = (λ i. take (sym long i) (is i)) ∙ take-append_seam front rest

-- the lines in which the open files are included
abbrev lines_open : List (Item ℕ) → List ℕ
lines_open items = map (λ (file : ℕ × ℕ). file.1) (files_open [] items)

module _ (m : Marked) where
  -- the next mark in a file is of the same file, and after as many events
  own_first : (P : Mark → Type 0) (t : Trace) (c : List ℕ) (e end : ℕ) (last : Option ℕ) (more : List Mark) → end ≡ e + size t → ((line : Option ℕ) → P (mark c line e)) → OfFirst P (marks_onto c e t (mark c last end ∷ more))
  own_first P Done c e end last more is holds =
      let same : e ≡ end = omega arith in
      subst (λ (k : ℕ). P (mark c last k)) same (holds last)
  own_first P (Silent n t) c e end last more is holds = holds (Some n)
  own_first P (Defines n text t) c e end last more is holds = holds (Some n)
  own_first P (Undefines n name t) c e end last more is holds = holds (Some n)
  own_first P (Includes n path inner t) c e end last more is holds = holds (Some n)

  module _ (front rest : List (Item ℕ)) (item : Item ℕ) (e : ℕ) (is : m.seen.items ≡ front ++ item ∷ rest) (long : length front ≡ e) where
    -- one event is between so many events and one more
    between : take (suc e) m.seen.items ≡ take e m.seen.items ++ item ∷ []
    between =
        first_events m.seen.items (front ++ item ∷ []) rest (suc e) (is ∙ sym (append_assoc front (item ∷ []) rest)) (length-append front (item ∷ []) ∙ omega arith)
        ∙ ap (λ (list : List (Item ℕ)). list ++ item ∷ []) (sym (first_events m.seen.items front (item ∷ rest) e is long))

    sets : (c : List ℕ) (n : ℕ) (text : List ℕ) (line : Option ℕ) → item ≡ Define n text → lines_open front ≡ 0 ∷ c → NextTable m (mark c (Some n) e) (mark c line (suc e))
    sets c n text line same chained =
        let one : take (suc e) m.seen.items ≡ take e m.seen.items ++ Define n text ∷ [] = between ∙ ap (λ (x : Item ℕ). take e m.seen.items ++ x ∷ []) same in
        Sets n text refl refl one
        (ap lines_open (first_events m.seen.items front (item ∷ rest) e is long) ∙ chained)
        (ap table_of one ∙ table_more (take e m.seen.items) (Define n text))

    removed : (c : List ℕ) (n : ℕ) (name : List ℕ) (line : Option ℕ) → item ≡ Undef n name → NextTable m (mark c (Some n) e) (mark c line (suc e))
    removed c n name line same =
        let one : take (suc e) m.seen.items ≡ take e m.seen.items ++ Undef n name ∷ [] = between ∙ ap (λ (x : Item ℕ). take e m.seen.items ++ x ∷ []) same in
        Removes n name refl refl one (ap table_of one ∙ table_more (take e m.seen.items) (Undef n name))

    begun : (c : List ℕ) (n path : ℕ) (line : Option ℕ) → item ≡ Start n path → NextTable m (mark c (Some n) e) (mark (c ++ n ∷ []) line (suc e))
    begun c n path line same =
        let one : take (suc e) m.seen.items ≡ take e m.seen.items ++ Start n path ∷ [] = between ∙ ap (λ (x : Item ℕ). take e m.seen.items ++ x ∷ []) same in
        Begins n path refl refl one (ap table_of one ∙ table_more (take e m.seen.items) (Start n path))

    closed : (c : List ℕ) (n : ℕ) (line : Option ℕ) → item ≡ End → NextTable m (mark (c ++ n ∷ []) None e) (mark c line (suc e))
    closed c n line same =
        let one : take (suc e) m.seen.items ≡ take e m.seen.items ++ End ∷ [] = between ∙ ap (λ (x : Item ℕ). take e m.seen.items ++ x ∷ []) same in
        Ends n refl refl one (ap table_of one ∙ table_more (take e m.seen.items) End)

  -- the marks of the lines of a file
  steps : (t : Trace) (front rest : List (Item ℕ)) (c : List ℕ) (e end : ℕ) (last : Option ℕ) (more : List Mark) → m.seen.items ≡ front ++ items_onto t rest → length front ≡ e → end ≡ e + size t →
      lines_open front ≡ 0 ∷ c → AllNext (NextTable m) (mark c last end ∷ more) → AllNext (NextTable m) (marks_onto c e t (mark c last end ∷ more))
  steps Done front rest c e end last more is long sum chained after = after
  steps (Silent n t) front rest c e end last more is long sum chained after =
      (own_first (NextTable m (mark c (Some n) e)) t c e end last more sum (λ line. Unchanged refl refl refl), steps t front rest c e end last more is long sum chained after)
  steps (Defines n text t) front rest c e end last more is long sum chained after =
      let sum_next : end ≡ suc e + size t = sum ∙ omega arith in (
        own_first (NextTable m (mark c (Some n) e)) t c (suc e) end last more sum_next (λ line. sets front (items_onto t rest) (Define n text) e is long c n text line refl chained),
        steps t (front ++ Define n text ∷ []) rest c (suc e) end last more (is ∙ sym (append_assoc front (Define n text ∷ []) (items_onto t rest))) (length-append front (Define n text ∷ []) ∙ omega arith) sum_next
            (ap (map (λ (file : ℕ × ℕ). file.1)) (open_append [] front (Define n text ∷ [])) ∙ chained) after,
      )
  steps (Undefines n name t) front rest c e end last more is long sum chained after =
      let sum_next : end ≡ suc e + size t = sum ∙ omega arith in (
        own_first (NextTable m (mark c (Some n) e)) t c (suc e) end last more sum_next (λ line. removed front (items_onto t rest) (Undef n name) e is long c n name line refl),
        steps t (front ++ Undef n name ∷ []) rest c (suc e) end last more (is ∙ sym (append_assoc front (Undef n name ∷ []) (items_onto t rest))) (length-append front (Undef n name ∷ []) ∙ omega arith) sum_next
            (ap (map (λ (file : ℕ × ℕ). file.1)) (open_append [] front (Undef n name ∷ [])) ∙ chained) after,
      )
  steps (Includes n path inner t) front rest c e end last more is long sum chained after =
      let inside = c ++ n ∷ [] in
      let at_end = suc e + size inner in
      let next = suc at_end in
      let behind = marks_onto c next t (mark c last end ∷ more) in
      let begin : List (Item ℕ) = front ++ Start n path ∷ [] in
      let whole : List (Item ℕ) = begin ++ items_onto inner [] in
      let begin_is : m.seen.items ≡ begin ++ items_onto inner (End ∷ items_onto t rest) = is ∙ sym (append_assoc front (Start n path ∷ []) (items_onto inner (End ∷ items_onto t rest))) in
      let begin_long : length begin ≡ suc e = length-append front (Start n path ∷ []) ∙ omega arith in
      let whole_is : m.seen.items ≡ whole ++ End ∷ items_onto t rest =
      begin_is ∙ ap (λ (list : List (Item ℕ)). begin ++ list) (onto_append inner [] (End ∷ items_onto t rest)) ∙ sym (append_assoc begin (items_onto inner []) (End ∷ items_onto t rest)) in
      let whole_long : length whole ≡ at_end = length-append begin (items_onto inner []) ∙ (λ i. begin_long i + onto_length inner [] i) ∙ omega arith in
      let begin_files : files_open [] begin ≡ files_open [] front ++ (path, n) ∷ [] = open_append [] front (Start n path ∷ []) in
      let whole_files : files_open [] whole ≡ files_open [] front ++ (path, n) ∷ [] = open_append [] begin (items_onto inner []) ∙ closes inner (files_open [] begin) [] ∙ begin_files in
      let ended_files : files_open [] (whole ++ End ∷ []) ≡ files_open [] front =
      open_append [] whole (End ∷ []) ∙ ap (λ (files : List (ℕ × ℕ)). take (length files - 1) files) whole_files ∙ popped (files_open [] front) (path, n) in
      let sum_next : end ≡ next + size t = sum ∙ omega arith in
      let later : AllNext (NextTable m) behind =
      steps t (whole ++ End ∷ []) rest c next end last more (whole_is ∙ sym (append_assoc whole (End ∷ []) (items_onto t rest))) (length-append whole (End ∷ []) ∙ omega arith) sum_next
      (ap (map (λ (file : ℕ × ℕ). file.1)) ended_files ∙ chained) after in
      let ends : OfFirst (NextTable m (mark inside None at_end)) behind =
      own_first (NextTable m (mark inside None at_end)) t c next end last more sum_next (λ line. closed whole (items_onto t rest) End at_end whole_is whole_long c n line refl) in (
        own_first (NextTable m (mark c (Some n) e)) inner inside (suc e) at_end None behind refl (λ line. begun front (items_onto inner (End ∷ items_onto t rest)) (Start n path) e is long c n path line refl),
        steps inner begin (End ∷ items_onto t rest) inside (suc e) at_end None behind begin_is begin_long refl
            (ap (map (λ (file : ℕ × ℕ). file.1)) begin_files ∙ map-append (λ (file : ℕ × ℕ). file.1) (files_open [] front) ((path, n) ∷ []) ∙ ap (λ (list : List ℕ). list ++ n ∷ []) chained)
            (ends, later),
      )

  marks_change : (spec : UnitSpec) → UnitLeaves spec m → AllNext (NextTable m) m.marks
  marks_change spec (Bare plain bare) = subst (AllNext (NextTable m)) (sym bare) tt
  marks_change spec (Walked before path t words none rises items marks) =
      subst (AllNext (NextTable m)) (sym marks)
      (steps t (before.items ++ Start 0 path ∷ []) (End ∷ []) [] (suc (length before.items)) (suc (length before.items) + size t) None []
      (items ∙ sym (append_assoc before.items (Start 0 path ∷ []) (items_onto t (End ∷ []))))
      (length-append before.items (Start 0 path ∷ []) ∙ omega arith) refl
      (ap (map (λ (file : ℕ × ℕ). file.1)) (open_append [] before.items (Start 0 path ∷ []) ∙ ap (λ (files : List (ℕ × ℕ)). files ++ (path, 0) ∷ []) (none_open before.items none)))
      (tt, tt))

  first_has : (spec : UnitSpec) → UnitLeaves spec m → OfFirst (HasCommandTable spec m) m.marks
  first_has spec (Bare plain bare) = subst (OfFirst (HasCommandTable spec m)) (sym bare) tt
  first_has spec (Walked before path t words none rises items marks) =
      let e = suc (length before.items) in
      let first : take e m.seen.items ≡ before.items ++ Start 0 path ∷ [] =
      first_events m.seen.items (before.items ++ Start 0 path ∷ []) (items_onto t (End ∷ [])) e (items ∙ sym (append_assoc before.items (Start 0 path ∷ []) (items_onto t (End ∷ []))))
      (length-append before.items (Start 0 path ∷ []) ∙ omega arith) in
      subst (OfFirst (HasCommandTable spec m)) (sym marks)
      (own_first (HasCommandTable spec m) t [] e (e + size t) None [] refl
      (λ line. record { before = before; words = words; primary = refl; same = ap table_of first ∙ table_more before.items (Start 0 path) }))

pub marks_change_tables : MarksChangeTables
marks_change_tables stores spec m walk = marks_change m spec (unit_leaves stores spec m walk)

pub first_mark : FirstMarkHasCommandTable
first_mark stores spec m walk = first_has m spec (unit_leaves stores spec m walk)
