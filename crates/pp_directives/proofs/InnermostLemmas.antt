-- What is pending at the end of lines is the innermost `#if` that is not closed.
use Rattle.std.proofs.Common.{◌≡◌, ℕ, ◌↔◌, false, List, [], ◌∷◌, ◌++◌, reverse, Some, Ok, refl, sym, ap, ◌∙◌, subst, append_assoc}
use Rattle.std.proofs.lemmas.List.{append-nil, reverse-append, reverse-reverse}
use Rattle.mac_base.proofs.Choices.{same_ok, same_some}
use Rattle.pp_directives.specs.declared.fault.StructFault.{StructFault}
use Rattle.pp_directives.specs.declared.conditional.open_section.OpenSection.{OpenSection}
use Rattle.pp_directives.specs.Groups.{IfLine, ElifLine, ElseLine, EndifLine, Spot, CondLine, line, Tail, Elif, Else, Endif, lines_of, tail_lines, IsSection, endifs, added}
use Rattle.pp_directives.specs.Structure.{IsInnermost, IsOpenAtEnd}
use Rattle.pp_directives.specs.Conditions.{is_active, open_line, opened, after_elif, after_else, turned_all}
use Rattle.pp_directives.specs.Laws.{EndsOpen}
use Rattle.pp_directives.proofs.RunLemmas.{run_group, elif_step, else_step}
use Rattle.pp_directives.proofs.StackLemmas.{stacked, innermost}
use Rattle.pp_directives.proofs.StructureLemmas.{run_parts, legal_turns, turns_legal, pending_no_tree}

-- the rest of a section without its `#endif`
abbrev tail_front : Tail Spot → List (CondLine Spot)
tail_front (Elif spot group tail) = line ElifLine spot ∷ lines_of group ++ tail_front tail
tail_front (Else spot group ending) = line ElseLine spot ∷ lines_of group
tail_front (Endif ending) = []

abbrev tail_end : Tail Spot → CondLine Spot
tail_end (Elif spot group tail) = tail_end tail
tail_end (Else spot group ending) = line EndifLine ending
tail_end (Endif ending) = line EndifLine ending

tail_parts : (t : Tail Spot) → tail_lines t ≡ tail_front t ++ tail_end t ∷ []
tail_parts (Elif spot group tail) = ap (λ x. line ElifLine spot ∷ lines_of group ++ x) (tail_parts tail) ∙ ap (λ x. line ElifLine spot ∷ x) (sym (append_assoc (lines_of group) (tail_front tail) (tail_end tail ∷ [])))
tail_parts (Else spot group ending) = refl
tail_parts (Endif ending) = refl

-- lists without their last elements
same_front : (a b : List (CondLine Spot)) (x y : CondLine Spot) → a ++ x ∷ [] ≡ b ++ y ∷ [] → a ≡ b
same_front a b x y is =
    let e : x ∷ reverse a ≡ y ∷ reverse b = sym (reverse-append a (x ∷ [])) ∙ ap reverse is ∙ reverse-append b (y ∷ []) in
    let f : reverse a ≡ reverse b = cc e in
    sym (reverse-reverse a) ∙ ap reverse f ∙ reverse-reverse b

-- where the `#endif` lacks, the section is pending that was so before
record StillPending (o : OpenSection) (s : List OpenSection) (lines : List (CondLine Spot)) : Type 0 where
  now : OpenSection
  turns : turned_all (o ∷ s) lines ≡ Ok (now ∷ s)
  same : now.line ≡ o.line

front_run : (t : Tail Spot) (o : OpenSection) (s : List OpenSection) → o.has_else ≡ false → StillPending o s (tail_front t)
front_run (Elif spot group tail) o s h =
    let more = front_run tail (after_elif spot.answer o) s h in
    record { now = more.now; turns = elif_step o s spot (lines_of group ++ tail_front tail) h ∙ run_group group (after_elif spot.answer o ∷ s) (tail_front tail) ∙ more.turns; same = more.same }
front_run (Else spot group ending) o s h = record {
  now = after_else o;
  turns = else_step o s spot (lines_of group) h ∙ ap (turned_all (after_else o ∷ s)) (sym (append-nil (lines_of group))) ∙ run_group group (after_else o ∷ s) [];
  same = refl;
}
front_run (Endif ending) o s h = record { now = o; turns = refl; same = refl }

-- the lines in a section that only its `#endif` lacks
inside_run : (opening : Spot) (inside : List (CondLine Spot)) → IsSection (line IfLine opening ∷ inside ++ endifs added 1) → (o : OpenSection) (s : List OpenSection) → o.has_else ≡ false → StillPending o s inside
inside_run opening inside (other, group, tail, is) o s h =
    let e : (lines_of group ++ tail_lines tail) ++ [] ≡ inside ++ endifs added 1 = cc is in
    let f : (lines_of group ++ tail_front tail) ++ tail_end tail ∷ [] ≡ inside ++ endifs added 1 =
    append_assoc (lines_of group) (tail_front tail) (tail_end tail ∷ []) ∙ ap (λ x. lines_of group ++ x) (sym (tail_parts tail)) ∙ sym (append-nil (lines_of group ++ tail_lines tail)) ∙ e in
    let front : lines_of group ++ tail_front tail ≡ inside = same_front (lines_of group ++ tail_front tail) inside (tail_end tail) (line EndifLine added) f in
    let p = front_run tail o s h in
    record { now = p.now; turns = ap (turned_all (o ∷ s)) (sym front) ∙ run_group group (o ∷ s) (tail_front tail) ∙ p.turns; same = p.same }

pub ends_open : (lines : List (CondLine Spot)) (number : ℕ) → IsOpenAtEnd lines number → EndsOpen lines number
ends_open lines number at =
    let i = at.innermost in
    let t = legal_turns lines at.legal in
    let p = run_parts i.front (line IfLine i.opening ∷ i.inside) [] t.0 (ap (turned_all []) (sym i.whole) ∙ t.1) in
    let o = opened (is_active p.0) i.opening in
    let q = inside_run i.opening i.inside i.section o p.0 refl in
    let same : q.now ∷ p.0 ≡ t.0 = same_ok {E = StructFault} (q.now ∷ p.0) t.0 (sym q.turns ∙ p.2) in
    record { pending = t.0; turns = t.1; line = ap open_line (sym same) ∙ ap (λ x. Some x) (q.same ∙ sym i.named) }

pub open_at_end : (lines : List (CondLine Spot)) (number : ℕ) (pending : List OpenSection) → turned_all [] lines ≡ Ok pending → open_line pending ≡ Some number → IsOpenAtEnd lines number
open_at_end lines number [] is at = cc
open_at_end lines number (o ∷ s) is at =
    record {
      legal = turns_legal lines (o ∷ s, is);
      unclosed = pending_no_tree lines o s is;
      innermost = subst (λ x. IsInnermost lines x) (same_some o.line number at) (innermost o s lines (stacked lines (o ∷ s) is));
    }

pub opens_law : (lines : List (CondLine Spot)) (number : ℕ) → IsOpenAtEnd lines number ↔ EndsOpen lines number
opens_law lines number = (ends_open lines number, λ e. open_at_end lines number e.pending e.turns e.line)
