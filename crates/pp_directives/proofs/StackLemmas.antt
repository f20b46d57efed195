-- Lines that were turned, as the parts of a tree that is not closed yet: for each pending section what comes before it, its `#if`, and what is in it.
use Rattle.std.proofs.Common.{◌≡◌, Bool, true, false, List, [], ◌∷◌, ◌++◌, length, Ok, refl, sym, ap, ◌∙◌, subst, append_assoc}
use Rattle.std.proofs.lemmas.List.{append-nil}
use Rattle.mac_base.proofs.Choices.{same_ok, guarded_not, bind_ok}
use Rattle.pp_directives.specs.declared.fault.StructFault.{StructFault}
use Rattle.pp_directives.specs.declared.fault.StructFault.TheVariants.{ElseAfterElse, ElifAfterElse}
use Rattle.pp_directives.specs.declared.conditional.open_section.OpenSection.{OpenSection}
use Rattle.pp_directives.specs.Groups.{LineRole, OtherLine, IfLine, ElifLine, ElseLine, EndifLine, Spot, CondLine, line, Group, Empty, Other, Section, Tail, Elif, Else, Endif, lines_of, tail_lines, HasTree, endifs, added}
use Rattle.pp_directives.specs.Structure.{IsInnermost}
use Rattle.pp_directives.specs.Conditions.{is_active, opened, after_elif, after_else, turned_by, turned, turned_all}

-- the rest of a section may follow, of which an `#else` was or not
abbrev pub Fits : Tail Spot → Bool → Type 0
Fits (Elif spot group tail) has_else = has_else ≡ false
Fits (Else spot group ending) has_else = has_else ≡ false
Fits (Endif ending) has_else = Unit {0}

-- the lines of a group and of the rest of its section
pub record Rest (lines : List (CondLine Spot)) : Type 0 where
  pub group : Group Spot
  pub tail : Tail Spot
  pub same : lines_of group ++ tail_lines tail ≡ lines

-- whatever may follow in this section, with these lines before it, is a group and a rest
abbrev pub Content : OpenSection → List (CondLine Spot) → Type 0
Content o inside = (group : Group Spot) (tail : Tail Spot) → Fits tail o.has_else → Rest (inside ++ (lines_of group ++ tail_lines tail))

-- the lines may come before any group
pub record Longer (lines : List (CondLine Spot)) (group : Group Spot) : Type 0 where
  pub whole : Group Spot
  pub same : lines_of whole ≡ lines ++ lines_of group

abbrev pub Grows : List (CondLine Spot) → Type 0
Grows lines = (group : Group Spot) → Longer lines group

-- the lines that led to these sections
abbrev pub Stacked : List OpenSection → List (CondLine Spot) → Type 0
Stacked [] lines = Grows lines
Stacked (o ∷ s) lines = (front : List (CondLine Spot)) × (opening : Spot) × (inside : List (CondLine Spot)) × Stacked s front × (o.line ≡ opening.number) × Content o inside × (lines ≡ front ++ line IfLine opening ∷ inside)

pub nothing_stacked : Stacked [] []
nothing_stacked group = record { whole = group; same = refl }

-- whole parts of a group may follow
put_parts : (s : List OpenSection) (lines more : List (CondLine Spot)) → Grows more → Stacked s lines → Stacked s (lines ++ more)
put_parts [] lines more grows st = λ group.
    let one = grows group in
    let all = st one.whole in
    record { whole = all.whole; same = all.same ∙ ap (λ x. lines ++ x) one.same ∙ sym (append_assoc lines more (lines_of group)) }
put_parts (o ∷ s) lines more grows (front, opening, inside, below, named, content, is) = (
  front,
  opening,
  inside ++ more,
  below,
  named,
  (λ group tail fits.
      let one = grows group in
      let all = content one.whole tail fits in
      record {
        group = all.group;
        tail = all.tail;
        same =
            all.same ∙ ap (λ x. inside ++ (x ++ tail_lines tail)) one.same ∙ ap (λ x. inside ++ x) (append_assoc more (lines_of group) (tail_lines tail))
            ∙ sym (append_assoc inside more (lines_of group ++ tail_lines tail));
      }),
  ap (λ x. x ++ more) is ∙ append_assoc front (line IfLine opening ∷ inside) more,
)

other_grows : (spot : Spot) → Grows (line OtherLine spot ∷ [])
other_grows spot group = record { whole = Other spot group; same = refl }

-- a whole section
section_grows : (opening : Spot) (inside : List (CondLine Spot)) (rest : Rest inside) → Grows (line IfLine opening ∷ inside)
section_grows opening inside rest group = record { whole = Section opening rest.group rest.tail group; same = ap (λ x. line IfLine opening ∷ x ++ lines_of group) rest.same }

-- a line more in a section
longer_content : (o p : OpenSection) (inside : List (CondLine Spot)) (here : CondLine Spot) → Content o inside →
    ((group : Group Spot) (tail : Tail Spot) → Fits tail p.has_else → (next : Tail Spot) × Fits next o.has_else × (tail_lines next ≡ here ∷ (lines_of group ++ tail_lines tail))) →
    Content p (inside ++ here ∷ [])
longer_content o p inside here content next group tail fits =
    let n = next group tail fits in
    let all = content Empty n.0 n.1 in
    record { group = all.group; tail = all.tail; same = all.same ∙ ap (λ x. inside ++ x) n.2 ∙ sym (append_assoc inside (here ∷ []) (lines_of group ++ tail_lines tail)) }

-- the innermost section changes with a line in it
stack_line : (o p : OpenSection) (s : List OpenSection) (lines : List (CondLine Spot)) (here : CondLine Spot) → p.line ≡ o.line → Stacked (o ∷ s) lines →
    ((group : Group Spot) (tail : Tail Spot) → Fits tail p.has_else → (next : Tail Spot) × Fits next o.has_else × (tail_lines next ≡ here ∷ (lines_of group ++ tail_lines tail))) →
    Stacked (p ∷ s) (lines ++ here ∷ [])
stack_line o p s lines here same (front, opening, inside, below, named, content, is) next = (
  front,
  opening,
  inside ++ here ∷ [],
  below,
  same ∙ named,
  longer_content o p inside here content next,
  ap (λ x. x ++ here ∷ []) is ∙ append_assoc front (line IfLine opening ∷ inside) (here ∷ []),
)

-- what may follow an `#else` is `#endif`
after_an_else : (spot : Spot) (b : Bool) → b ≡ false → (group : Group Spot) (tail : Tail Spot) → Fits tail true →
    (next : Tail Spot) × Fits next b × (tail_lines next ≡ line ElseLine spot ∷ (lines_of group ++ tail_lines tail))
after_an_else spot b h group (Elif other inner tail) fits = cc
after_an_else spot b h group (Else other inner ending) fits = cc
after_an_else spot b h group (Endif ending) fits = (Else spot group ending, h, refl)

-- the rest of the innermost section, if it is closed here
pub closes : (o : OpenSection) (inside : List (CondLine Spot)) (ending : Spot) → Content o inside → Rest (inside ++ line EndifLine ending ∷ [])
closes o inside ending content = content Empty (Endif ending) tt

stack_endif : (o : OpenSection) (s : List OpenSection) (lines : List (CondLine Spot)) (spot : Spot) → Stacked (o ∷ s) lines → Stacked s (lines ++ line EndifLine spot ∷ [])
stack_endif o s lines spot (front, opening, inside, below, named, content, is) =
    let more = line IfLine opening ∷ inside ++ line EndifLine spot ∷ [] in
    let grows : Grows more = section_grows opening (inside ++ line EndifLine spot ∷ []) (closes o inside spot content) in
    subst (λ x. Stacked s x) (sym (ap (λ x. x ++ line EndifLine spot ∷ []) is ∙ append_assoc front (line IfLine opening ∷ inside) (line EndifLine spot ∷ [])))
    (put_parts s front more grows below)

-- one line more
stack_by : (role : LineRole) (spot : Spot) (s after : List OpenSection) (lines : List (CondLine Spot)) → Stacked s lines → turned_by role spot s ≡ Ok after → Stacked after (lines ++ line role spot ∷ [])
stack_by OtherLine spot s after lines st is = subst (λ x. Stacked x (lines ++ line OtherLine spot ∷ [])) (same_ok {E = StructFault} s after is) (put_parts s lines (line OtherLine spot ∷ []) (other_grows spot) st)
stack_by IfLine spot s after lines st is =
    subst (λ x. Stacked x (lines ++ line IfLine spot ∷ [])) (same_ok {E = StructFault} (opened (is_active s) spot ∷ s) after is)
    (lines, spot, [], st, refl, (λ group tail fits. record { group = group; tail = tail; same = refl }), refl)
stack_by ElifLine spot [] after lines st is = cc
stack_by ElifLine spot (o ∷ s) after lines st is =
    let g = guarded_not o.has_else (Ok (after_elif spot.answer o ∷ s)) after ElifAfterElse is in
    subst (λ x. Stacked x (lines ++ line ElifLine spot ∷ [])) (same_ok {E = StructFault} (after_elif spot.answer o ∷ s) after g.1)
    (stack_line o (after_elif spot.answer o) s lines (line ElifLine spot) refl st (λ group tail fits. (Elif spot group tail, g.0, refl)))
stack_by ElseLine spot [] after lines st is = cc
stack_by ElseLine spot (o ∷ s) after lines st is =
    let g = guarded_not o.has_else (Ok (after_else o ∷ s)) after ElseAfterElse is in
    subst (λ x. Stacked x (lines ++ line ElseLine spot ∷ [])) (same_ok {E = StructFault} (after_else o ∷ s) after g.1)
    (stack_line o (after_else o) s lines (line ElseLine spot) refl st (after_an_else spot o.has_else g.0))
stack_by EndifLine spot [] after lines st is = cc
stack_by EndifLine spot (o ∷ s) after lines st is =
    subst (λ x. Stacked x (lines ++ line EndifLine spot ∷ [])) (same_ok {E = StructFault} s after is) (stack_endif o s lines spot st)

-- any number of lines more
stack_all : (more : List (CondLine Spot)) (s after : List OpenSection) (lines : List (CondLine Spot)) → Stacked s lines → turned_all s more ≡ Ok after → Stacked after (lines ++ more)
stack_all [] s after lines st is =
    subst (λ x. Stacked x (lines ++ [])) (same_ok {E = StructFault} s after is) (subst (λ x. Stacked s x) (sym (append-nil lines)) st)
stack_all (here ∷ more) s after lines st is =
    let b = bind_ok (turned s here) (λ next. turned_all next more) after is in
    subst (λ x. Stacked after x) (append_assoc lines (here ∷ []) more)
    (stack_all more b.0 after (lines ++ here ∷ []) (stack_by here.role here.item s b.0 lines st b.1) b.2)

-- lines that were turned
pub stacked : (lines : List (CondLine Spot)) (s : List OpenSection) → turned_all [] lines ≡ Ok s → Stacked s lines
stacked lines s is = stack_all lines [] s [] nothing_stacked is

-- as many `#endif` as sections are pending make a group
pub closed_tree : (s : List OpenSection) (lines : List (CondLine Spot)) → Stacked s lines → HasTree (lines ++ endifs added (length s))
closed_tree [] lines st = let all = st Empty in (all.whole, all.same)
closed_tree (o ∷ s) lines st =
    let spot = added in
    subst HasTree (append_assoc lines (line EndifLine spot ∷ []) (endifs added (length s)))
    (closed_tree s (lines ++ line EndifLine spot ∷ []) (stack_endif o s lines spot st))

-- the innermost pending section is an if-section but for its `#endif`
pub innermost : (o : OpenSection) (s : List OpenSection) (lines : List (CondLine Spot)) → Stacked (o ∷ s) lines → IsInnermost lines o.line
innermost o s lines (front, opening, inside, below, named, content, is) =
    let spot = added in
    let rest = closes o inside spot content in
    record {
      front = front;
      opening = opening;
      inside = inside;
      whole = is;
      section = (opening, rest.group, rest.tail, ap (λ x. line IfLine opening ∷ x) (append-nil (lines_of rest.group ++ tail_lines rest.tail) ∙ rest.same));
      named = named;
    }
