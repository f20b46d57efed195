-- Lines have one tree at most, and one of each kind of line has the shape of the other.
use Rattle.std.proofs.Common.{◌≡◌, ◌↔◌, List, [], ◌∷◌, ◌++◌, refl, sym, ap, ◌∙◌, subst, append_assoc}
use Rattle.std.proofs.lemmas.List.{append-nil, map-append}
use Rattle.pp_directives.specs.Groups.{LineRole, OtherLine, IfLine, ElifLine, ElseLine, EndifLine, CondLine, line, Group, Empty, Other, Section, Tail, Elif, Else, Endif, lines_of, tail_lines, Parses, HasTree, carried}
use Rattle.pp_directives.proofs.RunLemmas.{four}

-- a line of this role is in no group that was not begun
abbrev IsAfter : LineRole → Type 0
IsAfter OtherLine = ⊥
IsAfter IfLine = ⊥
IsAfter ElifLine = Unit {0}
IsAfter ElseLine = Unit {0}
IsAfter EndifLine = Unit {0}

module _ {A : Type 0} where
  -- with these lines a group has ended
  abbrev Ends : List (CondLine A) → Type 0
  Ends [] = Unit {0}
  Ends (here ∷ lines) = IsAfter here.role

  tail_ends : (t : Tail A) (x : List (CondLine A)) → Ends (tail_lines t ++ x)
  tail_ends (Elif here group tail) x = tt
  tail_ends (Else here group ending) x = tt
  tail_ends (Endif ending) x = tt

  heads : {a b : CondLine A} {x y : List (CondLine A)} → a ∷ x ≡ b ∷ y → a ≡ b
  heads is = cc

  rests : {a b : CondLine A} {x y : List (CondLine A)} → a ∷ x ≡ b ∷ y → x ≡ y
  rests is = cc

  -- two roles that differ
  apart : {S : Type 0} (r q : LineRole) (a b : A) (x y : List (CondLine A)) → (r ≡ q → ⊥) → line r a ∷ x ≡ line q b ∷ y → S
  apart r q a b x y differ is = absurd (differ (ap (λ (l : CondLine A). l.role) (heads is)))

  items : (r : LineRole) (a b : A) (x y : List (CondLine A)) → line r a ∷ x ≡ line r b ∷ y → a ≡ b
  items r a b x y is = ap (λ (l : CondLine A). l.item) (heads is)

  mutual
    same_groups : (g h : Group A) (x y : List (CondLine A)) → Ends x → Ends y → lines_of g ++ x ≡ lines_of h ++ y → (g ≡ h) × (x ≡ y)
    same_groups Empty Empty x y ex ey is = (refl, is)
    same_groups Empty (Other b h) x y ex ey is = absurd (subst Ends is ex)
    same_groups Empty (Section b h u s) x y ex ey is = absurd (subst Ends is ex)
    same_groups (Other a g) Empty x y ex ey is = absurd (subst Ends (sym is) ey)
    same_groups (Section a g t r) Empty x y ex ey is = absurd (subst Ends (sym is) ey)
    same_groups (Other a g) (Section b h u s) x y ex ey is = apart OtherLine IfLine a b _ _ (λ e. cc) is
    same_groups (Section a g t r) (Other b h) x y ex ey is = apart IfLine OtherLine a b _ _ (λ e. cc) is
    same_groups (Other a g) (Other b h) x y ex ey is =
        let e : a ≡ b = items OtherLine a b _ _ is in
        let more = same_groups g h x y ex ey (rests is) in
        let f : g ≡ h = more.0 in
        (cc, more.1)
    same_groups (Section a g t r) (Section b h u s) x y ex ey is =
        let e : a ≡ b = items IfLine a b _ _ is in
        let all : lines_of g ++ (tail_lines t ++ (lines_of r ++ x)) ≡ lines_of h ++ (tail_lines u ++ (lines_of s ++ y)) =
        sym (four (lines_of g) (tail_lines t) (lines_of r) x) ∙ rests is ∙ four (lines_of h) (tail_lines u) (lines_of s) y in
        let one = same_groups g h (tail_lines t ++ (lines_of r ++ x)) (tail_lines u ++ (lines_of s ++ y)) (tail_ends t (lines_of r ++ x)) (tail_ends u (lines_of s ++ y)) all in
        let two = same_tails t u (lines_of r ++ x) (lines_of s ++ y) one.1 in
        let three = same_groups r s x y ex ey two.1 in
        let p : g ≡ h = one.0 in
        let q : t ≡ u = two.0 in
        let w : r ≡ s = three.0 in
        (cc, three.1)

    same_tails : (t u : Tail A) (x y : List (CondLine A)) → tail_lines t ++ x ≡ tail_lines u ++ y → (t ≡ u) × (x ≡ y)
    same_tails (Elif a g t) (Elif b h u) x y is =
        let e : a ≡ b = items ElifLine a b _ _ is in
        let all : lines_of g ++ (tail_lines t ++ x) ≡ lines_of h ++ (tail_lines u ++ y) =
        sym (append_assoc (lines_of g) (tail_lines t) x) ∙ rests is ∙ append_assoc (lines_of h) (tail_lines u) y in
        let one = same_groups g h (tail_lines t ++ x) (tail_lines u ++ y) (tail_ends t x) (tail_ends u y) all in
        let two = same_tails t u x y one.1 in
        let p : g ≡ h = one.0 in
        let q : t ≡ u = two.0 in
        (cc, two.1)
    same_tails (Elif a g t) (Else b h c) x y is = apart ElifLine ElseLine a b _ _ (λ e. cc) is
    same_tails (Elif a g t) (Endif b) x y is = apart ElifLine EndifLine a b _ _ (λ e. cc) is
    same_tails (Else a g c) (Elif b h u) x y is = apart ElseLine ElifLine a b _ _ (λ e. cc) is
    same_tails (Else a g c) (Endif b) x y is = apart ElseLine EndifLine a b _ _ (λ e. cc) is
    same_tails (Endif a) (Elif b h u) x y is = apart EndifLine ElifLine a b _ _ (λ e. cc) is
    same_tails (Endif a) (Else b h d) x y is = apart EndifLine ElseLine a b _ _ (λ e. cc) is
    same_tails (Endif a) (Endif b) x y is =
        let e : a ≡ b = items EndifLine a b _ _ is in
        (cc, rests is)
    same_tails (Else a g c) (Else b h d) x y is =
        let e : a ≡ b = items ElseLine a b _ _ is in
        let all : lines_of g ++ line EndifLine c ∷ x ≡ lines_of h ++ line EndifLine d ∷ y =
        sym (append_assoc (lines_of g) (line EndifLine c ∷ []) x) ∙ rests is ∙ append_assoc (lines_of h) (line EndifLine d ∷ []) y in
        let one = same_groups g h (line EndifLine c ∷ x) (line EndifLine d ∷ y) tt tt all in
        let p : g ≡ h = one.0 in
        let q : c ≡ d = items EndifLine c d _ _ one.1 in
        (cc, rests one.1)

  -- lines have one tree at most
  pub one_tree : (lines : List (CondLine A)) (tree other : Group A) → Parses lines tree → Parses lines other → tree ≡ other
  one_tree lines tree other is as_well = (same_groups tree other [] [] tt tt (append-nil (lines_of tree) ∙ is ∙ sym as_well ∙ sym (append-nil (lines_of other)))).0

module _ {A B : Type 0} (view : A → B) where
  abbrev mutual
    -- the tree of the lines, where something else is said of each
    pub carried_group : Group A → Group B
    carried_group Empty = Empty
    carried_group (Other here after) = Other (view here) (carried_group after)
    carried_group (Section opening group tail after) = Section (view opening) (carried_group group) (carried_tail tail) (carried_group after)

    pub carried_tail : Tail A → Tail B
    carried_tail (Elif here group tail) = Elif (view here) (carried_group group) (carried_tail tail)
    carried_tail (Else here group ending) = Else (view here) (carried_group group) (view ending)
    carried_tail (Endif ending) = Endif (view ending)

  abbrev carry : CondLine A → CondLine B
  carry here = line here.role (view here.item)

  carried_two : (a b : List (CondLine A)) (x y : List (CondLine B)) → x ≡ carried view a → y ≡ carried view b → x ++ y ≡ carried view (a ++ b)
  carried_two a b x y e f = ap (λ z. z ++ y) e ∙ ap (λ z. carried view a ++ z) f ∙ sym (map-append carry a b)

  mutual
    carried_lines : (g : Group A) → lines_of (carried_group g) ≡ carried view (lines_of g)
    carried_lines Empty = refl
    carried_lines (Other here after) = ap (λ x. line OtherLine (view here) ∷ x) (carried_lines after)
    carried_lines (Section opening group tail after) =
        ap (λ x. line IfLine (view opening) ∷ x)
        (carried_two (lines_of group ++ tail_lines tail) (lines_of after) (lines_of (carried_group group) ++ tail_lines (carried_tail tail)) (lines_of (carried_group after))
        (carried_two (lines_of group) (tail_lines tail) (lines_of (carried_group group)) (tail_lines (carried_tail tail)) (carried_lines group) (carried_tails tail))
        (carried_lines after))

    carried_tails : (t : Tail A) → tail_lines (carried_tail t) ≡ carried view (tail_lines t)
    carried_tails (Elif here group tail) =
        ap (λ x. line ElifLine (view here) ∷ x)
        (carried_two (lines_of group) (tail_lines tail) (lines_of (carried_group group)) (tail_lines (carried_tail tail)) (carried_lines group) (carried_tails tail))
    carried_tails (Else here group ending) =
        ap (λ x. line ElseLine (view here) ∷ x)
        (carried_two (lines_of group) (line EndifLine ending ∷ []) (lines_of (carried_group group)) (line EndifLine (view ending) ∷ []) (carried_lines group) refl)
    carried_tails (Endif ending) = refl

  -- lines that begin with a group, seen otherwise
  record Begins (lines : List (CondLine A)) (x : List (CondLine B)) : Type 0 where
    group : Group A
    rest : List (CondLine A)
    whole : lines ≡ lines_of group ++ rest
    after : x ≡ carried view rest

  record BeginsTail (lines : List (CondLine A)) (x : List (CondLine B)) : Type 0 where
    tail : Tail A
    rest : List (CondLine A)
    whole : lines ≡ tail_lines tail ++ rest
    after : x ≡ carried view rest

  in_front : {here first : CondLine A} {lines others : List (CondLine A)} → here ≡ first → lines ≡ others → here ∷ lines ≡ first ∷ others
  in_front e f = cc

  -- the first of the lines has this role
  role_is : (role : LineRole) (b : B) (x : List (CondLine B)) (here : CondLine A) (lines : List (CondLine A)) → line role b ∷ x ≡ carried view (here ∷ lines) → here ≡ line role here.item
  role_is role b x here lines is = ap (λ r. line r here.item) (sym (ap (λ (l : CondLine B). l.role) (heads is)))

  -- a section and what comes after it
  section_after : {x y z : List (CondLine B)} (here : CondLine A) (lines : List (CondLine A)) → here ≡ line IfLine here.item →
      (one : Begins lines x) (two : BeginsTail one.rest y) → Begins two.rest z → Begins (here ∷ lines) z
  section_after here lines first one two three = record {
    group = Section here.item one.group two.tail three.group;
    rest = three.rest;
    whole = in_front first
        (one.whole ∙ ap (λ y. lines_of one.group ++ y) (two.whole ∙ ap (λ y. tail_lines two.tail ++ y) three.whole)
        ∙ sym (four (lines_of one.group) (tail_lines two.tail) (lines_of three.group) three.rest));
    after = three.after;
  }

  elif_after : {x y : List (CondLine B)} (here : CondLine A) (lines : List (CondLine A)) → here ≡ line ElifLine here.item →
      (one : Begins lines x) → BeginsTail one.rest y → BeginsTail (here ∷ lines) y
  elif_after here lines first one two = record {
    tail = Elif here.item one.group two.tail;
    rest = two.rest;
    whole = in_front first (one.whole ∙ ap (λ y. lines_of one.group ++ y) two.whole ∙ sym (append_assoc (lines_of one.group) (tail_lines two.tail) two.rest));
    after = two.after;
  }

  else_after : {x : List (CondLine B)} (c : B) (here : CondLine A) (lines : List (CondLine A)) (group : Group A) (rest : List (CondLine A)) → here ≡ line ElseLine here.item →
      lines ≡ lines_of group ++ rest → line EndifLine c ∷ x ≡ carried view rest → BeginsTail (here ∷ lines) x
  else_after c here lines group [] first whole after = cc
  else_after {x} c here lines group (last ∷ rest) first whole after = record {
    tail = Else here.item group last.item;
    rest = rest;
    whole = in_front first
        (whole ∙ ap (λ y. lines_of group ++ y ∷ rest) (role_is EndifLine c x last rest after) ∙ sym (append_assoc (lines_of group) (line EndifLine last.item ∷ []) rest));
    after = rests after;
  }

  no_more : (lines rest : List (CondLine A)) (group : Group A) → lines ≡ lines_of group ++ rest → ◌≡◌ {A = List (CondLine B)} [] (carried view rest) → lines_of group ≡ lines
  no_more lines [] group whole is = sym (whole ∙ append-nil (lines_of group))
  no_more lines (here ∷ rest) group whole is = cc

  whole_group : (lines : List (CondLine A)) → Begins lines [] → HasTree lines
  whole_group lines b = (b.group, no_more lines b.rest b.group b.whole b.after)

  mutual
    uncarried : (g : Group B) (lines : List (CondLine A)) (x : List (CondLine B)) → lines_of g ++ x ≡ carried view lines → Begins lines x
    uncarried Empty lines x is = record { group = Empty; rest = lines; whole = refl; after = is }
    uncarried (Other b g) [] x is = cc
    uncarried (Other b g) (here ∷ lines) x is =
        let one = uncarried g lines x (rests is) in
        record { group = Other here.item one.group; rest = one.rest; whole = in_front (role_is OtherLine b (lines_of g ++ x) here lines is) one.whole; after = one.after }
    uncarried (Section b g t r) [] x is = cc
    uncarried (Section b g t r) (here ∷ lines) x is =
        let one = uncarried g lines (tail_lines t ++ (lines_of r ++ x)) (sym (four (lines_of g) (tail_lines t) (lines_of r) x) ∙ rests is) in
        let two = uncarried_tail t one.rest (lines_of r ++ x) one.after in
        section_after here lines (role_is IfLine b (((lines_of g ++ tail_lines t) ++ lines_of r) ++ x) here lines is) one two (uncarried r two.rest x two.after)

    uncarried_tail : (t : Tail B) (lines : List (CondLine A)) (x : List (CondLine B)) → tail_lines t ++ x ≡ carried view lines → BeginsTail lines x
    uncarried_tail (Elif b g t) [] x is = cc
    uncarried_tail (Elif b g t) (here ∷ lines) x is =
        let one = uncarried g lines (tail_lines t ++ x) (sym (append_assoc (lines_of g) (tail_lines t) x) ∙ rests is) in
        elif_after here lines (role_is ElifLine b ((lines_of g ++ tail_lines t) ++ x) here lines is) one (uncarried_tail t one.rest x one.after)
    uncarried_tail (Else b g c) [] x is = cc
    uncarried_tail (Else b g c) (here ∷ lines) x is =
        let one = uncarried g lines (line EndifLine c ∷ x) (sym (append_assoc (lines_of g) (line EndifLine c ∷ []) x) ∙ rests is) in
        else_after c here lines one.group one.rest (role_is ElseLine b ((lines_of g ++ line EndifLine c ∷ []) ++ x) here lines is) one.whole one.after
    uncarried_tail (Endif c) [] x is = cc
    uncarried_tail (Endif c) (here ∷ lines) x is =
        record { tail = Endif here.item; rest = lines; whole = in_front (role_is EndifLine c x here lines is) refl; after = rests is }

  pub roles_decide : (lines : List (CondLine A)) → HasTree lines ↔ HasTree (carried view lines)
  roles_decide lines = (
    (λ h. (carried_group h.0, carried_lines h.0 ∙ ap (carried view) h.1)),
    (λ h. whole_group lines (uncarried h.0 lines [] (append-nil (lines_of h.0) ∙ h.1))),
  )
