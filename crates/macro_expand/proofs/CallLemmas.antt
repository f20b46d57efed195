-- The arguments of a call, as they are cut out of the stack.
use Rattle.std.proofs.Common.{◌≡◌, ℕ, zero, suc, ◌+◌, ◌-◌, ◌≤◌, Bool, true, false, cond, not, ◌&&◌, nat_eq, List, [], ◌∷◌, take, drop, length, Option, Some, None, refl, sym, ap, ◌∙◌, subst, arith, length-append}
use Rattle.std.proofs.lemmas.Bool.{cond-true, cond-false}
use Rattle.macro_table.specs.Definitions.{DefValue}
use Rattle.macro_expand.specs.declared.delimiter.Delimiter.{Delimiter}
use Rattle.macro_expand.specs.declared.delimiter.Delimiter.TheVariants.{Opens, Closes, Comma, Inner}
use Rattle.macro_expand.specs.declared.rescan.slots.Slot.{Slot}
use Rattle.macro_expand.specs.declared.rescan.slots.Cut.{Cut}
use Rattle.macro_expand.specs.Marked.{Names, Marked, delimiter_of}
use Rattle.macro_expand.specs.Macros.{named_params}
use Rattle.macro_expand.specs.Calls.{Closed, closed, inside_too, to_first, depth_behind, ends_call, parts, split, commas_of, arguments_of, arguments, first_list, other_lists}
use Rattle.macro_expand.specs.States.{backwards, hidden_names}
use Rattle.macro_expand.specs.Slots.{Place, Stands, Ends, place_of, lists_of, places, lists, first_delimiter, Opened, stands_too, ends_too, opened, IsOpened}
use Rattle.macro_expand.specs.Taking.{no_named, closes, IsCall}
use Rattle.macro_expand.proofs.Sizes.{IsSome', split_cost, IsCut, closed_cut}
use Rattle.macro_expand.proofs.SlotLemmas.{first_more, others_same}
use Rattle.mac_base.proofs.TestLemmas.{and_first, and_second, zero_apart}

-- lists that begin with these, and go on with a list and with others
pub record Falls (n : ℕ) (ls args : List (List Marked)) (rest : List Marked) (others : List (List Marked)) : Type 0 where
  pub count : n ≡ length args
  pub front : take n ls ≡ args
  pub next : first_list (drop n ls) ≡ rest
  pub behind : other_lists (drop n ls) ≡ others

falls_end : (n : ℕ) (ls args : List (List Marked)) (rest : List Marked) (others : List (List Marked)) → Falls n ls args rest others → Falls (n + 1) ([] ∷ ls) ([] ∷ args) rest others
falls_end n ls args rest others f =
    let e : suc n ≡ n + 1 = omega arith in
    subst (λ k. Falls k ([] ∷ ls) ([] ∷ args) rest others) e (record { count = ap suc f.count; front = ap (λ l. [] ∷ l) f.front; next = f.next; behind = f.behind })

falls_word : (n : ℕ) (m : Marked) (ls args : List (List Marked)) (rest : List Marked) (others : List (List Marked)) → IsSome' args → Falls n ls args rest others → Falls n (to_first m ls) (to_first m args) rest others
falls_word n m ls [] rest others s f = absurd s
falls_word zero m ls (a ∷ args) rest others s f = absurd (omega (arith, f.count))
falls_word (suc n) m [] (a ∷ args) rest others s f = none f.front
  where
    none : [] ≡ a ∷ args → Falls (suc n) (to_first m []) (to_first m (a ∷ args)) rest others
    none e = cc
falls_word (suc n) m (l ∷ ls) (a ∷ args) rest others s f = record { count = f.count; front = ap (to_first m) f.front; next = f.next; behind = f.behind }

-- how the cut of the stack and the closing of the list agree
abbrev pub Agrees : ℕ → ℕ → List Place → Option Opened → Option Closed → Type 0
Agrees commas depth ps None None = Unit {0}
Agrees commas depth ps None (Some c) = ⊥
Agrees commas depth ps (Some o) None = ⊥
Agrees commas depth ps (Some o) (Some c) = (o.close ≡ c.close.hides) × Falls o.count (lists_of o.places) (split c.inside commas depth) c.rest (other_lists (lists_of ps))

agrees_end : (commas depth : ℕ) (m : Marked) (ps : List Place) (o : Option Opened) (c : Option Closed) → parts (delimiter_of m.token) commas depth ≡ true → Agrees (commas - 1) depth ps o c → Agrees commas depth (Stands m ∷ ps) (ends_too o) (inside_too m c)
unfolding split
agrees_end commas depth m ps None None p a = tt
agrees_end commas depth m ps None (Some c) p a = absurd a
agrees_end commas depth m ps (Some o) None p a = absurd a
agrees_end commas depth m ps (Some o) (Some c) p a = (
  a.0,
  subst (λ l. Falls (o.count + 1) ([] ∷ lists_of o.places) l c.rest (other_lists (to_first m (lists_of ps)))) (sym (cond-true (parts (delimiter_of m.token) commas depth) _ _ p))
      (subst (λ l. Falls (o.count + 1) ([] ∷ lists_of o.places) ([] ∷ split c.inside (commas - 1) depth) c.rest l) (sym (others_same m (lists_of ps))) (falls_end o.count (lists_of o.places) (split c.inside (commas - 1) depth) c.rest (other_lists (lists_of ps)) a.1)),
)

agrees_word : (commas depth : ℕ) (m : Marked) (ps : List Place) (o : Option Opened) (c : Option Closed) → parts (delimiter_of m.token) commas depth ≡ false → Agrees commas (depth_behind (delimiter_of m.token) depth) ps o c → Agrees commas depth (Stands m ∷ ps) (stands_too m o) (inside_too m c)
unfolding split
agrees_word commas depth m ps None None p a = tt
agrees_word commas depth m ps None (Some c) p a = absurd a
agrees_word commas depth m ps (Some o) None p a = absurd a
agrees_word commas depth m ps (Some o) (Some c) p a =
    let deep : ℕ = depth_behind (delimiter_of m.token) depth in (
      a.0,
      subst (λ l. Falls o.count (to_first m (lists_of o.places)) l c.rest (other_lists (to_first m (lists_of ps)))) (sym (cond-false (parts (delimiter_of m.token) commas depth) _ _ p))
          (subst (λ l. Falls o.count (to_first m (lists_of o.places)) (to_first m (split c.inside commas deep)) c.rest l) (sym (others_same m (lists_of ps)))
          (falls_word o.count m (lists_of o.places) (split c.inside commas deep) c.rest (other_lists (lists_of ps)) (split_cost c.inside commas deep).0 a.1)),
    )

same_depth : (p : Delimiter) (commas depth : ℕ) → parts p commas depth ≡ true → depth_behind p depth ≡ depth
same_depth Comma commas depth e = refl
same_depth Opens commas depth e = cc
same_depth Closes commas depth e = cc
same_depth Inner commas depth e = cc

pub agree : (ps : List Place) (commas depth : ℕ) → Agrees commas depth ps (opened ps commas depth) (closed (first_list (lists_of ps)) depth)
unfolding closed split
agree [] commas depth = tt
agree (Ends ∷ ps) commas depth = tt
agree (Stands m ∷ ps) commas depth =
    subst (λ l. Agrees commas depth (Stands m ∷ ps) (opened (Stands m ∷ ps) commas depth) (closed l depth)) (sym (first_more m (lists_of ps)))
    (by_first (ends_call (delimiter_of m.token) depth) (agree ps (commas - 1) depth) (agree ps commas (depth_behind (delimiter_of m.token) depth)))
  where
    by_second : (u : Bool) → parts (delimiter_of m.token) commas depth ≡ u
        → Agrees (commas - 1) depth ps (opened ps (commas - 1) depth) (closed (first_list (lists_of ps)) depth)
        → Agrees commas (depth_behind (delimiter_of m.token) depth) ps (opened ps commas (depth_behind (delimiter_of m.token) depth)) (closed (first_list (lists_of ps)) (depth_behind (delimiter_of m.token) depth))
        → Agrees commas depth (Stands m ∷ ps) (cond u (ends_too (opened ps (commas - 1) depth)) (stands_too m (opened ps commas (depth_behind (delimiter_of m.token) depth)))) (inside_too m (closed (first_list (lists_of ps)) (depth_behind (delimiter_of m.token) depth)))
    by_second true e a b =
        subst (λ k. Agrees commas depth (Stands m ∷ ps) (ends_too (opened ps (commas - 1) depth)) (inside_too m (closed (first_list (lists_of ps)) k))) (sym (same_depth (delimiter_of m.token) commas depth e))
        (agrees_end commas depth m ps (opened ps (commas - 1) depth) (closed (first_list (lists_of ps)) depth) e a)
    by_second false e a b = agrees_word commas depth m ps (opened ps commas (depth_behind (delimiter_of m.token) depth)) (closed (first_list (lists_of ps)) (depth_behind (delimiter_of m.token) depth)) e b

    by_first : (t : Bool)
        → Agrees (commas - 1) depth ps (opened ps (commas - 1) depth) (closed (first_list (lists_of ps)) depth)
        → Agrees commas (depth_behind (delimiter_of m.token) depth) ps (opened ps commas (depth_behind (delimiter_of m.token) depth)) (closed (first_list (lists_of ps)) (depth_behind (delimiter_of m.token) depth))
        → Agrees commas depth (Stands m ∷ ps)
        (cond t (Some (record { count = 1; close = m.hides; places = Ends ∷ ps })) (cond (parts (delimiter_of m.token) commas depth) (ends_too (opened ps (commas - 1) depth)) (stands_too m (opened ps commas (depth_behind (delimiter_of m.token) depth)))))
        (cond t (Some (record { inside = []; close = m; rest = first_list (lists_of ps) })) (inside_too m (closed (first_list (lists_of ps)) (depth_behind (delimiter_of m.token) depth))))
    by_first true a b = (refl, record { count = refl; front = refl; next = refl; behind = sym (others_same m (lists_of ps)) })
    by_first false a b = by_second (parts (delimiter_of m.token) commas depth) refl a b

-- How many commas count.

split_enough : (ms : List Marked) (a b depth : ℕ) → length ms ≤ a → length ms ≤ b → split ms a depth ≡ split ms b depth
unfolding split
split_enough [] a b depth g h = refl
split_enough (m ∷ ms) zero b depth g h = absurd (omega arith)
split_enough (m ∷ ms) (suc a) zero depth g h = absurd (omega arith)
split_enough (m ∷ ms) (suc a) (suc b) depth g h =
    ap (λ t. cond t ([] ∷ split ms (suc a - 1) depth) (to_first m (split ms (suc a) (depth_behind (delimiter_of m.token) depth)))) (same_parts (delimiter_of m.token))
    ∙ ap (λ l. cond (parts (delimiter_of m.token) (suc b) depth) ([] ∷ l) (to_first m (split ms (suc a) (depth_behind (delimiter_of m.token) depth)))) (split_enough ms (suc a - 1) (suc b - 1) depth (omega arith) (omega arith))
    ∙ ap (λ l. cond (parts (delimiter_of m.token) (suc b) depth) ([] ∷ split ms (suc b - 1) depth) (to_first m l)) (split_enough ms (suc a) (suc b) (depth_behind (delimiter_of m.token) depth) (omega arith) (omega arith))
  where
    same_parts : (p : Delimiter) → parts p (suc a) depth ≡ parts p (suc b) depth
    same_parts Comma = ap (λ t. nat_eq depth 0 && not t) (zero_apart a ∙ sym (zero_apart b))
    same_parts Opens = refl
    same_parts Closes = refl
    same_parts Inner = refl

ends_closes : (p : Delimiter) → ends_call p 0 ≡ true → closes (Some p) ≡ true
ends_closes Closes e = refl
ends_closes Opens e = cc
ends_closes Comma e = cc
ends_closes Inner e = cc

closes_ends : (p : Delimiter) → closes (Some p) ≡ true → ends_call p 0 ≡ true
closes_ends Closes e = refl
closes_ends Opens e = cc
closes_ends Comma e = cc
closes_ends Inner e = cc

first_closes : (ms : List Marked) (c : Closed) → closed ms 0 ≡ Some c → c.inside ≡ [] → closes (first_delimiter ms) ≡ true
unfolding closed
first_closes [] c e n = cc
first_closes (m ∷ ms) c e n = go (ends_call (delimiter_of m.token) 0) refl e
  where
    more : (o : Option Closed) → inside_too m o ≡ Some c → ⊥
    more None e = cc
    more (Some d) e = not_nil (ap inside_of e)
      where
        inside_of : Option Closed → List Marked
        inside_of None = []
        inside_of (Some d) = d.inside

        not_nil : m ∷ d.inside ≡ c.inside → ⊥
        not_nil e = cc

    go : (t : Bool) → ends_call (delimiter_of m.token) 0 ≡ t → cond t (Some (record { inside = []; close = m; rest = ms })) (inside_too m (closed ms (depth_behind (delimiter_of m.token) 0))) ≡ Some c → closes (Some (delimiter_of m.token)) ≡ true
    go true t e = ends_closes (delimiter_of m.token) t
    go false t e = absurd (more (closed ms (depth_behind (delimiter_of m.token) 0)) e)

inside_length : (ms : List Marked) (c : Closed) → closed ms 0 ≡ Some c → length c.inside ≤ length ms
inside_length ms c e = let k : IsCut (length ms) (Some c) = subst (IsCut (length ms)) e (closed_cut ms 0) in omega (arith, k)

args_are : (d : DefValue) (ms : List Marked) (c : Closed) (commas n : ℕ) → closed ms 0 ≡ Some c → (no_named (named_params d) && closes (first_delimiter ms)) ≡ false → commas ≡ cond d.variadic (length (named_params d)) n → length ms ≤ n → split c.inside commas 0 ≡ arguments d c.inside
args_are d ms c commas n e b k l = by_commas d.variadic k ∙ by_named (named_params d) b c.inside refl (commas_of d c.inside)
  where
    by_commas : (v : Bool) → commas ≡ cond v (length (named_params d)) n → split c.inside commas 0 ≡ split c.inside (cond v (length (named_params d)) (length c.inside)) 0
    by_commas true k = ap (λ a. split c.inside a 0) k
    by_commas false k = split_enough c.inside commas (length c.inside) 0 (omega (arith, inside_length ms c e, k)) (omega arith)

    by_named : (names : List (List ℕ)) → (no_named names && closes (first_delimiter ms)) ≡ false → (inside : List Marked) → c.inside ≡ inside → (a : ℕ) → split inside a 0 ≡ arguments_of names a inside
    by_named (p ∷ ps) b inside i a = refl
    by_named [] b [] i a = absurd (both (first_closes ms c e i) b)
      where
        both : {t : Bool} → t ≡ true → t ≡ false → ⊥
        both x y = cc
    by_named [] b (m ∷ inside) i a = refl

-- A call without arguments.

no_arguments : (d : DefValue) → no_named (named_params d) ≡ true → arguments d [] ≡ []
no_arguments d e = go (named_params d) e (commas_of d [])
  where
    go : (names : List (List ℕ)) → no_named names ≡ true → (a : ℕ) → arguments_of names a [] ≡ []
    go [] e a = refl
    go (p ∷ ps) e a = cc

pub bare_is : (d : DefValue) (old new : List (List Marked)) (m : Marked) (cut : Cut) → (no_named (named_params d) && closes (first_delimiter (first_list old))) ≡ true → old ≡ to_first m new → cut.count ≡ 0 → hidden_names cut.hides ≡ m.hides → IsCall (Some cut) old new d
unfolding closed
bare_is d old new m cut b t n h =
    let first : first_list old ≡ m ∷ first_list new = ap first_list t ∙ first_more m new in
    let part : closes (Some (delimiter_of m.token)) ≡ true = ap (λ l. closes (first_delimiter l)) (sym first) ∙ and_second (no_named (named_params d)) (closes (first_delimiter (first_list old))) b in
    let none : arguments d [] ≡ [] = no_arguments d (and_first (no_named (named_params d)) (closes (first_delimiter (first_list old))) b) in (
      record { inside = []; close = m; rest = first_list new },
      ap (λ l. closed l 0) first ∙ cond-true (ends_call (delimiter_of m.token) 0) _ _ (closes_ends (delimiter_of m.token) part),
      n ∙ ap length (sym none),
      h,
      ap (λ k. take k new) n ∙ sym none,
      ap (λ k. first_list (drop k new)) n,
      ap (λ k. other_lists (drop k new)) n ∙ sym (ap other_lists t ∙ others_same m new),
    )

pub bare_none : (d : DefValue) (old new : List (List Marked)) → (no_named (named_params d) && closes (first_delimiter (first_list old))) ≡ true → first_list old ≡ [] → ⊥
bare_none d old new b e = no (ap (λ l. closes (first_delimiter l)) (sym e) ∙ and_second (no_named (named_params d)) (closes (first_delimiter (first_list old))) b)
  where
    no : false ≡ true → ⊥
    no e = cc

-- Any other call.

first_length : (ps : List Place) → length (first_list (lists_of ps)) ≤ length ps
first_length [] = omega arith
first_length (Ends ∷ ps) = omega arith
first_length (Stands m ∷ ps) = omega (arith, ap length (first_more m (lists_of ps)), first_length ps)

backwards_length : {A B : Type 0} (f : A → B) (xs : List A) → length (backwards f xs) ≡ length xs
backwards_length f [] = refl
backwards_length f (x ∷ xs) = omega (arith, length-append (backwards f xs) (f x ∷ []), backwards_length f xs)

pub cut_is : (d : DefValue) (old new : List Slot) (commas : ℕ) (cut : Option Cut) → (no_named (named_params d) && closes (first_delimiter (first_list (lists old)))) ≡ false → commas ≡ cond d.variadic (length (named_params d)) (length old) →
    IsOpened cut new (opened (places old) commas 0) → IsCall cut (lists old) (lists new) d
cut_is d old new commas cut b k o = go cut (opened (places old) commas 0) refl (closed (first_list (lists old)) 0) refl (agree (places old) commas 0) o
  where
    opened_of : Option Opened → ℕ × Names × List Place
    opened_of None = (0, (λ n. false), [])
    opened_of (Some o) = (o.count, o.close, o.places)

    go : (cut : Option Cut) (o : Option Opened) → opened (places old) commas 0 ≡ o → (c : Option Closed) → closed (first_list (lists old)) 0 ≡ c → Agrees commas 0 (places old) o c → IsOpened cut new o → IsCall cut (lists old) (lists new) d
    go None None eo None ec a i = ec
    go None None eo (Some c) ec a i = absurd a
    go None (Some o) eo c ec a i = cc
    go (Some cut) None eo c ec a i = cc
    go (Some cut) (Some o) eo None ec a i = absurd a
    go (Some cut) (Some o) eo (Some c) ec a i =
        let same = ap opened_of i in
        let args : split c.inside commas 0 ≡ arguments d c.inside = args_are d (first_list (lists old)) c commas (length old) ec b k (omega (arith, first_length (places old), backwards_length place_of old)) in
        let n : cut.count ≡ o.count = sym (ap (λ (p : ℕ × Names × List Place). p.0) same) in
        let ps : places new ≡ o.places = sym (ap (λ (p : ℕ × Names × List Place). p.2) same) in (
          c,
          ec,
          n ∙ a.1.count ∙ ap length args,
          sym (ap (λ (p : ℕ × Names × List Place). p.1) same) ∙ a.0,
          ap (λ k. take k (lists new)) n ∙ ap (λ l. take o.count (lists_of l)) ps ∙ a.1.front ∙ args,
          ap (λ k. first_list (drop k (lists new))) n ∙ ap (λ l. first_list (drop o.count (lists_of l))) ps ∙ a.1.next,
          ap (λ k. other_lists (drop k (lists new))) n ∙ ap (λ l. other_lists (drop o.count (lists_of l))) ps ∙ a.1.behind,
        )
