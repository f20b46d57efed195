-- What counting finds in a call is what the standard's words say.
use Rattle.std.proofs.Common.{◌≡◌, ℕ, zero, suc, ◌+◌, ◌-◌, ◌≤◌, Bool, true, false, cond, not, ◌&&◌, nat_eq, List, [], ◌∷◌, ◌++◌, length, length-append, Option, Some, None, refl, sym, ap, ◌∙◌, subst, arith, append_assoc}
use Rattle.std.specs.Prelude.{◌↔◌}
use Rattle.std.proofs.lemmas.List.{append-nil}
use Rattle.std.proofs.lemmas.Bool.{cond-true, cond-false}
use Rattle.macro_expand.specs.declared.delimiter.Delimiter.{Delimiter}
use Rattle.macro_expand.specs.declared.delimiter.Delimiter.TheVariants.{Opens, Closes, Comma, Inner}
use Rattle.macro_expand.specs.Marked.{Marked, delimiter_of}
use Rattle.macro_table.specs.Definitions.{DefValue}
use Rattle.macro_expand.specs.Macros.{named_params}
use Rattle.macro_expand.specs.Calls.{Closed, closed, inside_too, to_first, depth_behind, ends_call, parts, split, commas_of, arguments_of, arguments}
use Rattle.macro_expand.specs.Slots.{in_front}
use Rattle.macro_expand.specs.Invocations.{IsBalanced, Nothing, Plain, Separator, Pair, IsCallIn, IsItem, Empty, Token, Group, ArgumentList, Last, More, tokens_in, IsArgumentList, each_item, merged, items_for, IsSeparated, AreArgumentsBy, AreArguments}
use Rattle.mac_base.proofs.TestLemmas.{zero_apart}

deeper : (d : ℕ) → nat_eq (d + 1) 0 ≡ false
deeper d = let e : d + 1 ≡ suc d = omega arith in ap (λ n. nat_eq n 0) e ∙ zero_apart d

back : (d : ℕ) → d + 1 - 1 ≡ d
back d = omega arith

-- Where a call ends.

closed_is : (m : Marked) (ms : List Marked) (d : ℕ) (p : Delimiter) → delimiter_of m.token ≡ p →
    closed (m ∷ ms) d ≡ cond (ends_call p d) (Some (record { inside = []; close = m; rest = ms })) (inside_too m (closed ms (depth_behind p d)))
unfolding closed
closed_is m ms d p e = ap (λ q. cond (ends_call q d) (Some (record { inside = []; close = m; rest = ms })) (inside_too m (closed ms (depth_behind q d)))) e

-- tokens before what is found
abbrev before : List Marked → Option Closed → Option Closed
before [] o = o
before (m ∷ ms) o = inside_too m (before ms o)

before_both : (a b : List Marked) (o : Option Closed) → before (a ++ b) o ≡ before a (before b o)
before_both [] b o = refl
before_both (m ∷ ms) b o = ap (inside_too m) (before_both ms b o)

before_some : (a rest : List Marked) (m : Marked) → before a (Some (record { inside = []; close = m; rest = rest })) ≡ Some (record { inside = a; close = m; rest = rest })
before_some [] rest m = refl
before_some (x ∷ xs) rest m = ap (inside_too x) (before_some xs rest m)

-- balanced tokens are passed at any depth
balanced_closed : {b : List Marked} → IsBalanced b → (tail : List Marked) (d : ℕ) → closed (b ++ tail) d ≡ before b (closed tail d)
balanced_closed Nothing tail d = refl
balanced_closed (Plain {m} {ms} e i) tail d = closed_is m (ms ++ tail) d Inner e ∙ ap (inside_too m) (balanced_closed i tail d)
balanced_closed (Separator {m} {ms} e i) tail d = closed_is m (ms ++ tail) d Comma e ∙ ap (inside_too m) (balanced_closed i tail d)
balanced_closed (Pair {opening} inner closing after o i c a) tail d =
    closed_is opening ((inner ++ closing ∷ after) ++ tail) d Opens o
    ∙ ap (inside_too opening) (
    ap (λ l. closed l (d + 1)) (append_assoc inner (closing ∷ after) tail)
    ∙ balanced_closed i (closing ∷ after ++ tail) (d + 1)
    ∙ ap (before inner) (
    closed_is closing (after ++ tail) (d + 1) Closes c
    ∙ cond-false (nat_eq (d + 1) 0) _ _ (deeper d)
    ∙ ap (λ n. inside_too closing (closed (after ++ tail) n)) (back d)
    ∙ ap (inside_too closing) (balanced_closed a tail d))
    ∙ sym (before_both inner (closing ∷ after) (closed tail d)))

pub call_found : (list : List Marked) (c : Closed) → IsCallIn list c → closed list 0 ≡ Some c
call_found list c is =
    ap (λ l. closed l 0) is.tokens ∙ balanced_closed is.balanced (c.close ∷ c.rest) 0
    ∙ ap (before c.inside) (closed_is c.close c.rest 0 Closes is.matching) ∙ before_some c.inside c.rest c.close

-- balanced tokens, a `)`, and other tokens
record Cut (Others : List Marked → Type 0) (b : List Marked) : Type 0 where
  first : List Marked
  closing : Marked
  more : List Marked
  tokens : b ≡ first ++ closing ∷ more
  balanced : IsBalanced first
  matching : delimiter_of closing.token ≡ Closes
  others : Others more

-- so many `)` are left alone by what is balanced between them
abbrev Unwinds : ℕ → List Marked → Type 0
Unwinds zero b = IsBalanced b
Unwinds (suc d) b = Cut (Unwinds d) b

one_more : (m : Marked) → ((b : List Marked) → IsBalanced b → IsBalanced (m ∷ b)) → (d : ℕ) (b : List Marked) → Unwinds d b → Unwinds d (m ∷ b)
one_more m more zero b u = more b u
one_more m more (suc d) b u = record { first = m ∷ u.first; closing = u.closing; more = u.more; tokens = ap (λ l. m ∷ l) u.tokens; balanced = more u.first u.balanced; matching = u.matching; others = u.others }

opened_more : (m : Marked) → delimiter_of m.token ≡ Opens → (d : ℕ) (b : List Marked) → Unwinds (suc d) b → Unwinds d (m ∷ b)
opened_more m o zero b u = subst IsBalanced (ap (λ l. m ∷ l) (sym u.tokens)) (Pair u.first u.closing u.more o u.balanced u.matching u.others)
opened_more m o (suc d) b u =
    let v : Cut (Unwinds d) u.more = u.others in
    record {
      first = m ∷ u.first ++ u.closing ∷ v.first;
      closing = v.closing;
      more = v.more;
      tokens = ap (λ l. m ∷ l) (u.tokens ∙ ap (λ l. u.first ++ u.closing ∷ l) v.tokens ∙ sym (append_assoc u.first (u.closing ∷ v.first) (v.closing ∷ v.more)));
      balanced = Pair u.first u.closing v.first o u.balanced u.matching v.balanced;
      matching = v.matching;
      others = v.others;
    }

-- what is found at a depth
record Found (list : List Marked) (d : ℕ) (c : Closed) : Type 0 where
  tokens : list ≡ c.inside ++ c.close ∷ c.rest
  matching : delimiter_of c.close.token ≡ Closes
  unwinds : Unwinds d c.inside

-- what is found with a token more was found without it
record Without (m : Marked) (o : Option Closed) (c : Closed) : Type 0 where
  inner : Closed
  found : o ≡ Some inner
  more : record { inside = m ∷ inner.inside; close = inner.close; rest = inner.rest } ≡ c

without : (m : Marked) (o : Option Closed) (c : Closed) → inside_too m o ≡ Some c → Without m o c
without m None c h = cc
without m (Some i) c h = record { inner = i; found = refl; more = cc }

module _ (m : Marked) (ms : List Marked) (later : (d : ℕ) (c : Closed) → closed ms d ≡ Some c → Found ms d c) where
  found_more : (d e : ℕ) (c : Closed) → inside_too m (closed ms e) ≡ Some c → ((b : List Marked) → Unwinds e b → Unwinds d (m ∷ b)) → Found (m ∷ ms) d c
  found_more d e c h more =
      let w = without m (closed ms e) c h in
      let f = later e w.inner w.found in
      subst (Found (m ∷ ms) d) w.more (record { tokens = ap (λ l. m ∷ l) f.tokens; matching = f.matching; unwinds = more w.inner.inside f.unwinds })

  ended : (c : Closed) → delimiter_of m.token ≡ Closes → Some (record { inside = []; close = m; rest = ms }) ≡ Some c → Found (m ∷ ms) 0 c
  ended c e h = let k : record { inside = []; close = m; rest = ms } ≡ c = cc in subst (Found (m ∷ ms) 0) k (record { tokens = refl; matching = e; unwinds = Nothing })

  found_by : (p : Delimiter) → delimiter_of m.token ≡ p → (d : ℕ) (c : Closed) → closed (m ∷ ms) d ≡ Some c → Found (m ∷ ms) d c
  found_by Inner e d c h = found_more d d c (sym (closed_is m ms d Inner e) ∙ h) (one_more m (λ b i. Plain e i) d)
  found_by Comma e d c h = found_more d d c (sym (closed_is m ms d Comma e) ∙ h) (one_more m (λ b i. Separator e i) d)
  found_by Opens e d c h =
      let k : d + 1 ≡ suc d = omega arith in
      found_more d (suc d) c (ap (λ n. inside_too m (closed ms n)) (sym k) ∙ sym (closed_is m ms d Opens e) ∙ h) (opened_more m e d)
  found_by Closes e zero c h = ended c e (sym (closed_is m ms 0 Closes e) ∙ h)
  found_by Closes e (suc d) c h =
      let k : suc d - 1 ≡ d = omega arith in
      found_more (suc d) d c (ap (λ n. inside_too m (closed ms n)) (sym k) ∙ sym (cond-false (nat_eq (suc d) 0) _ _ (zero_apart d)) ∙ sym (closed_is m ms (suc d) Closes e) ∙ h)
      (λ b u. record { first = []; closing = m; more = b; tokens = refl; balanced = Nothing; matching = e; others = u })

found : (list : List Marked) (d : ℕ) (c : Closed) → closed list d ≡ Some c → Found list d c
unfolding closed
found [] d c h = cc
found (m ∷ ms) d c h = found_by m ms (found ms) (delimiter_of m.token) refl d c h

pub call_is : (list : List Marked) (c : Closed) → closed list 0 ≡ Some c → IsCallIn list c
call_is list c h = let f = found list 0 c h in record { tokens = f.tokens; balanced = f.unwinds; matching = f.matching }

pub none_found : (list : List Marked) → ((c : Closed) → IsCallIn list c → ⊥) → closed list 0 ≡ None
none_found list never = go (closed list 0) refl
  where
    go : (o : Option Closed) → closed list 0 ≡ o → closed list 0 ≡ None
    go None e = e
    go (Some c) e = absurd (never c (call_is list c e))

pub none_there : (list : List Marked) → closed list 0 ≡ None → (c : Closed) → IsCallIn list c → ⊥
none_there list e c is = let k : closed list 0 ≡ Some c = call_found list c is in cc

-- The arguments.

split_is : (m : Marked) (ms : List Marked) (commas d : ℕ) (p : Delimiter) → delimiter_of m.token ≡ p →
    split (m ∷ ms) commas d ≡ cond (parts p commas d) ([] ∷ split ms (commas - 1) d) (to_first m (split ms commas (depth_behind p d)))
unfolding split
split_is m ms commas d p e = ap (λ q. cond (parts q commas d) ([] ∷ split ms (commas - 1) d) (to_first m (split ms commas (depth_behind q d)))) e

front_both : (a b : List Marked) (ls : List (List Marked)) → in_front (a ++ b) ls ≡ in_front a (in_front b ls)
front_both [] b ls = refl
front_both (m ∷ ms) b ls = ap (to_first m) (front_both ms b ls)

front_end : (a : List Marked) (ls : List (List Marked)) → in_front a ([] ∷ ls) ≡ a ∷ ls
front_end [] ls = refl
front_end (m ∷ ms) ls = ap (to_first m) (front_end ms ls)

inner_comma : (commas d : ℕ) → parts Comma commas (d + 1) ≡ false
inner_comma commas d = ap (λ b. b && not (nat_eq commas 0)) (deeper d)

pair_split : (opening closing : Marked) (inner after tail : List Marked) (commas d : ℕ) → delimiter_of opening.token ≡ Opens → delimiter_of closing.token ≡ Closes →
    split (inner ++ (closing ∷ after ++ tail)) commas (d + 1) ≡ in_front inner (split (closing ∷ after ++ tail) commas (d + 1)) →
    split (after ++ tail) commas d ≡ in_front after (split tail commas d) →
    split (opening ∷ ((inner ++ closing ∷ after) ++ tail)) commas d ≡ in_front (opening ∷ inner ++ closing ∷ after) (split tail commas d)
pair_split opening closing inner after tail commas d o c i a =
    let closes : split (closing ∷ after ++ tail) commas (d + 1) ≡ in_front (closing ∷ after) (split tail commas d) =
    split_is closing (after ++ tail) commas (d + 1) Closes c ∙ ap (λ n. to_first closing (split (after ++ tail) commas n)) (back d) ∙ ap (to_first closing) a in
    let same : split ((inner ++ closing ∷ after) ++ tail) commas (d + 1) ≡ split (inner ++ (closing ∷ after ++ tail)) commas (d + 1) = ap (λ l. split l commas (d + 1)) (append_assoc inner (closing ∷ after) tail) in
    let inside : split ((inner ++ closing ∷ after) ++ tail) commas (d + 1) ≡ in_front (inner ++ closing ∷ after) (split tail commas d) =
    same ∙ i ∙ ap (in_front inner) closes ∙ sym (front_both inner (closing ∷ after) (split tail commas d)) in
    split_is opening ((inner ++ closing ∷ after) ++ tail) commas d Opens o ∙ ap (to_first opening) inside

-- where no comma parts two arguments, balanced tokens stay together
balanced_split : {b : List Marked} → IsBalanced b → (tail : List Marked) (commas d : ℕ) → parts Comma commas d ≡ false → split (b ++ tail) commas d ≡ in_front b (split tail commas d)
balanced_split Nothing tail commas d q = refl
balanced_split (Plain {m} {ms} e i) tail commas d q = split_is m (ms ++ tail) commas d Inner e ∙ ap (to_first m) (balanced_split i tail commas d q)
balanced_split (Separator {m} {ms} e i) tail commas d q = split_is m (ms ++ tail) commas d Comma e ∙ cond-false (parts Comma commas d) _ _ q ∙ ap (to_first m) (balanced_split i tail commas d q)
balanced_split (Pair {opening} inner closing after o i c a) tail commas d q =
    pair_split opening closing inner after tail commas d o c (balanced_split i (closing ∷ after ++ tail) commas (d + 1) (inner_comma commas d)) (balanced_split a tail commas d q)

-- the tokens of an argument stay together
item_split : {a : List Marked} → IsItem a → (tail : List Marked) (commas : ℕ) → split (a ++ tail) commas 0 ≡ in_front a (split tail commas 0)
item_split Empty tail commas = refl
item_split (Token {m} {ms} e i) tail commas = split_is m (ms ++ tail) commas 0 Inner e ∙ ap (to_first m) (item_split i tail commas)
item_split (Group {opening} inner closing after o i c a) tail commas =
    pair_split opening closing inner after tail commas 0 o c (balanced_split i (closing ∷ after ++ tail) commas (0 + 1) (inner_comma commas 0)) (item_split a tail commas)

-- an argument and balanced tokens are balanced
item_balanced : {a b : List Marked} → IsItem a → IsBalanced b → IsBalanced (a ++ b)
item_balanced Empty r = r
item_balanced (Token e i) r = Plain e (item_balanced i r)
item_balanced {b} (Group {opening} inner closing after o i c a) r =
    subst (λ l. IsBalanced (opening ∷ l)) (sym (append_assoc inner (closing ∷ after) b)) (Pair inner closing (after ++ b) o i c (item_balanced a r))

list_balanced : (l : ArgumentList) → IsArgumentList l → IsBalanced (tokens_in l)
list_balanced (Last a) s = subst IsBalanced (append-nil a) (item_balanced s Nothing)
list_balanced (More a comma others) s = item_balanced s.0 (Separator s.1 (list_balanced others s.2))

merged_is : (l : ArgumentList) → IsArgumentList l → (n : ℕ) → split (tokens_in l) n 0 ≡ merged l n
unfolding split
merged_is (Last a) s n = ap (λ l. split l n 0) (sym (append-nil a)) ∙ item_split s [] n ∙ front_end a []
merged_is (More a comma others) s zero =
    let all = tokens_in (More a comma others) in
    ap (λ l. split l 0 0) (sym (append-nil all)) ∙ balanced_split (list_balanced (More a comma others) s) [] 0 0 refl ∙ front_end all []
merged_is (More a comma others) s (suc n) =
    let k : suc n - 1 ≡ n = omega arith in
    item_split s.0 (comma ∷ tokens_in others) (suc n)
    ∙ ap (in_front a) (split_is comma (tokens_in others) (suc n) 0 Comma s.1 ∙ cond-true (parts Comma (suc n) 0) _ _ (ap not (zero_apart n)) ∙ ap (λ j. [] ∷ split (tokens_in others) j 0) k ∙ ap (λ l. [] ∷ l) (merged_is others s.2 n))
    ∙ front_end a (merged others n)

-- as many commas as there are tokens are enough
all_merged : (l : ArgumentList) (n : ℕ) → length (tokens_in l) ≤ n → merged l n ≡ each_item l
all_merged (Last a) n h = refl
all_merged (More a comma others) zero h = let k : length (a ++ comma ∷ tokens_in others) ≡ length a + suc (length (tokens_in others)) = length-append a (comma ∷ tokens_in others) in absurd (omega (arith, k, h))
all_merged (More a comma others) (suc n) h =
    let k : length (a ++ comma ∷ tokens_in others) ≡ length a + suc (length (tokens_in others)) = length-append a (comma ∷ tokens_in others) in
    ap (λ l. a ∷ l) (all_merged others n (omega (arith, k, h)))

items_are : (d : DefValue) (l : ArgumentList) → IsArgumentList l → split (tokens_in l) (commas_of d (tokens_in l)) 0 ≡ items_for d l
items_are d l s = go d.variadic
  where
    go : (v : Bool) → split (tokens_in l) (cond v (length (named_params d)) (length (tokens_in l))) 0 ≡ cond v (merged l (length (named_params d))) (each_item l)
    go true = merged_is l s (length (named_params d))
    go false = merged_is l s (length (tokens_in l)) ∙ all_merged l (length (tokens_in l)) (omega arith)

-- balanced tokens are a list of arguments
record Listed (b : List Marked) : Type 0 where
  list : ArgumentList
  sound : IsArgumentList list
  tokens : tokens_in list ≡ b

with_front : List Marked → ArgumentList → ArgumentList
with_front xs (Last a) = Last (xs ++ a)
with_front xs (More a comma others) = More (xs ++ a) comma others

front_sound : (xs : List Marked) → ((a : List Marked) → IsItem a → IsItem (xs ++ a)) → (l : ArgumentList) → IsArgumentList l → IsArgumentList (with_front xs l)
unfolding with_front
front_sound xs h (Last a) s = h a s
front_sound xs h (More a comma others) s = (h a s.0, s.1, s.2)

front_tokens : (xs : List Marked) (l : ArgumentList) → tokens_in (with_front xs l) ≡ xs ++ tokens_in l
unfolding with_front
front_tokens xs (Last a) = refl
front_tokens xs (More a comma others) = append_assoc xs a (comma ∷ tokens_in others)

listed : {b : List Marked} → IsBalanced b → Listed b
listed Nothing = record { list = Last []; sound = Empty; tokens = refl }
listed (Plain {m} {ms} e i) =
    let r = listed i in
    record { list = with_front (m ∷ []) r.list; sound = front_sound (m ∷ []) (λ a s. Token e s) r.list r.sound; tokens = front_tokens (m ∷ []) r.list ∙ ap (λ l. m ∷ l) r.tokens }
listed (Separator {m} {ms} e i) =
    let r = listed i in
    record { list = More [] m r.list; sound = (Empty, e, r.sound); tokens = ap (λ l. m ∷ l) r.tokens }
listed (Pair {opening} inner closing after o i c a) =
    let r = listed a in
    let group : List Marked = opening ∷ inner ++ closing ∷ [] in
    let grouped = λ (x : List Marked). ap (λ l. opening ∷ l) (append_assoc inner (closing ∷ []) x) in
    record {
      list = with_front group r.list;
      sound = front_sound group (λ x s. subst IsItem (sym (grouped x)) (Group inner closing x o i c s)) r.list r.sound;
      tokens = front_tokens group r.list ∙ grouped (tokens_in r.list) ∙ ap (λ l. opening ∷ inner ++ closing ∷ l) r.tokens;
    }

module _ (d : DefValue) (inside : List Marked) (args : List (List Marked)) where
  separated_is : IsSeparated d inside args → split inside (commas_of d inside) 0 ≡ args
  separated_is is = ap (λ l. split l (commas_of d l) 0) (sym is.tokens) ∙ items_are d is.list is.sound ∙ sym is.items

  is_separated : IsBalanced inside → split inside (commas_of d inside) 0 ≡ args → IsSeparated d inside args
  is_separated b e =
      let r = listed b in
      record { list = r.list; sound = r.sound; tokens = r.tokens; items = sym e ∙ ap (λ l. split l (commas_of d l) 0) (sym r.tokens) ∙ items_are d r.list r.sound }

pub items_found : (d : DefValue) (inside : List Marked) (args : List (List Marked)) → AreArguments d inside args → arguments d inside ≡ args
items_found d inside args = go (named_params d) inside
  where
    go : (ps : List (List ℕ)) (l : List Marked) → AreArgumentsBy ps d l args → arguments_of ps (commas_of d l) l ≡ args
    go [] [] e = sym e
    go [] (m ∷ ms) is = separated_is d (m ∷ ms) args is
    go (p ∷ ps) l is = separated_is d l args is

pub items_there : (d : DefValue) (inside : List Marked) (args : List (List Marked)) → IsBalanced inside → arguments d inside ≡ args → AreArguments d inside args
items_there d inside args = go (named_params d) inside
  where
    go : (ps : List (List ℕ)) (l : List Marked) → IsBalanced l → arguments_of ps (commas_of d l) l ≡ args → AreArgumentsBy ps d l args
    go [] [] b e = sym e
    go [] (m ∷ ms) b e = is_separated d (m ∷ ms) args b e
    go (p ∷ ps) l b e = is_separated d l args b e
