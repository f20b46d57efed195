-- The rules on the first token of a list give exactly its head.
use Rattle.std.proofs.Common.{◌≡◌, ℕ, true, false, cond, List, [], ◌∷◌, length, Option, Some, None, refl, ap, ◌∙◌, bytes_eq, codes}
use Rattle.std.proofs.lemmas.Bool.{cond_both, cond-true, cond-false}
use Rattle.macro_expand.specs.declared.here.Here.{Here}
use Rattle.macro_expand.specs.declared.fault.ExpandFault.TheVariants.{ArgCount}
use Rattle.macro_expand.specs.Marked.{Marked, delimiter_of}
use Rattle.macro_table.specs.Definitions.{DefValue}
use Rattle.macro_expand.specs.Macros.{Macros}
use Rattle.macro_expand.specs.Calls.{Closed, closed, arguments, fits}
use Rattle.macro_expand.specs.Heads.{Head, Stays, Replaced, Fails, line_token, file_token, function_call, call_head, is_opens, macro_head, name_head, seen_head, is_kept, head_of}
use Rattle.macro_expand.specs.Rules.{IsName, IsMacro, IsFunction, NoParenthesis, HasHead, Empty, Kept, Line, File, Unknown, Bad, Object, Uncalled, Open, Count, Called}

module _ (macros : Macros) (here : Here) where
  seen_case : (m : Marked) (rest : List Marked) → is_kept m ≡ false → head_of macros here (m ∷ rest) ≡ seen_head macros here m rest
  seen_case m rest h = cond-false (is_kept m) (Stays m rest) (seen_head macros here m rest) h

  name_case : (m : Marked) (rest : List Marked) → IsName m → head_of macros here (m ∷ rest) ≡ name_head (macros m.token.text) m rest
  name_case m rest h = seen_case m rest h.seen ∙ rw (h.not_line, h.not_file) refl

  name_is : (m : Marked) (rest : List Marked) (o : Option (Option DefValue)) → IsName m → macros m.token.text ≡ o → head_of macros here (m ∷ rest) ≡ name_head o m rest
  name_is m rest o h e = name_case m rest h ∙ ap (λ o. name_head o m rest) e

  macro_is : (m : Marked) (d : DefValue) (rest : List Marked) (o : Option (List (List ℕ))) → IsMacro macros m d → d.params ≡ o → head_of macros here (m ∷ rest) ≡ macro_head d o m rest
  macro_is m d rest o h e = name_is m rest (Some (Some d)) h.name h.found ∙ ap (λ o. macro_head d o m rest) e

  uncalled : (d : DefValue) (names : List (List ℕ)) (m : Marked) (rest : List Marked) → NoParenthesis rest → macro_head d (Some names) m rest ≡ Stays m rest
  uncalled d names m [] h = refl
  uncalled d names m (n ∷ ns) h = cond-false (is_opens (delimiter_of n.token)) (call_head d m (closed ns 0)) (Stays m (n ∷ ns)) h

  called : (m n : Marked) (rest : List Marked) (d : DefValue) (c : Option Closed) → IsFunction macros m d → is_opens (delimiter_of n.token) ≡ true → closed rest 0 ≡ c → head_of macros here (m ∷ n ∷ rest) ≡ call_head d m c
  called m n rest d c f p k =
      macro_is m d (n ∷ rest) (Some f.names) f.macro f.params
      ∙ cond-true (is_opens (delimiter_of n.token)) (call_head d m (closed rest 0)) (Stays m (n ∷ rest)) p ∙ ap (call_head d m) k

  -- a head that the rules give is the head
  pub head_only : {list : List Marked} {head : Head} → HasHead macros here list head → head_of macros here list ≡ head
  head_only Empty = refl
  head_only (Kept {m} {rest} h) = cond-true (is_kept m) (Stays m rest) (seen_head macros here m rest) h
  head_only (Line {m} {rest} k l) = seen_case m rest k ∙ rw l refl
  head_only (File {m} {rest} k l f) = seen_case m rest k ∙ rw (l, f) refl
  head_only (Unknown {m} {rest} n e) = name_is m rest None n e
  head_only (Bad {m} {rest} n e) = name_is m rest (Some None) n e
  head_only (Object {m} {rest} {d} h p) = macro_is m d rest None h p
  head_only (Uncalled {m} {rest} {d} f h) = macro_is m d rest (Some f.names) f.macro f.params ∙ uncalled d f.names m rest h
  head_only (Open {m} {n} {rest} {d} f p k) = called m n rest d None f p k
  head_only (Count {m} {n} {rest} {d} {c} f p k h) = called m n rest d (Some c) f p k ∙ cond-false (fits d (length (arguments d c.inside))) (Replaced (function_call d m c)) (Fails (ArgCount m.token.text (length (arguments d c.inside)))) h
  head_only (Called {m} {n} {rest} {d} {c} f p k h) = called m n rest d (Some c) f p k ∙ cond-true (fits d (length (arguments d c.inside))) (Replaced (function_call d m c)) (Fails (ArgCount m.token.text (length (arguments d c.inside)))) h

  module _ (m : Marked) (d : DefValue) (i : IsMacro macros m d) where
    call_ruled : (f : IsFunction macros m d) (n : Marked) (ns : List Marked) → is_opens (delimiter_of n.token) ≡ true → (o : Option Closed) → closed ns 0 ≡ o → HasHead macros here (m ∷ n ∷ ns) (call_head d m o)
    call_ruled f n ns q None k = Open f q k
    call_ruled f n ns q (Some c) k =
        cond_both (fits d (length (arguments d c.inside))) (Replaced (function_call d m c)) (Fails (ArgCount m.token.text (length (arguments d c.inside)))) (HasHead macros here (m ∷ n ∷ ns))
        (λ h. Called f q k h) (λ h. Count f q k h)

    macro_ruled : (rest : List Marked) (o : Option (List (List ℕ))) → d.params ≡ o → HasHead macros here (m ∷ rest) (macro_head d o m rest)
    macro_ruled rest None e = Object i e
    macro_ruled [] (Some names) e = Uncalled (record { macro = i; names = names; params = e }) tt
    macro_ruled (n ∷ ns) (Some names) e =
        let f : IsFunction macros m d = record { macro = i; names = names; params = e } in
        cond_both (is_opens (delimiter_of n.token)) (call_head d m (closed ns 0)) (Stays m (n ∷ ns)) (HasHead macros here (m ∷ n ∷ ns))
        (λ o. call_ruled f n ns o (closed ns 0) refl) (λ o. Uncalled f o)

  name_ruled : (m : Marked) → IsName m → (rest : List Marked) (o : Option (Option DefValue)) → macros m.token.text ≡ o → HasHead macros here (m ∷ rest) (name_head o m rest)
  name_ruled m i rest None e = Unknown i e
  name_ruled m i rest (Some None) e = Bad i e
  name_ruled m i rest (Some (Some d)) e = macro_ruled m d (record { name = i; found = e }) rest d.params refl

  seen_ruled : (m : Marked) (rest : List Marked) → is_kept m ≡ false → HasHead macros here (m ∷ rest) (seen_head macros here m rest)
  seen_ruled m rest k =
      let name : Head = name_head (macros m.token.text) m rest in
      let file : Head = cond (bytes_eq m.token.text (codes "__FILE__")) (Stays (file_token here m) rest) name in
      cond_both (bytes_eq m.token.text (codes "__LINE__")) (Stays (line_token here m) rest) file (HasHead macros here (m ∷ rest)) (λ a. Line k a)
      (λ a. cond_both (bytes_eq m.token.text (codes "__FILE__")) (Stays (file_token here m) rest) name (HasHead macros here (m ∷ rest)) (λ b. File k a b)
      (λ b. name_ruled m (record { seen = k; not_line = a; not_file = b }) rest (macros m.token.text) refl))

  -- the rules give the head
  pub head_ruled : (list : List Marked) → HasHead macros here list (head_of macros here list)
  head_ruled [] = Empty
  head_ruled (m ∷ rest) = cond_both (is_kept m) (Stays m rest) (seen_head macros here m rest) (HasHead macros here (m ∷ rest)) (λ k. Kept k) (λ k. seen_ruled m rest k)
