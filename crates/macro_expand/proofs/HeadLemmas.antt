-- The head of the first list, as the code takes it.
use Rattle.std.proofs.Common.{◌≡◌, inl, inr, ℕ, Bool, true, false, List, ◌∷◌, Option, None, Some, Result, Ok, Err, sym, ap, ◌∙◌, subst, bytes_eq, codes}
use Rattle.std.proofs.lemmas.Bool.{cond-true, cond-false}
use Rattle.macro_table.specs.Definitions.{DefValue}
use Rattle.macro_expand.specs.declared.here.Here.{Here}
use Rattle.macro_expand.specs.Marked.{Marked, delimiter_of}
use Rattle.macro_expand.specs.Macros.{Macros}
use Rattle.std.specs.Option.{option_map, is_none}
use Rattle.macro_expand.specs.declared.rescan.parsed_macro.ParsedMacro.{ParsedMacro}
use Rattle.macro_expand.specs.ParsedMacros.{def_value, IsMeaning}
use Rattle.macro_expand.specs.Calls.{to_first, first_list, other_lists, closed}
use Rattle.macro_expand.specs.Taking.{IsHead, named_head}
use Rattle.macro_expand.specs.Slots.{Takes}
use Rattle.macro_expand.specs.declared.fault.ExpandFault.{ExpandFault}
use Rattle.macro_expand.specs.declared.rescan.head.NextHead.{NextHead}
use Rattle.macro_expand.specs.declared.rescan.head.NextHead.TheVariants as next
use Rattle.macro_expand.specs.Heads.{Head, Stays, is_opens, opens, is_kept, call_head, macro_head, name_head, seen_head, head_of}
use Rattle.macro_expand.proofs.SlotLemmas.{first_more, others_same}

pub seen_is : (macros : Macros) (here : Here) (m : Marked) (rest : List Marked) (d : DefValue) → bytes_eq m.token.text (codes "__LINE__") ≡ false → bytes_eq m.token.text (codes "__FILE__") ≡ false → macros m.token.text ≡ Some (Some d) → seen_head macros here m rest ≡ macro_head d d.params m rest
seen_is macros here m rest d l f e = rw (l, f) (ap (λ o. name_head o m rest) e)

-- the head of a list that begins with this token
pub kept_is : (macros : Macros) (here : Here) (m : Marked) (old new : List (List Marked)) → old ≡ to_first m new → is_kept m ≡ true → head_of macros here (first_list old) ≡ Stays m (first_list new)
kept_is macros here m old new e k = ap (head_of macros here) (ap first_list e ∙ first_more m new) ∙ cond-true (is_kept m) (Stays m (first_list new)) (seen_head macros here m (first_list new)) k

pub unkept_is : (macros : Macros) (here : Here) (m : Marked) (old new : List (List Marked)) → old ≡ to_first m new → is_kept m ≡ false → head_of macros here (first_list old) ≡ seen_head macros here m (first_list new)
unkept_is macros here m old new e k = ap (head_of macros here) (ap first_list e ∙ first_more m new) ∙ cond-false (is_kept m) (Stays m (first_list new)) (seen_head macros here m (first_list new)) k

pub others_are : (m : Marked) (old new : List (List Marked)) → old ≡ to_first m new → other_lists new ≡ other_lists old
others_are m old new e = sym (ap other_lists e ∙ others_same m new)

pub found_is : (macros : Macros) (k : Option ParsedMacro) (known : ParsedMacro) (def : _) (name q : List ℕ) → k ≡ Some known → known.def ≡ Some def → IsMeaning k name (macros name) → name ≡ q → macros q ≡ Some (Some def.value)
found_is macros k known def name q e d m n =
    ap macros (sym n) ∙ (subst (λ (o : Option ParsedMacro). IsMeaning o name (macros name)) e m).0 ∙ ap (λ o. Some (option_map def_value o)) d

-- a name that the token does not hide
pub named_seen : (macros : Macros) (here : Here) (m : Marked) (rest : List Marked) → m.hides m.token.text ≡ false → named_head macros here m rest ≡ seen_head macros here m rest
named_seen macros here m rest e = cond-false (m.hides m.token.text) (Stays m rest) (seen_head macros here m rest) e

-- the same head, where the lists after the first are the same
head_by : (r : Result NextHead ExpandFault) (old mid new : List (List Marked)) (h k : Head) → other_lists mid ≡ other_lists old → h ≡ k → IsHead r mid new h → IsHead r old new k
head_by (Ok next.Finished) old mid new h k others same is = (sym same ∙ is.0, is.1 ∙ others)
head_by (Ok (next.Stays x)) old mid new h k others same is = (sym same ∙ is.0, is.1 ∙ others)
head_by (Ok (next.Replaced r)) old mid new h k others same is = (sym same ∙ is.0, is.1 ∙ others)
head_by (Err fault) old mid new h k others same (inl m) = inl m
head_by (Err fault) old mid new h k others same (inr e) = inr (sym same ∙ e)

-- a call, whose parenthesis was taken
pub called_head : (d : DefValue) (o : Option (List (List ℕ))) (m : Marked) (old mid new : List (List Marked)) (next : Option Marked) (r : Result NextHead ExpandFault) →
    is_none o ≡ false → opens (first_list old) ≡ true → Takes next old mid → IsHead r mid new (call_head d m (closed (first_list mid) 0)) → IsHead r old new (macro_head d o m (first_list old))
called_head d None m old mid new next r some is_open takes is = cc
called_head d (Some params) m old mid new None r some is_open takes is = absurd (by (sym (ap opens takes.0) ∙ is_open))
  where
    by : ◌≡◌ {A = Bool} false true → ⊥
    by wrong = cc
called_head d (Some params) m old mid new (Some n) r some is_open takes is =
    let first : first_list old ≡ n ∷ first_list mid = ap first_list takes ∙ first_more n mid in
    let opening : is_opens (delimiter_of n.token) ≡ true = sym (ap opens first) ∙ is_open in
    head_by r old mid new (call_head d m (closed (first_list mid) 0)) (macro_head d (Some params) m (first_list old)) (others_are n old mid takes)
    (sym (ap (macro_head d (Some params) m) first ∙ cond-true (is_opens (delimiter_of n.token)) (call_head d m (closed (first_list mid) 0)) (Stays m (n ∷ first_list mid)) opening)) is
