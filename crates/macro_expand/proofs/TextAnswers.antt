-- What a text expands to, from the answer of the code for its list.
use Rattle.std.proofs.Common.{◌≡◌, ℕ, Bool, true, false, ◌||◌, not, List, [], ◌∷◌, map, Vec, Result, Ok, Err, ◌⊎◌, inl, inr, refl, sym, ap, ◌∙◌, subst}
use Rattle.std.specs.List.{list_any}
use Rattle.std.specs.declared.alloc.Global.{Global}
use Rattle.pp_tokens.specs.declared.token.Token.{Token}
use Rattle.macro_expand.specs.declared.hide_set.hidden_token.HiddenToken.{HiddenToken}
use Rattle.macro_expand.specs.declared.fault.ExpandFault.{ExpandFault}
use Rattle.macro_expand.specs.declared.fault.ExpandFault.TheVariants.{NoMemory, OpenCall, ArgCount, BadPaste, BadString, BadDefinition, LoneQuote, TooLong}
use Rattle.macro_expand.specs.declared.here.Here.{Here}
use Rattle.macro_expand.specs.Marked.{Marked, fresh, is_identifier}
use Rattle.macro_expand.specs.Macros.{Macros}
use Rattle.macro_expand.specs.Calls.{first_list}
use Rattle.macro_expand.specs.Expansion.{Answer, has_lone_quote, tokens_of}
use Rattle.macro_expand.specs.Rules.{Empty, Kept, Expands, Ends, Keeps, Whole, Scanned}
use Rattle.macro_expand.specs.States.{marked}
use Rattle.macro_expand.specs.Machine.{AnswersList}
use Rattle.macro_expand.specs.Answering.{IsAnswer}

pub tokens_same : (list : List HiddenToken) → map (λ (m : Marked). m.token) (map marked list) ≡ map (λ (h : HiddenToken). h.token) list
tokens_same [] = refl
tokens_same (h ∷ hs) = ap (λ l. h.token ∷ l) (tokens_same hs)

-- an answer that the rules give
pub answer_is : (R : Result (List Token) ExpandFault → Type 0) (fault : ExpandFault) → R (Err fault) → IsAnswer R (Err fault)
answer_is R NoMemory r = tt
answer_is R (OpenCall name) r = r
answer_is R (ArgCount name got) r = r
answer_is R (BadPaste left right) r = r
answer_is R (BadString name) r = r
answer_is R (BadDefinition name) r = r
answer_is R LoneQuote r = r
answer_is R TooLong r = r

pub no_memory : (R : Result (List Token) ExpandFault → Type 0) (fault : ExpandFault) → fault ≡ NoMemory → IsAnswer R (Err fault)
no_memory R fault e = subst (λ f. IsAnswer R (Err f)) (sym e) tt

-- A text from the answer for its only list, where the rules give what `go` gives.
module _ (Lists : List Marked → ℕ → Answer → Type 0) (go : List Marked → ℕ → Answer) (complete : (list : List Marked) (work : ℕ) → Lists list work (go list work))
    (tokens : List Token) (ls : List (List Marked)) (l : has_lone_quote tokens ≡ false) (s : ls ≡ map fresh tokens ∷ []) where
  scanned : (answer : Answer) → go (first_list ls) 0 ≡ answer → Whole Lists tokens (tokens_of answer)
  scanned answer e = Scanned l (subst (λ a. Lists (map fresh tokens) 0 a) (ap (λ x. go (first_list x) 0) (sym s) ∙ e) (complete (map fresh tokens) 0))

  pub exact_ok : (list : Vec HiddenToken Global) (all : List Token) → AnswersList (Ok list) (go (first_list ls) 0) → all ≡ map (λ (h : HiddenToken). h.token) list.items → Whole Lists tokens (Ok all)
  exact_ok list all a e = by (go (first_list ls) 0) refl a
    where
      by : (answer : Answer) → go (first_list ls) 0 ≡ answer → AnswersList (Ok list) answer → Whole Lists tokens (Ok all)
      by (Ok r) k m = subst (λ t. Whole Lists tokens (Ok t)) (ap (map (λ (m : Marked). m.token)) (sym m) ∙ tokens_same list.items ∙ sym e) (scanned (Ok r) k)
      by (Err fault) k m = absurd m

  pub exact_err : (fault : ExpandFault) → (fault ≡ NoMemory) ⊎ (go (first_list ls) 0 ≡ Err fault) → IsAnswer (Whole Lists tokens) (Err fault)
  exact_err fault (inl m) = no_memory (Whole Lists tokens) fault m
  exact_err fault (inr e) = answer_is (Whole Lists tokens) fault (scanned (Err fault) e)

  -- The same where the code answers tokens.
  pub exact_tokens : (all : List Token) → tokens_of (go (first_list ls) 0) ≡ Ok all → Whole Lists tokens (Ok all)
  exact_tokens all e = subst (λ r. Whole Lists tokens r) e (scanned (go (first_list ls) 0) refl)

  pub exact_fault : (fault : ExpandFault) → (fault ≡ NoMemory) ⊎ (tokens_of (go (first_list ls) 0) ≡ Err fault) → IsAnswer (Whole Lists tokens) (Err fault)
  exact_fault fault (inl m) = no_memory (Whole Lists tokens) fault m
  exact_fault fault (inr e) = answer_is (Whole Lists tokens) fault (subst (λ r. Whole Lists tokens r) e (scanned (go (first_list ls) 0) refl))

fresh_tokens : (tokens : List Token) → map (λ (m : Marked). m.token) (map fresh tokens) ≡ tokens
fresh_tokens [] = refl
fresh_tokens (t ∷ ts) = ap (λ l. t ∷ l) (fresh_tokens ts)

-- Tokens without an identifier among them stay as they are.
module _ (macros : Macros) (here : Here) where
  unnamed_by : (work : ℕ) (t : Token) (ts : List Token) (name : Bool) → is_identifier t.kind ≡ name → (name || list_any (λ (t : Token). is_identifier t.kind) ts) ≡ false →
      (list_any (λ (t : Token). is_identifier t.kind) ts ≡ false → Expands macros here (map fresh ts) work (Ok (map fresh ts, work))) →
      Expands macros here (map fresh (t ∷ ts)) work (Ok (map fresh (t ∷ ts), work))
  unnamed_by work t ts true is none rest = cc
  unnamed_by work t ts false is none rest = Keeps (Kept (ap (λ b. not b || false) is)) (rest none)

  unnamed_list : (work : ℕ) (tokens : List Token) → list_any (λ (t : Token). is_identifier t.kind) tokens ≡ false → Expands macros here (map fresh tokens) work (Ok (map fresh tokens, work))
  unnamed_list work [] none = Ends Empty
  unnamed_list work (t ∷ ts) none = unnamed_by work t ts (is_identifier t.kind) refl none (unnamed_list work ts)

  pub unnamed : (tokens : List Token) → has_lone_quote tokens ≡ false → list_any (λ (t : Token). is_identifier t.kind) tokens ≡ false → Whole (Expands macros here) tokens (Ok tokens)
  unnamed tokens l none = subst (λ ts. Whole (Expands macros here) tokens (Ok ts)) (fresh_tokens tokens) (Scanned l (unnamed_list 0 tokens none))
