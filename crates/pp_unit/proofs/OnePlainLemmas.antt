-- Want of memory is no fault of an expansion or of a condition, as the rules give them.
use Rattle.std.proofs.Common.{◌≡◌, ◌≢◌, ℕ, Bool, true, cond, not, ◌&&◌, is_some, List, [], ◌∷◌, ◌++◌, Option, None, Some, Result, Ok, Err, refl, subst}
use lib.Chars.{codes}
use Rattle.mac_base.specs.Input.{◌>>=◌}
use Rattle.pp_tokens.specs.declared.token.Token.{Token}
use Rattle.pp_tokens.specs.declared.token.Kind.{Kind}
use Rattle.pp_tokens.specs.declared.token.Kind.TheVariants.{Str}
use Rattle.macro_table.specs.Definitions.{DefValue, is_identifier, is_spelled}
use Rattle.macro_expand.specs.declared.before.Before.{Before}
use Rattle.macro_expand.specs.declared.before.Before.TheVariants.{Else, Paste, Hash}
use Rattle.macro_expand.specs.declared.here.Here.{Here}
use Rattle.macro_expand.specs.declared.fault.ExpandFault.{ExpandFault}
use Rattle.macro_expand.specs.declared.fault.ExpandFault.TheVariants.{BadString, NoMemory as ExpandRanOut}
use Rattle.macro_expand.specs.Macros.{Macros}
use Rattle.macro_expand.specs.Marked.{Names, Marked, fresh, is_hash, is_paste, one_kind}
use Rattle.macro_expand.specs.Calls.{Waiting, paste_follows}
use Rattle.macro_expand.specs.Heads.{Head, Finished, Stays, Fails, Replaced, Call}
use Rattle.macro_expand.specs.Expansion.{Answer, after, tokens_of}
use Rattle.macro_expand.specs.Substituted.{Argument, Piece, Word, Placemarker, Joins, spelled, is_str, string_of, front, word_of, with_else, find_argument, token_put, put_in, joined_as, joined, join, is_joins, pasted_on, pasted, substituted}
use Rattle.macro_expand.specs.Rules.{HasHead, Empty, Kept, Line, File, Unknown, Bad, Object, Uncalled, Open, Count, Called, Expands, Ends, Keeps, Refuses, Puts, Replaces, ArgumentFails, ListFails, TooMuch, Rescans, Arguments, NoMore, Fault, LaterFault, Next, Lone, Scanned, ExpandsTo}
use Rattle.pp_directives.specs.declared.fault.ExprFault.{ExprFault}
use Rattle.pp_directives.specs.declared.fault.ExprFault.TheVariants.{Syntax, NoMemory as ExprRanOut}
use Rattle.pp_directives.specs.Numbers.{Computed}
use Rattle.pp_directives.specs.Defined.{truth, before, resolved, after_defined, after_parenthesis, after_name}
use Rattle.pp_directives.specs.Values.{value_of, holds, IsCondition, Refused, Unspelled, Spelled}
use Rattle.pp_directives.specs.ValueLaws.{is_token_fault, is_value_fault}
use Rattle.pp_directives.proofs.SymbolLemmas.{token_fault}
use Rattle.pp_directives.proofs.TypeLemmas.{value_fault}
use Rattle.pp_unit.proofs.OneGoodLemmas.{Good, cond_good}

-- Expansions.

abbrev pub PlainExpand : ExpandFault → Type 0
PlainExpand fault = fault ≢ ExpandRanOut

abbrev PlainList : {A : Type 0} → Result A ExpandFault → Type 0
PlainList r = Good PlainExpand r

abbrev PlainHead : Head → Type 0
PlainHead (Fails fault) = PlainExpand fault
PlainHead Finished = Unit {0}
PlainHead (Stays m rest) = Unit {0}
PlainHead (Replaced c) = Unit {0}

bound : {A B : Type 0} (r : Result A ExpandFault) (f : A → Result B ExpandFault) → PlainList r → ((x : A) → PlainList (f x)) → PlainList (r >>= f)
bound (Ok x) f plain more = more x
bound (Err fault) f plain more = plain

fronted : {A : Type 0} (xs : List A) (r : Result (List A) ExpandFault) → PlainList r → PlainList (front xs r)
fronted xs (Ok ys) plain = tt
fronted xs (Err fault) plain = plain

plain_string : (macro : List ℕ) (space : Bool) (ms : List Marked) → PlainList (string_of macro space ms)
plain_string macro space ms = by (is_str (one_kind (34 ∷ spelled ms ++ 34 ∷ []))) (fresh (record { kind = Str; text = 34 ∷ spelled ms ++ 34 ∷ []; space = space }))
  where
    by : (t : Bool) (m : Marked) → PlainList (cond t (Ok m) (Err (BadString macro)))
    by t m = cond_good PlainExpand t (Ok m) (Err (BadString macro)) tt (λ e. cc)

plain_word : (macro : List ℕ) (b : Before) (next : Bool) (o : Option Argument) (t : Token) → PlainList (word_of macro b next o t)
plain_word macro (Hash space) next (Some a) t = bound (string_of macro space a.plain) (λ m. Ok (Word m ∷ [])) (plain_string macro space a.plain) (λ m. tt)
plain_word macro (Hash space) next None t = tt
plain_word macro Paste next (Some a) t = tt
plain_word macro Paste next None t = tt
plain_word macro Else next (Some a) t = tt
plain_word macro Else next None t = tt

plain_token : (macro : List ℕ) (calls : Bool) (args : List Argument) (b : Before) (next : Bool) (t : Token) → PlainList (token_put macro calls args b next t)
plain_token macro calls args b next t =
    let word : Result (List Piece × Before) ExpandFault = word_of macro b next (find_argument args t) t >>= (λ pieces. Ok (with_else pieces)) in
    cond_good PlainExpand (is_paste t) (Ok (Joins t ∷ [], Paste)) (cond (calls && is_hash t) (Ok ([], Hash t.space)) word) tt
    (cond_good PlainExpand (calls && is_hash t) (Ok ([], Hash t.space)) word tt
    (bound (word_of macro b next (find_argument args t) t) (λ pieces. Ok (with_else pieces)) (plain_word macro b next (find_argument args t) t) (λ pieces. tt)))

plain_put : (macro : List ℕ) (calls : Bool) (args : List Argument) (b : Before) (ts : List Token) → PlainList (put_in macro calls args b ts)
unfolding put_in
plain_put macro calls args b [] = tt
plain_put macro calls args b (t ∷ ts) =
    bound (token_put macro calls args b (paste_follows ts) t) (λ put. front put.0 (put_in macro calls args put.1 ts)) (plain_token macro calls args b (paste_follows ts) t)
    (λ put. fronted put.0 (put_in macro calls args put.1 ts) (plain_put macro calls args put.1 ts))

plain_as : (o : Option Kind) (a b : Marked) → PlainList (joined_as o a b)
plain_as None a b = λ e. cc
plain_as (Some kind) a b = tt

plain_joined : (a b : Marked) → PlainList (joined a b)
plain_joined a b = plain_as (one_kind (a.token.text ++ b.token.text)) a b

plain_join : (p q : Piece) → PlainList (join p q)
plain_join (Word a) (Word b) = plain_joined a b
plain_join (Word a) (Joins t) = plain_joined a (fresh t)
plain_join (Word a) (Placemarker space) = tt
plain_join (Placemarker space) (Word b) = tt
plain_join (Placemarker space) (Joins t) = tt
plain_join (Placemarker space) (Placemarker other) = tt
plain_join (Joins t) (Word b) = plain_joined (fresh t) b
plain_join (Joins t) (Joins u) = plain_joined (fresh t) (fresh u)
plain_join (Joins t) (Placemarker space) = tt

plain_pasted_on : (ps : List Piece) (p : Piece) → PlainList (pasted_on p ps)
unfolding pasted_on
plain_pasted_on [] p = tt
plain_pasted_on (o ∷ []) p = tt
plain_pasted_on (o ∷ q ∷ ps) p =
    cond_good PlainExpand (is_joins o) (join p q >>= (λ r. pasted_on r ps)) (front (p ∷ []) (pasted_on o (q ∷ ps)))
    (bound (join p q) (λ r. pasted_on r ps) (plain_join p q) (λ r. plain_pasted_on ps r))
    (fronted (p ∷ []) (pasted_on o (q ∷ ps)) (plain_pasted_on (q ∷ ps) o))

plain_pasted : (ps : List Piece) → PlainList (pasted ps)
unfolding pasted
plain_pasted [] = tt
plain_pasted (p ∷ ps) = plain_pasted_on ps p

plain_substituted : (d : DefValue) (name : List ℕ) (space : Bool) (hides : Names) (args : List Argument) → PlainList (substituted d name space hides args)
unfolding substituted
plain_substituted d name space hides args =
    bound (put_in name (is_some d.params) args Else d.body) _ (plain_put name (is_some d.params) args Else d.body)
    (λ pieces. bound (pasted pieces) _ (plain_pasted pieces) (λ joined. tt))

plain_after : (ms : List Marked) (r : Answer) → PlainList r → PlainList (after ms r)
plain_after ms (Ok r) plain = tt
plain_after ms (Err fault) plain = plain

plain_tokens : (r : Answer) → PlainList r → PlainList (tokens_of r)
plain_tokens (Ok r) plain = tt
plain_tokens (Err fault) plain = plain

module _ {macros : Macros} {here : Here} where
  plain_head : {list : List Marked} {head : Head} → HasHead macros here list head → PlainHead head
  plain_head Empty = tt
  plain_head (Kept k) = tt
  plain_head (Line k l) = tt
  plain_head (File k l f) = tt
  plain_head (Unknown n u) = tt
  plain_head (Bad n b) = λ e. cc
  plain_head (Object m o) = tt
  plain_head (Uncalled f n) = tt
  plain_head (Open f o c) = λ e. cc
  plain_head (Count f o c n) = λ e. cc
  plain_head (Called f o c n) = tt

  mutual
    plain_expands : {list : List Marked} {work : ℕ} {answer : Answer} → Expands macros here list work answer → PlainList answer
    plain_expands (Ends h) = tt
    plain_expands (Keeps {m} {answer} h e) = plain_after (m ∷ []) answer (plain_expands e)
    plain_expands (Refuses h) = plain_head h
    plain_expands (Puts h r) = plain_replaces r

    plain_replaces : {c : Call} {work : ℕ} {answer : Answer} → Replaces macros here c work answer → PlainList answer
    plain_replaces (ArgumentFails a) = plain_arguments a
    plain_replaces (ListFails {c} {args} {fault} a is) = subst PlainList is (plain_substituted c.def c.name c.space c.hides args)
    plain_replaces (TooMuch a is l) = λ e. cc
    plain_replaces (Rescans a is l e) = plain_expands e

    plain_arguments : {waiting : List Waiting} {work : ℕ} {answer : Result (List Argument × ℕ) ExpandFault} → Arguments macros here waiting work answer → PlainList answer
    plain_arguments NoMore = tt
    plain_arguments (Fault w e) = plain_expands e
    plain_arguments (LaterFault i a) = plain_arguments a
    plain_arguments (Next i a) = tt

  pub plain_text : {tokens : List Token} {answer : Result (List Token) ExpandFault} → ExpandsTo macros here tokens answer → Good PlainExpand answer
  plain_text (Lone l) = λ e. cc
  plain_text (Scanned {answer} l e) = plain_tokens answer (plain_expands e)

-- Conditions.

abbrev pub PlainExpr : ExprFault → Type 0
PlainExpr fault = fault ≢ ExprRanOut

no_token_fault : (fault : ExprFault) → is_token_fault fault ≡ true → PlainExpr fault
no_token_fault fault is e = let no : is_token_fault ExprRanOut ≡ true = subst (λ (f : ExprFault). is_token_fault f ≡ true) e is in cc

no_value_fault : (fault : ExprFault) → is_value_fault fault ≡ true → PlainExpr fault
no_value_fault fault is e = let no : is_value_fault ExprRanOut ≡ true = subst (λ (f : ExprFault). is_value_fault f ≡ true) e is in cc

plain_holds : (value : Computed) → ((fault : ExprFault) → value ≡ Err fault → PlainExpr fault) → Good PlainExpr (holds value)
plain_holds (Ok n) plain = tt
plain_holds (Err fault) plain = plain fault refl

pub plain_condition : {tokens : List Token} {answer : Result Bool ExprFault} → IsCondition tokens answer → Good PlainExpr answer
plain_condition {tokens} (Refused {fault} is) = no_token_fault fault (token_fault tokens fault is)
plain_condition (Unspelled is none) = λ e. cc
plain_condition (Spelled {t} is spells) = plain_holds (value_of t) (λ fault e. no_value_fault fault (value_fault t fault e))

-- The operator `defined`.

plain_before : (t : Token) (r : Result (List Token) ExprFault) → Good PlainExpr r → Good PlainExpr (before t r)
plain_before t (Ok ts) plain = tt
plain_before t (Err fault) plain = plain

module _ (defined : List ℕ → Bool) where
  mutual
    pub plain_resolved : (ts : List Token) → Good PlainExpr (resolved defined ts)
    plain_resolved [] = tt
    plain_resolved (t ∷ ts) =
        cond_good PlainExpr (is_spelled (codes "defined") t) (after_defined defined t ts) (before t (resolved defined ts)) (plain_defined t ts) (plain_before t (resolved defined ts) (plain_resolved ts))

    plain_defined : (t : Token) (ts : List Token) → Good PlainExpr (after_defined defined t ts)
    plain_defined t [] = λ e. cc
    plain_defined t (n ∷ ts) =
        cond_good PlainExpr (is_identifier n) (before (truth t (defined n.text)) (resolved defined ts)) (cond (is_spelled (codes "(") n) (after_parenthesis defined t ts) (Err Syntax))
        (plain_before (truth t (defined n.text)) (resolved defined ts) (plain_resolved ts))
        (cond_good PlainExpr (is_spelled (codes "(") n) (after_parenthesis defined t ts) (Err Syntax) (plain_parenthesis t ts) (λ e. cc))

    plain_parenthesis : (t : Token) (ts : List Token) → Good PlainExpr (after_parenthesis defined t ts)
    plain_parenthesis t [] = λ e. cc
    plain_parenthesis t (n ∷ ts) = cond_good PlainExpr (is_identifier n) (after_name defined t n ts) (Err Syntax) (plain_name t n ts) (λ e. cc)

    plain_name : (t n : Token) (ts : List Token) → Good PlainExpr (after_name defined t n ts)
    plain_name t n [] = λ e. cc
    plain_name t n (c ∷ ts) =
        cond_good PlainExpr (is_spelled (codes ")") c) (before (truth t (defined n.text)) (resolved defined ts)) (Err Syntax) (plain_before (truth t (defined n.text)) (resolved defined ts) (plain_resolved ts)) (λ e. cc)
