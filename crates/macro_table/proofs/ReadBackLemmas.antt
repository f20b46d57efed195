-- A definition is read back from its text.
use Rattle.std.proofs.Common.{◌≡◌, ◌≢◌, ℕ, Bool, true, false, cond, not, ◌&&◌, ◌||◌, List, [], ◌∷◌, ◌++◌, length, drop, Option, Some, None, Result, Ok, Err, refl, sym, ◌∙◌, ap, subst, append_assoc, append-nil}
use Rattle.std.specs.Option.{option_or}
use Rattle.std.specs.List.{AllByRecursion, list_any, flat_map, join_with_byte}
use Rattle.std.proofs.lemmas.Bool.{or_parts}
use lib.Chars.{codes}
use Rattle.mac_base.specs.Input.{◌>>=◌}
use Rattle.mac_base.proofs.Choices.{same_ok}
use Rattle.pp_tokens.specs.declared.token.Kind.TheVariants.{Identifier, LoneQuote}
use Rattle.pp_tokens.specs.declared.token.Token.{Token}
use Rattle.pp_tokens.specs.Cleaning.{on_line_one, first_nul}
use Rattle.pp_tokens.specs.Kinds.{same, kind_of}
use Rattle.pp_tokens.specs.Cut.{no_page}
use Rattle.pp_tokens.specs.Laws.{IsPrintable}
use Rattle.pp_tokens.proofs.AheadLemmas.{Ahead}
use Rattle.macro_table.specs.declared.fault.DefFault.{DefFault}
use Rattle.macro_table.specs.declared.fault.DefFault.TheVariants.{NoName, Reserved}
use Rattle.macro_table.specs.declared.fault.DefFault.TheVariants.{LoneQuote as QuoteInBody}
use Rattle.macro_table.specs.Definitions.{DefValue, ParamList, is_quote_kind, is_identifier, is_lone_quote, is_reserved, is_spelled, has_list, unless, where_true, name_fault, param_list, body_fault, checked, function_like, object_like, def_behind, def_of}
use Rattle.macro_table.specs.Texts.{list_words, spaced, body_text, text_of, page_of, page_tokens, tokens_unless, def_of_tokens, as_text, def_of_text}
use Rattle.macro_table.specs.DefinitionLaws.{first_spaced}
use Rattle.macro_table.proofs.AheadLemmas.{AllAhead, ahead_back}
use Rattle.macro_table.proofs.ReadingLemmas.{Reads, IsName, blank_read, body_read, name_read}
use Rattle.macro_table.proofs.ListLemmas.{IsWhole, name_ahead, no_name_is, identifier_kind, mark, name_token, open_read, NoNul, nul_append, name_nul, Listed, listed}

-- what the marks don't change
first_mark : (params : Option (List (List ℕ))) (variadic : Bool) (body : List Token) → body_fault params variadic (first_spaced body) ≡ body_fault params variadic body
first_mark None variadic [] = refl
first_mark None variadic (t ∷ []) = refl
first_mark None variadic (t ∷ u ∷ ts) = refl
first_mark (Some names) variadic [] = refl
first_mark (Some names) variadic (t ∷ []) = refl
first_mark (Some names) variadic (t ∷ u ∷ ts) = refl

abbrev behind_space : DefValue → DefValue
behind_space def = record def { body = first_spaced def.body }

unless_ok : {A : Type 0} (fault : Option DefFault) (x y : A) → unless fault x ≡ Ok y → (fault ≡ None) × (x ≡ y)
unless_ok None x y is = (refl, same_ok {E = DefFault} x y is)
unless_ok (Some f) x y is = cc

no_quote : (b : Bool) (rest : Option DefFault) → option_or (where_true b QuoteInBody) rest ≡ None → b ≡ false
no_quote true rest is = cc
no_quote false rest is = refl

not_lone : (t : Token) → is_lone_quote t ≡ false → t.kind ≢ LoneQuote
not_lone t is lone = by (is_quote_kind t.kind) (ap is_quote_kind lone) is
  where
    by : (b : Bool) → b ≡ true → b ≡ false → ⊥
    by b holds fails = cc

printable : (body : List Token) → AllByRecursion IsWhole body → list_any is_lone_quote body ≡ false → AllByRecursion IsPrintable body
printable [] all none = tt
printable (t ∷ ts) all none =
    let parts = or_parts (is_lone_quote t) _ none in
    (record { kind = all.0.kind; no_lone = not_lone t parts.0; no_nul = all.0.no_nul }, printable ts all.1 parts.1)

-- a definition that may be there, and is after white space too
record Stands (made def : DefValue) : Type 0 where
  again : checked (behind_space made) ≡ Ok (behind_space def)
  is : made ≡ def
  no_quotes : list_any is_lone_quote made.body ≡ false

checked_again : (made def : DefValue) → checked made ≡ Ok def → Stands made def
checked_again made def is =
    let parts = unless_ok (body_fault made.params made.variadic made.body) made def is in
    record {
      again = ap (λ f. unless f (behind_space made)) (first_mark made.params made.variadic made.body ∙ parts.0) ∙ ap (λ (d : DefValue). Ok (behind_space d)) parts.1;
      is = parts.1;
      no_quotes = no_quote (list_any is_lone_quote made.body) _ parts.0;
    }

-- the name

name_by : (i r : Bool) → option_or (where_true (not i) NoName) (option_or (where_true r Reserved) None) ≡ None → (i ≡ true) × (r ≡ false)
name_by true true is = cc
name_by true false is = (refl, refl)
name_by false r is = cc

no_directive : (x : List ℕ) → kind_of x ≡ Some Identifier → IsName (name_token x)
no_directive x kind u =
    ap (λ b. (b || same x (codes "%:")) && same u.text (codes "include")) (no_name_is x 35 kind refl [])
    ∙ ap (λ b. b && same u.text (codes "include")) (no_name_is x 37 kind refl (58 ∷ []))

-- tokens that a text gives are what it defines
pub defined_by : (text : List ℕ) (tokens : List Token) (def : DefValue) → first_nul (on_line_one text) ≡ None → page_tokens (page_of (length text) no_page (on_line_one text)) ≡ Ok tokens → def_of tokens ≡ Ok def → def_of_text text ≡ Ok def
defined_by text tokens def no_nul tokens_are is = ap (λ nul. def_of_tokens (tokens_unless nul text)) no_nul ∙ ap def_of_tokens tokens_are ∙ ap as_text is

-- no byte 0

mark_nul : (x : List ℕ) (b : Bool) → NoNul x → NoNul ((cond b (codes " ") []) ++ x)
mark_nul x true is = is
mark_nul x false is = is

rest_nul : (ts : List Token) → AllByRecursion IsPrintable ts → NoNul (flat_map spaced ts)
rest_nul [] all = refl
rest_nul (t ∷ ts) all = nul_append (spaced t) (flat_map spaced ts) (mark_nul t.text t.space all.0.no_nul) (rest_nul ts all.1)

body_nul : (body : List Token) → AllByRecursion IsPrintable body → NoNul (body_text body)
body_nul [] all = refl
body_nul (t ∷ ts) all = nul_append t.text (flat_map spaced ts) all.0.no_nul (rest_nul ts all.1)

-- a macro whose text gives these tokens after the name
record ReadBack (x : List ℕ) (def : DefValue) : Type 0 where
  tail : List ℕ
  text : text_of def ≡ x ++ tail
  ahead : Ahead x tail
  tokens : List Token
  read : Reads (name_token x) [] false tail tokens
  again : def_behind x tokens ≡ Ok (behind_space def)
  no_nul : NoNul tail

space_read : (x : List ℕ) (done body : List Token) → IsName (name_token x) → AllByRecursion IsPrintable body → AllAhead body → Reads (name_token x) done false (32 ∷ body_text body) (first_spaced body)
space_read x done body name all aheads = blank_read (name_token x) done false (body_text body) (first_spaced body) name (body_read (name_token x) done body name all aheads)

no_list : (body : List Token) → has_list (first_spaced body) ≡ false
no_list [] = refl
no_list (t ∷ ts) = and_false (is_spelled (codes "(") t)
  where
    and_false : (b : Bool) → (b && false) ≡ false
    and_false true = refl
    and_false false = refl

object_back : (x : List ℕ) (body : List Token) (def : DefValue) → kind_of x ≡ Some Identifier → AllByRecursion IsWhole body → AllAhead body → checked (object_like x body) ≡ Ok def → ReadBack x def
object_back x body def kind whole aheads is =
    let parts = checked_again (object_like x body) def is in
    let all = printable body whole parts.no_quotes in
    record {
      tail = 32 ∷ body_text body;
      text = ap text_of (sym parts.is) ∙ ap (λ t. t ++ codes " " ++ body_text body) (append-nil x) ∙ append_assoc x (codes " ") (body_text body);
      ahead = name_ahead x 32 (body_text body) kind refl refl;
      tokens = first_spaced body;
      read = space_read x [] body (no_directive x kind) all aheads;
      again = ap (λ b. cond b (param_list (drop 1 (first_spaced body)) >>= λ l. checked (function_like x l)) (checked (object_like x (first_spaced body)))) (no_list body) ∙ parts.again;
      no_nul = body_nul body all;
    }

function_text : (x : List ℕ) (list : ParamList) → text_of (function_like x list) ≡ x ++ 40 ∷ (join_with_byte 44 (list_words list.names list.variadic) ++ 41 ∷ 32 ∷ body_text list.behind)
function_text x list =
    let inner : List ℕ = join_with_byte 44 (list_words list.names list.variadic) in
    append_assoc (x ++ (40 ∷ inner ++ codes ")")) (codes " ") (body_text list.behind)
    ∙ append_assoc x (40 ∷ inner ++ codes ")") (32 ∷ body_text list.behind)
    ∙ ap (λ t. x ++ 40 ∷ t) (append_assoc inner (codes ")") (32 ∷ body_text list.behind))

function_back : (x : List ℕ) (ts : List Token) (list : ParamList) (def : DefValue) → kind_of x ≡ Some Identifier → Listed ts list → AllByRecursion IsWhole list.behind → AllAhead list.behind → checked (function_like x list) ≡ Ok def → ReadBack x def
function_back x ts list def kind listed whole aheads is =
    let parts = checked_again (function_like x list) def is in
    let all = printable list.behind whole parts.no_quotes in
    let name = no_directive x kind in
    let rest : List ℕ = 32 ∷ body_text list.behind in
    let inner : List ℕ = join_with_byte 44 (list_words list.names list.variadic) ++ 41 ∷ rest in
    let body : List Token = first_spaced list.behind in
    record {
      tail = 40 ∷ inner;
      text = ap text_of (sym parts.is) ∙ function_text x list;
      ahead = name_ahead x 40 inner kind refl refl;
      tokens = mark (codes "(") ∷ (listed.toks ++ body);
      read = open_read (name_token x) [] inner (listed.toks ++ body) name (λ late. listed.read (name_token x) late rest body name (λ later. space_read x later list.behind name all aheads));
      again = ap (λ r. r >>= λ l. checked (function_like x l)) (listed.parse body) ∙ parts.again;
      no_nul = nul_append (join_with_byte 44 (list_words list.names list.variadic)) (41 ∷ rest) listed.no_nul (body_nul list.behind all);
    }

whole_back : (front ts : List Token) → AllByRecursion IsWhole (front ++ ts) → AllByRecursion IsWhole ts
whole_back [] ts all = all
whole_back (t ∷ front) ts all = whole_back front ts all.1

list_by : (x : List ℕ) (ts : List Token) (def : DefValue) (result : Result ParamList DefFault) → kind_of x ≡ Some Identifier → AllByRecursion IsWhole ts → AllAhead ts → param_list ts ≡ result → (result >>= λ list. checked (function_like x list)) ≡ Ok def → ReadBack x def
list_by x ts def (Err f) kind all aheads read is = cc
list_by x ts def (Ok list) kind all aheads read is =
    let found = listed ts list all read in
    let back = found.ends in
    function_back x ts list def kind found
    (whole_back back.0 list.behind (subst (AllByRecursion IsWhole) back.1 all))
    (ahead_back back.0 list.behind (subst AllAhead back.1 aheads)) is

behind_by : (x : List ℕ) (ts : List Token) (def : DefValue) (has : Bool) → kind_of x ≡ Some Identifier → AllByRecursion IsWhole ts → AllAhead ts →
    cond has (param_list (drop 1 ts) >>= λ list. checked (function_like x list)) (checked (object_like x ts)) ≡ Ok def → ReadBack x def
behind_by x [] def true kind all aheads is = cc
behind_by x (t ∷ ts) def true kind all aheads is = list_by x ts def (param_list ts) kind all.1 aheads.1 refl is
behind_by x ts def false kind all aheads is = object_back x ts def kind all aheads is

-- the whole text

name_again : (x : List ℕ) → is_reserved (name_token x) ≡ false → name_fault (name_token x) ≡ None
name_again x is = ap (λ r. option_or (where_true r Reserved) None) is

read_by : (t : Token) (ts : List Token) (def : DefValue) (fault : Option DefFault) → IsWhole t → AllByRecursion IsWhole ts → AllAhead ts → name_fault t ≡ fault → (unless fault t >>= λ name. def_behind name.text ts) ≡ Ok def → def_of_text (text_of def) ≡ Ok (behind_space def)
read_by t ts def (Some f) first all aheads fine is = cc
read_by t ts def None first all aheads fine is =
    let name = name_by (is_identifier t) (is_reserved t) fine in
    let kind : kind_of t.text ≡ Some Identifier = identifier_kind t first.kind name.0 in
    let back = behind_by t.text ts def (has_list ts) kind all aheads is in
    let tokens = name_read (name_token t.text) back.tail back.tokens refl kind back.ahead back.read in
    let again : def_of (name_token t.text ∷ back.tokens) ≡ Ok (behind_space def) = ap (λ f. unless f (name_token t.text) >>= λ name. def_behind name.text back.tokens) (name_again t.text name.1) ∙ back.again in
    ap def_of_text back.text ∙ defined_by (t.text ++ back.tail) (name_token t.text ∷ back.tokens) (behind_space def) (nul_append t.text back.tail (name_nul t.text kind) back.no_nul) tokens again

-- tokens between which nothing goes on
pub read_back : (tokens : List Token) (def : DefValue) → AllByRecursion IsWhole tokens → AllAhead tokens → def_of tokens ≡ Ok def → def_of_text (text_of def) ≡ Ok (behind_space def)
read_back [] def all aheads is = cc
read_back (t ∷ ts) def all aheads is = read_by t ts def (name_fault t) all.0 all.1 aheads.1 refl is
