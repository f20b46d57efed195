-- Want of memory is no fault of tokens or of a text.
use Rattle.std.proofs.Common.{ℕ, zero, suc, Bool, true, false, cond, not, ◌&&◌, ◌||◌, List, [], ◌∷◌, ◌++◌, length, take, drop, Option, Some, None, Result, Ok, Err, ◌≡◌, ◌∙◌, sym, subst}
use Rattle.std.specs.List.{list_any}
use lib.Chars.{codes}
use Rattle.mac_base.specs.Input.{◌>>=◌}
use Rattle.pp_tokens.specs.declared.piece.PieceKind.{PieceKind}
use Rattle.pp_tokens.specs.declared.token.Token.{Token}
use Rattle.pp_tokens.specs.declared.fault.LexFault.{LexFault}
use Rattle.pp_tokens.specs.declared.fault.LexFault.TheVariants.{NulByte, OpenComment}
use Rattle.pp_tokens.specs.declared.fault.LexFault.TheVariants.{NoMemory as LexRanOut}
use Rattle.pp_tokens.specs.Cleaning.{Char, bytes_of, on_line_one, first_nul}
use Rattle.pp_tokens.specs.Kinds.{same}
use Rattle.pp_tokens.specs.Cut.{LinesSoFar, no_page, put, piece_at, header_may_stand, LexesText}
use Rattle.pp_tokens.specs.Laws.{IsAnswer}
use Rattle.pp_tokens.proofs.ExistLemmas.{text-lexed}
use Rattle.macro_table.specs.declared.fault.DefFault.{DefFault}
use Rattle.macro_table.specs.declared.fault.DefFault.TheVariants.{NoName, Reserved, ParamSyntax, RepeatedParam, VaArgs, LoneQuote, EdgePaste, LoneHash, NoMemory}
use Rattle.macro_table.specs.declared.fault.TextFault.{TextFault}
use Rattle.macro_table.specs.declared.fault.TextFault.TheVariants.{Lex, Def}
use Rattle.macro_table.specs.declared.fault.TextFault.TheVariants.{NoMemory as RanOut}
use Rattle.macro_table.specs.Definitions.{DefValue, ParamList, is_identifier, is_lone_quote, is_spelled, is_va_args, is_paste, is_reserved, has_list, where_true, first_of, unless, param_fault, params_from, param_list, first_passes, last_passes, breaks_hash_rule, body_fault, checked, name_fault, function_like, object_like, def_behind, def_of}
use Rattle.macro_table.specs.Texts.{page_behind, page_of, page_tokens, tokens_unless, tokens_of, as_text, def_of_tokens, def_of_text}
use Rattle.macro_table.specs.DefinitionLaws.{TokensAreLexed, FaultsArePlain}
use Rattle.macro_table.proofs.TextLemmas.{tokens_given, fault_given}

-- a fault other than want of memory
abbrev IsPlain : DefFault → Type 0
IsPlain NoName = Unit {0}
IsPlain Reserved = Unit {0}
IsPlain ParamSyntax = Unit {0}
IsPlain RepeatedParam = Unit {0}
IsPlain VaArgs = Unit {0}
IsPlain LoneQuote = Unit {0}
IsPlain EdgePaste = Unit {0}
IsPlain LoneHash = Unit {0}
IsPlain NoMemory = ⊥

abbrev PlainIf : Option DefFault → Type 0
PlainIf None = Unit {0}
PlainIf (Some fault) = IsPlain fault

abbrev Plain : {A : Type 0} → Result A DefFault → Type 0
Plain (Ok x) = Unit {0}
Plain (Err fault) = IsPlain fault

-- the tests of a name, of a parameter and of a replacement list
name_tests : (a b : Bool) → PlainIf (first_of (where_true a NoName ∷ where_true b Reserved ∷ []))
name_tests true b = tt
name_tests false true = tt
name_tests false false = tt

param_tests : (a b c : Bool) → PlainIf (first_of (where_true a ParamSyntax ∷ where_true b VaArgs ∷ where_true c RepeatedParam ∷ []))
param_tests true b c = tt
param_tests false true c = tt
param_tests false false true = tt
param_tests false false false = tt

body_tests : (a b c d : Bool) → PlainIf (first_of (where_true a LoneQuote ∷ where_true b VaArgs ∷ where_true c EdgePaste ∷ where_true d LoneHash ∷ []))
body_tests true b c d = tt
body_tests false true c d = tt
body_tests false false true d = tt
body_tests false false false true = tt
body_tests false false false false = tt

plain_unless : {A : Type 0} (fault : Option DefFault) (x : A) → PlainIf fault → Plain (unless fault x)
plain_unless None x plain = tt
plain_unless (Some fault) x plain = plain

plain_bind : {A B : Type 0} (r : Result A DefFault) (f : A → Result B DefFault) → Plain r → ((x : A) → Plain (f x)) → Plain (r >>= f)
plain_bind (Ok x) f plain more = more x
plain_bind (Err fault) f plain more = plain

plain_cond : {A : Type 0} (b : Bool) (x y : Result A DefFault) → Plain x → Plain y → Plain (cond b x y)
plain_cond true x y first second = first
plain_cond false x y first second = second

plain_param : (before : List (List ℕ)) (t : Token) → PlainIf (param_fault before t)
plain_param before t = param_tests (not (is_identifier t)) (is_va_args t) (list_any (same t.text) before)

one_more : (dots comma close : Bool) (fault : Option DefFault) (list : ParamList) (names : List (List ℕ)) (next : List (List ℕ) → Result ParamList DefFault) (last : List (List ℕ) → ParamList) → PlainIf fault → ((ns : List (List ℕ)) → Plain (next ns)) →
    Plain (cond dots (cond close (Ok list) (Err ParamSyntax)) (unless fault names >>= λ ns. cond comma (next ns) (cond close (Ok (last ns)) (Err ParamSyntax))))
one_more true comma true fault list names next last plain inner = tt
one_more true comma false fault list names next last plain inner = tt
one_more false comma close (Some f) list names next last plain inner = plain
one_more false true close None list names next last plain inner = inner names
one_more false false true None list names next last plain inner = tt
one_more false false false None list names next last plain inner = tt

plain_params : (before : List (List ℕ)) (ts : List Token) → Plain (params_from before ts)
plain_params before [] = tt
plain_params before (t ∷ []) = plain_bind (unless (param_fault before t) before) (λ _. Err ParamSyntax) (plain_unless (param_fault before t) before (plain_param before t)) (λ _. tt)
plain_params before (t ∷ u ∷ ts) =
    one_more (is_spelled (codes "...") t) (is_spelled (codes ",") u) (is_spelled (codes ")") u) (param_fault before t) (record { names = before; variadic = true; behind = ts }) (before ++ t.text ∷ [])
    (λ names. params_from names ts) (λ names. record { names = names; variadic = false; behind = ts }) (plain_param before t) (λ names. plain_params names ts)

list_by : (close : Bool) (list : ParamList) (rest : Result ParamList DefFault) → Plain rest → Plain (cond close (cond close (Ok list) (Err ParamSyntax)) rest)
list_by true list rest plain = tt
list_by false list rest plain = plain

plain_list : (ts : List Token) → Plain (param_list ts)
plain_list [] = tt
plain_list (t ∷ ts) = list_by (is_spelled (codes ")") t) (record { names = []; variadic = false; behind = ts }) (params_from [] (t ∷ ts)) (plain_params [] (t ∷ ts))

plain_checked : (def : DefValue) → Plain (checked def)
plain_checked def =
    plain_unless (body_fault def.params def.variadic def.body) def
    (body_tests (list_any is_lone_quote def.body) (not def.variadic && list_any is_va_args def.body) (first_passes is_paste def.body || last_passes is_paste def.body) (breaks_hash_rule def.params def.variadic def.body))

plain_behind : (name : List ℕ) (ts : List Token) → Plain (def_behind name ts)
plain_behind name ts =
    plain_cond (has_list ts) (param_list (drop 1 ts) >>= λ list. checked (function_like name list)) (checked (object_like name ts))
    (plain_bind (param_list (drop 1 ts)) (λ list. checked (function_like name list)) (plain_list (drop 1 ts)) (λ list. plain_checked (function_like name list)))
    (plain_checked (object_like name ts))

plain_def : (ts : List Token) → Plain (def_of ts)
plain_def [] = tt
plain_def (t ∷ ts) = plain_bind (unless (name_fault t) t) (λ name. def_behind name.text ts) (plain_unless (name_fault t) t (name_tests (not (is_identifier t)) (is_reserved t))) (λ name. plain_behind name.text ts)

-- the same of a text
abbrev PlainText : Result DefValue TextFault → Type 0
PlainText (Ok def) = Unit {0}
PlainText (Err (Lex (NulByte line))) = Unit {0}
PlainText (Err (Lex (OpenComment line))) = Unit {0}
PlainText (Err (Lex LexRanOut)) = ⊥
PlainText (Err (Def fault)) = IsPlain fault
PlainText (Err RanOut) = ⊥

plain_as : (r : Result DefValue DefFault) → Plain r → PlainText (as_text r)
plain_as (Ok def) plain = tt
plain_as (Err fault) plain = plain

plain_tokens : (r : Result (List Token) LexFault) → IsAnswer r → PlainText (def_of_tokens r)
plain_tokens (Ok ts) answer = plain_as (def_of ts) (plain_def ts)
plain_tokens (Err (NulByte line)) answer = tt
plain_tokens (Err (OpenComment line)) answer = tt
plain_tokens (Err LexRanOut) answer = answer

page_answer : (r : Result LinesSoFar LexFault) → IsAnswer r → IsAnswer (page_tokens r)
page_answer (Ok page) answer = tt
page_answer (Err (NulByte line)) answer = tt
page_answer (Err (OpenComment line)) answer = tt
page_answer (Err LexRanOut) answer = answer

behind_answer : (rest : LinesSoFar → List Char → Result LinesSoFar LexFault) (page : LinesSoFar) (chars : List Char) (piece : Option (PieceKind × ℕ)) → ((p : LinesSoFar) (cs : List Char) → IsAnswer (rest p cs)) → IsAnswer (page_behind rest page chars piece)
behind_answer rest page chars None answers = tt
behind_answer rest page chars (Some piece) answers = answers (put page piece.0 (take piece.1 chars)) (drop piece.1 chars)

answered : (n : ℕ) (page : LinesSoFar) (chars : List Char) → IsAnswer (page_of n page chars)
answered zero page chars = tt
answered (suc n) page [] = tt
answered (suc n) page (c ∷ cs) = behind_answer (page_of n) page (c ∷ cs) (piece_at false (header_may_stand page.tokens) (bytes_of (c ∷ cs))) (answered n)

unless_answer : (nul : Option ℕ) (text : List ℕ) → IsAnswer (tokens_unless nul text)
unless_answer (Some line) text = tt
unless_answer None text = page_answer (page_of (length text) no_page (on_line_one text)) (answered (length text) no_page (on_line_one text))

plain_text : (text : List ℕ) → PlainText (def_of_text text)
plain_text text = plain_tokens (tokens_of text) (unless_answer (first_nul (on_line_one text)) text)

pub faults_are_plain : FaultsArePlain
faults_are_plain = record {
  tokens = λ ts is. subst Plain is (plain_def ts);
  lexing = λ text is. subst PlainText is (plain_text text);
  defining = λ text is. subst PlainText is (plain_text text);
  text = λ text is. subst PlainText is (plain_text text);
}

-- what phase 3 gives

given : (text : List ℕ) (answer : Result (List Token) LexFault) → IsAnswer answer → LexesText text answer → tokens_of text ≡ answer
given text (Ok tokens) answer lexes = tokens_given text tokens lexes
given text (Err fault) answer lexes = fault_given text fault answer lexes

pub tokens_are_lexed : TokensAreLexed
tokens_are_lexed = record {
  plain = λ text. unless_answer (first_nul (on_line_one text)) text;
  exactly = λ text answer plain. (
    (λ is. let one = text-lexed text in subst (LexesText text) (sym (given text one.answer one.plain one.said) ∙ is) one.said),
    given text answer plain,
  );
}
