-- What a text comes to, from what phase 3 says of it.
use Rattle.std.proofs.Common.{◌≡◌, ℕ, ◌+◌, ◌≤◌, Bool, true, false, List, [], ◌∷◌, length, drop, zero, suc, Option, Some, None, Ok, Err, inl, inr, refl, sym, ◌∙◌, ap, subst, arith, length-drop, eqb, ◌&&◌}
use Rattle.std.specs.Option.{option_map}
use borrow.Author.Tests.{eqb-true}
use Rattle.std.proofs.lemmas.List.{length-map}
use Rattle.pp_tokens.specs.declared.piece.PieceKind.{PieceKind}
use Rattle.pp_tokens.specs.declared.piece.PieceKind.TheVariants.{Comment}
use Rattle.pp_tokens.specs.declared.token.Token.{Token}
use Rattle.pp_tokens.specs.declared.fault.LexFault.{LexFault}
use Rattle.pp_tokens.specs.declared.fault.LexFault.TheVariants.{NulByte, OpenComment}
use Rattle.pp_tokens.specs.declared.fault.LexFault.TheVariants.{NoMemory as LexRanOut}
use Rattle.pp_tokens.specs.Cleaning.{Char, bytes_of, on_line_one}
use Rattle.pp_tokens.specs.Cut.{LinesSoFar, Piece, no_page, put, put_all, piece_at, header_may_stand, line_of, IsCut, IsOpen, LexesText, up_to_close}
use Rattle.pp_tokens.specs.Laws.{IsAnswer}
use Rattle.pp_tokens.proofs.UniqueLemmas.{head_of, open_end}
use Rattle.pp_tokens.proofs.ScanLemmas.{piece-fits}
use Rattle.macro_table.specs.declared.fault.DefFault.{DefFault}
use Rattle.macro_table.specs.declared.fault.DefFault.TheVariants.{NoName, Reserved, ParamSyntax, RepeatedParam, VaArgs, LoneQuote, EdgePaste, LoneHash}
use Rattle.macro_table.specs.declared.fault.DefFault.TheVariants.{NoMemory as DefRanOut}
use Rattle.macro_table.specs.declared.fault.TextFault.TheVariants.{Def}
use Rattle.macro_table.specs.declared.fault.TextFault.TheVariants.{NoMemory as RanOut}
use Rattle.mac_base.specs.Answers.{IsFaultOf}
use Rattle.macro_table.specs.Faults.{lex_fault, def_fault}
use Rattle.macro_table.specs.Definitions.{DefValue, def_of}
use Rattle.macro_table.specs.Texts.{page_behind, page_of, page_tokens, tokens_unless, tokens_of, as_text, def_of_tokens, def_of_text}

-- so many pieces may be left after some pieces of a text
record Left (n : ℕ) (page : LinesSoFar) (chars : List Char) (final : LinesSoFar) (rest : List Char) : Type 0 where
  count : ℕ
  enough : length rest ≤ count
  same : page_of n page chars ≡ page_of count final rest

no_piece : (o : Option (PieceKind × ℕ)) (x : PieceKind × ℕ) → o ≡ Some x → o ≡ None → ⊥
no_piece o x some none = cc

behind_pieces : (n : ℕ) (page : LinesSoFar) (chars : List Char) (pieces : List Piece) (rest : List Char) → IsCut false page chars pieces rest → length chars ≤ n → Left n page chars (put_all page pieces) rest
behind_pieces n page chars [] rest cut enough =
    record { count = n; enough = subst (λ (cs : List Char). length cs ≤ n) cut.whole enough; same = ap (page_of n page) cut.whole }
behind_pieces n page [] (p ∷ ps) rest cut enough =
    absurd (no_piece _ _ (head_of false page [] p ps rest cut).stands refl)
behind_pieces zero page (c ∷ cs) (p ∷ ps) rest cut enough = absurd (omega arith)
behind_pieces (suc n) page (c ∷ cs) (p ∷ ps) rest cut enough =
    let head = head_of false page (c ∷ cs) p ps rest cut in
    let fits = piece-fits false (header_may_stand page.tokens) (c ∷ cs) p.what (length p.chars) head.stands in
    let fewer : length (drop (length p.chars) (c ∷ cs)) ≤ n = rw length-drop (omega arith) in
    let left = behind_pieces n (put page p.what p.chars) (drop (length p.chars) (c ∷ cs)) ps rest head.behind fewer in
    record {
      count = left.count;
      enough = left.enough;
      same =
          ap (page_behind (page_of n) page (c ∷ cs)) head.stands
          ∙ ap (λ (front : List Char). page_of n (put page p.what front) (drop (length p.chars) (c ∷ cs))) (sym head.front) ∙ left.same;
    }

at_end : (n : ℕ) (page : LinesSoFar) → page_of n page [] ≡ Ok page
at_end zero page = refl
at_end (suc n) page = refl

-- no piece is where a comment is not closed
at_open : (n : ℕ) (page : LinesSoFar) (rest : List Char) → IsOpen (bytes_of rest) → length rest ≤ n → page_of n page rest ≡ Err (OpenComment (line_of rest))
at_open n page [] open_here enough = absurd (no_open open_here.0)
  where
    no_open : false ≡ true → ⊥
    no_open is = cc
at_open zero page (c ∷ cs) open_here enough = absurd (omega arith)
at_open (suc n) page (c ∷ cs) open_here enough = ap (page_behind (page_of n) page (c ∷ cs)) (open_end false (header_may_stand page.tokens) (bytes_of (c ∷ cs)) open_here)

long : (text : List ℕ) → length (on_line_one text) ≤ length text
long text = subst (λ n. n ≤ length text) (sym (length-map {B = Char} text (λ b. record { byte = b; line = 1 }))) (omega arith)

-- the tokens that lexing gives are those of the text
pub tokens_given : (text : List ℕ) (tokens : List Token) → LexesText text (Ok tokens) → tokens_of text ≡ Ok tokens
tokens_given text tokens (no_nul, page, (pieces, cut, made), are) =
    let left = behind_pieces (length text) no_page (on_line_one text) pieces [] cut (long text) in
    ap (λ nul. tokens_unless nul text) no_nul ∙ ap page_tokens (left.same ∙ at_end left.count (put_all no_page pieces)) ∙ ap (λ (p : LinesSoFar). Ok p.tokens) (sym made) ∙ ap Ok (sym are)

-- so is its fault, but for want of memory
pub fault_given : (text : List ℕ) (fault : LexFault) → IsAnswer {A = List Token} (Err fault) → LexesText text (Err fault) → tokens_of text ≡ Err fault
fault_given text (NulByte line) answer is = ap (λ nul. tokens_unless nul text) is
fault_given text (OpenComment line) answer (no_nul, (pieces, rest, cut, open_here, line_is)) =
    let left = behind_pieces (length text) no_page (on_line_one text) pieces rest cut (long text) in
    ap (λ nul. tokens_unless nul text) no_nul ∙ ap page_tokens (left.same ∙ at_open left.count (put_all no_page pieces) rest open_here left.enough) ∙ ap (λ n. Err (OpenComment n)) (sym line_is)
fault_given text LexRanOut answer is = absurd answer

-- a text without tokens
pub lex_stops : (text : List ℕ) (fault : LexFault) → LexesText text (Err fault) → IsFaultOf RanOut (def_of_text text) (lex_fault fault)
lex_stops text (NulByte line) is = inr (ap def_of_tokens (fault_given text (NulByte line) tt is))
lex_stops text (OpenComment line) is = inr (ap def_of_tokens (fault_given text (OpenComment line) tt is))
lex_stops text LexRanOut is = inl refl

-- a text whose tokens are a definition
pub def_given : (text : List ℕ) (tokens : List Token) (def : DefValue) → LexesText text (Ok tokens) → def_of tokens ≡ Ok def → def_of_text text ≡ Ok def
def_given text tokens def lexes is = ap def_of_tokens (tokens_given text tokens lexes) ∙ ap as_text is

fault_stays : (text : List ℕ) (fault : DefFault) → def_of_text text ≡ Err (Def fault) → IsFaultOf RanOut (def_of_text text) (def_fault fault)
fault_stays text NoName is = inr is
fault_stays text Reserved is = inr is
fault_stays text ParamSyntax is = inr is
fault_stays text RepeatedParam is = inr is
fault_stays text VaArgs is = inr is
fault_stays text LoneQuote is = inr is
fault_stays text EdgePaste is = inr is
fault_stays text LoneHash is = inr is
fault_stays text DefRanOut is = inl refl

-- a text whose tokens are none
pub def_stops : (text : List ℕ) (tokens : List Token) (fault : DefFault) → LexesText text (Ok tokens) → IsFaultOf DefRanOut (def_of tokens) fault → IsFaultOf RanOut (def_of_text text) (def_fault fault)
def_stops text tokens fault lexes (inl is) = inl (ap def_fault is)
def_stops text tokens fault lexes (inr is) = fault_stays text fault (ap def_of_tokens (tokens_given text tokens lexes) ∙ ap as_text is)
