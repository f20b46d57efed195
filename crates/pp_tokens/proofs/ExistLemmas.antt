-- A file and a text have an answer.
use Rattle.std.proofs.Common.{◌≡◌, ◌⊎◌, ℕ, zero, suc, ◌≤◌, Bool, true, false, List, [], ◌∷◌, length, take, drop, Option, Some, None, Result, Ok, Err, refl, sym, subst, arith, inl, inr, length-drop}
use Rattle.pp_tokens.specs.declared.fault.LexFault.{LexFault}
use Rattle.pp_tokens.specs.declared.fault.LexFault.TheVariants.{NulByte, OpenComment}
use Rattle.pp_tokens.specs.declared.piece.PieceKind.{PieceKind}
use Rattle.pp_tokens.specs.declared.line.Line.{Line}
use Rattle.pp_tokens.specs.declared.token.Token.{Token}
use Rattle.pp_tokens.specs.Cleaning.{Char, bytes_of, numbered, cleaned, on_line_one, first_nul}
use Rattle.pp_tokens.specs.Cut.{LinesSoFar, Piece, no_page, put, put_all, piece_at, header_may_stand, line_of, lines_of, IsCut, IsOpen, Makes, LeavesOpen, LexesFile, LexesText}
use Rattle.pp_tokens.specs.Laws.{Ends, CutExists, IsAnswer, OneAnswer, EachFileIsLexed, EachTextIsLexed}
use Rattle.pp_tokens.proofs.ScanLemmas.{piece-fits, cut-more, open_at}
use Rattle.pp_tokens.proofs.UniqueLemmas.{file-unique, text-unique}

-- a cut goes on by the piece in front
ends_by : (n : ℕ) (lines : Bool) (page : LinesSoFar) (c : Char) (cs : List Char) → ((p : LinesSoFar) (xs : List Char) → length xs ≤ n → Ends lines p xs) → length (c ∷ cs) ≤ suc n →
    (found : Option (PieceKind × ℕ)) → piece_at lines (header_may_stand page.tokens) (bytes_of (c ∷ cs)) ≡ found → Ends lines page (c ∷ cs)
ends_by n lines page c cs rest few None is = record {
  pieces = [];
  rest = c ∷ cs;
  cut = record { whole = refl; each = tt };
  done = inr (open_at lines (header_may_stand page.tokens) c.byte (bytes_of cs) is);
}
ends_by n lines page c cs rest few (Some piece) is =
    let fits = piece-fits lines (header_may_stand page.tokens) (c ∷ cs) piece.0 piece.1 is in
    let fewer : length (drop piece.1 (c ∷ cs)) ≤ n = omega (arith, fits.0, fits.1, length-drop piece.1 (c ∷ cs)) in
    let behind = rest (put page piece.0 (take piece.1 (c ∷ cs))) (drop piece.1 (c ∷ cs)) fewer in
    record {
      pieces = record { what = piece.0; chars = take piece.1 (c ∷ cs) } ∷ behind.pieces;
      rest = behind.rest;
      cut = cut-more lines page (c ∷ cs) (put page piece.0 (take piece.1 (c ∷ cs))) (drop piece.1 (c ∷ cs)) piece.0 piece.1 behind.pieces behind.rest is refl refl behind.cut;
      done = behind.done;
    }

ends_in : (n : ℕ) (lines : Bool) (page : LinesSoFar) (chars : List Char) → length chars ≤ n → Ends lines page chars
ends_in n lines page [] few = record { pieces = []; rest = []; cut = record { whole = refl; each = tt }; done = inl refl }
ends_in zero lines page (c ∷ cs) few = absurd (omega arith)
ends_in (suc n) lines page (c ∷ cs) few = ends_by n lines page c cs (λ p xs less. ends_in n lines p xs less) few (piece_at lines (header_may_stand page.tokens) (bytes_of (c ∷ cs))) refl

pub cut-exists : CutExists
cut-exists lines page chars = ends_in (length chars) lines page chars (omega arith)

-- a text is whole, or leaves a comment open
pub whole_or_open : (lines : Bool) (page : LinesSoFar) (chars : List Char) → ((final : LinesSoFar) × Makes lines page chars final) ⊎ ((line : ℕ) × LeavesOpen lines page chars line)
whole_or_open lines page chars = by (cut-exists lines page chars)
  where
    sorted : (pieces : List Piece) (rest : List Char) → IsCut lines page chars pieces rest → (rest ≡ []) ⊎ IsOpen (bytes_of rest) → ((final : LinesSoFar) × Makes lines page chars final) ⊎ ((line : ℕ) × LeavesOpen lines page chars line)
    sorted pieces rest cut (inl none) = inl (put_all page pieces, (pieces, subst (IsCut lines page chars pieces) none cut, refl))
    sorted pieces rest cut (inr is_open) = inr (line_of rest, (pieces, rest, cut, is_open, refl))

    by : Ends lines page chars → ((final : LinesSoFar) × Makes lines page chars final) ⊎ ((line : ℕ) × LeavesOpen lines page chars line)
    by found = sorted found.pieces found.rest found.cut found.done

one_file : (bytes : List ℕ) (answer : Result (List Line) LexFault) → IsAnswer answer → LexesFile bytes answer → OneAnswer (LexesFile bytes)
one_file bytes answer plain said = record { answer = answer; plain = plain; said = said; only = λ other also is. file-unique bytes other answer also plain is said }

file_by : (bytes : List ℕ) (nul : Option ℕ) → first_nul (numbered 1 bytes) ≡ nul → ((final : LinesSoFar) × Makes true no_page (cleaned bytes) final) ⊎ ((line : ℕ) × LeavesOpen true no_page (cleaned bytes) line) → OneAnswer (LexesFile bytes)
file_by bytes (Some line) is found = one_file bytes (Err (NulByte line)) tt is
file_by bytes None is (inl (final, makes)) = one_file bytes (Ok (lines_of final)) tt (is, final, makes, refl)
file_by bytes None is (inr (line, opens)) = one_file bytes (Err (OpenComment line)) tt (is, opens)

pub file-lexed : EachFileIsLexed
file-lexed bytes = file_by bytes (first_nul (numbered 1 bytes)) refl (whole_or_open true no_page (cleaned bytes))

one_text : (bytes : List ℕ) (answer : Result (List Token) LexFault) → IsAnswer answer → LexesText bytes answer → OneAnswer (LexesText bytes)
one_text bytes answer plain said = record { answer = answer; plain = plain; said = said; only = λ other also is. text-unique bytes other answer also plain is said }

text_by : (bytes : List ℕ) (nul : Option ℕ) → first_nul (on_line_one bytes) ≡ nul → ((final : LinesSoFar) × Makes false no_page (on_line_one bytes) final) ⊎ ((line : ℕ) × LeavesOpen false no_page (on_line_one bytes) line) → OneAnswer (LexesText bytes)
text_by bytes (Some line) is found = one_text bytes (Err (NulByte line)) tt is
text_by bytes None is (inl (final, makes)) = one_text bytes (Ok final.tokens) tt (is, final, makes, refl)
text_by bytes None is (inr (line, opens)) = one_text bytes (Err (OpenComment line)) tt (is, opens)

pub text-lexed : EachTextIsLexed
text-lexed bytes = text_by bytes (first_nul (on_line_one bytes)) refl (whole_or_open false no_page (on_line_one bytes))
