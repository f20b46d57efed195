-- A text is cut in one way.
use Rattle.std.proofs.Common.{◌≡◌, ℕ, ◌+◌, eqb, Bool, true, false, ◌&&◌, List, [], ◌∷◌, ◌++◌, length, take, drop, Option, Some, None, Ok, Err, refl, sym, ◌∙◌, ap, subst, append_assoc}
use Rattle.std.proofs.lemmas.List.{take_at, drop_at}
use Rattle.std.specs.Option.{option_map}
use borrow.Author.Tests.{eqb-true}
use Rattle.pp_tokens.specs.declared.fault.LexFault.{LexFault}
use Rattle.pp_tokens.specs.declared.fault.LexFault.TheVariants.{NulByte, OpenComment, NoMemory}
use Rattle.pp_tokens.specs.declared.line.Line.{Line}
use Rattle.pp_tokens.specs.declared.token.Token.{Token}
use Rattle.pp_tokens.specs.declared.piece.PieceKind.{PieceKind}
use Rattle.pp_tokens.specs.declared.piece.PieceKind.TheVariants.{Comment}
use Rattle.pp_tokens.specs.Cleaning.{Char, bytes_of, cleaned, on_line_one}
use Rattle.pp_tokens.specs.Cut.{LinesSoFar, Piece, no_page, put, put_all, lines_of, chars_of, piece_at, header_may_stand, up_to_close, IsCut, IsOpen, line_of, Makes, LeavesOpen, IsFault}
use Rattle.pp_tokens.specs.Laws.{CutIsUnique, IsAnswer, FileHasOneAnswer, TextHasOneAnswer}
use Rattle.mac_base.proofs.Choices.{same_some, no_both}

-- the first piece of a cut, and the cut after it
pub record Head (lines : Bool) (page : LinesSoFar) (chars : List Char) (p : Piece) (ps : List Piece) (rest : List Char) : Type 0 where
  pub stands : piece_at lines (header_may_stand page.tokens) (bytes_of chars) ≡ Some (p.what, length p.chars)
  pub front : p.chars ≡ take (length p.chars) chars
  pub behind : IsCut lines (put page p.what p.chars) (drop (length p.chars) chars) ps rest

pub head_of : (lines : Bool) (page : LinesSoFar) (chars : List Char) (p : Piece) (ps : List Piece) (rest : List Char) → IsCut lines page chars (p ∷ ps) rest → Head lines page chars p ps rest
head_of lines page chars p ps rest cut =
    let whole : chars ≡ p.chars ++ (chars_of ps ++ rest) = cut.whole ∙ append_assoc p.chars (chars_of ps) rest in
    record {
      stands = ap (λ (cs : List Char). piece_at lines (header_may_stand page.tokens) (bytes_of cs)) cut.whole ∙ cut.each.0;
      front = sym (ap (take (length p.chars)) whole ∙ take_at p.chars (chars_of ps ++ rest) (length p.chars) refl);
      behind = record {
        whole = ap (drop (length p.chars)) whole ∙ drop_at p.chars (chars_of ps ++ rest) (length p.chars) refl;
        each = cut.each.1;
      };
    }

-- no piece is there
abbrev IsEnd : Bool → List Char → Type 0
IsEnd lines rest = (header : Bool) → piece_at lines header (bytes_of rest) ≡ None

same_piece : (p q : Piece) → ◌≡◌ {A = PieceKind × ℕ} (p.what, length p.chars) (q.what, length q.chars) → (chars : List Char) → p.chars ≡ take (length p.chars) chars → q.chars ≡ take (length q.chars) chars → p ≡ q
same_piece p q same chars first second =
    let what : p.what ≡ q.what = ap (λ (x : PieceKind × ℕ). x.0) same in
    let long : length p.chars ≡ length q.chars = ap (λ (x : PieceKind × ℕ). x.1) same in
    let text : p.chars ≡ q.chars = first ∙ ap (λ n. take n chars) long ∙ sym second in
    λ i. record { what = what i; chars = text i }

pub unique : (lines : Bool) (page : LinesSoFar) (chars : List Char) (ps qs : List Piece) (rest left : List Char) → IsCut lines page chars ps rest → IsCut lines page chars qs left → IsEnd lines rest → IsEnd lines left → (ps ≡ qs) × (rest ≡ left)
unique lines page chars [] [] rest left one other end also = (refl, sym one.whole ∙ other.whole)
unique lines page chars [] (q ∷ qs) rest left one other end also =
    let head = head_of lines page chars q qs left other in
    let none = ap (λ (cs : List Char). piece_at lines (header_may_stand page.tokens) (bytes_of cs)) one.whole ∙ end (header_may_stand page.tokens) in
    absurd (clash _ _ head.stands none)
  where
    clash : (o : Option (PieceKind × ℕ)) (x : PieceKind × ℕ) → o ≡ Some x → o ≡ None → ⊥
    clash o x some none = cc
unique lines page chars (p ∷ ps) [] rest left one other end also =
    let head = head_of lines page chars p ps rest one in
    let none = ap (λ (cs : List Char). piece_at lines (header_may_stand page.tokens) (bytes_of cs)) other.whole ∙ also (header_may_stand page.tokens) in
    absurd (clash _ _ head.stands none)
  where
    clash : (o : Option (PieceKind × ℕ)) (x : PieceKind × ℕ) → o ≡ Some x → o ≡ None → ⊥
    clash o x some none = cc
unique lines page chars (p ∷ ps) (q ∷ qs) rest left one other end also =
    let first = head_of lines page chars p ps rest one in
    let second = head_of lines page chars q qs left other in
    let found : ◌≡◌ {A = PieceKind × ℕ} (p.what, length p.chars) (q.what, length q.chars) = same_some (p.what, length p.chars) (q.what, length q.chars) (sym first.stands ∙ second.stands) in
    let same : p ≡ q = same_piece p q found chars first.front second.front in
    let behind = subst (λ (z : Piece). IsCut lines (put page z.what z.chars) (drop (length z.chars) chars) qs left) (sym same) second.behind in
    let rest_same = unique lines (put page p.what p.chars) (drop (length p.chars) chars) ps qs rest left first.behind behind end also in
    (λ i. same i ∷ rest_same.0 i, rest_same.1)

end_of_all : (lines : Bool) → IsEnd lines []
end_of_all lines header = refl

open_by : (lines header : Bool) (b c : ℕ) (cs : List ℕ) (x y : Bool) → eqb 47 b ≡ x → eqb 42 c ≡ y → (x && (y && true)) ≡ true → up_to_close cs ≡ None → piece_at lines header (b ∷ c ∷ cs) ≡ None
open_by lines header b c cs true true first second is none =
    let slash : 47 ≡ b = eqb-true 47 b first in
    let star : 42 ≡ c = eqb-true 42 c second in
    subst (λ z. piece_at lines header (z ∷ c ∷ cs) ≡ None) slash (subst (λ z. piece_at lines header (47 ∷ z ∷ cs) ≡ None) star (ap (option_map {U = PieceKind × ℕ} (λ n. (Comment, 2 + n))) none))
open_by lines header b c cs true false first second is none = cc
open_by lines header b c cs false y first second is none = cc

pub open_end : (lines header : Bool) (bytes : List ℕ) → IsOpen bytes → piece_at lines header bytes ≡ None
open_end lines header [] open_here = refl
open_end lines header (b ∷ []) open_here = no (eqb 47 b) open_here.0
  where
    no : (x : Bool) → (x && false) ≡ true → piece_at lines header (b ∷ []) ≡ None
    no true is = cc
    no false is = cc
open_end lines header (b ∷ c ∷ cs) open_here = open_by lines header b c cs (eqb 47 b) (eqb 42 c) refl refl open_here.0 open_here.1

pub cut-unique : CutIsUnique
cut-unique lines page chars pieces others one other = (unique lines page chars pieces others [] [] one other (end_of_all lines) (end_of_all lines)).0

pub makes-unique : (lines : Bool) (page : LinesSoFar) (chars : List Char) (one other : LinesSoFar) → Makes lines page chars one → Makes lines page chars other → one ≡ other
makes-unique lines page chars one other first second =
    first.2 ∙ ap (put_all page) (cut-unique lines page chars first.0 second.0 first.1 second.1) ∙ sym second.2

opens-unique : (lines : Bool) (page : LinesSoFar) (chars : List Char) (one other : ℕ) → LeavesOpen lines page chars one → LeavesOpen lines page chars other → one ≡ other
opens-unique lines page chars one other first second =
    let same = unique lines page chars first.0 second.0 first.1 second.1 first.2 second.2 (λ header. open_end lines header (bytes_of first.1) first.3) (λ header. open_end lines header (bytes_of second.1) second.3) in
    first.4 ∙ ap line_of same.1 ∙ sym second.4

makes_or_opens : (lines : Bool) (page : LinesSoFar) (chars : List Char) (final : LinesSoFar) (line : ℕ) → Makes lines page chars final → LeavesOpen lines page chars line → ⊥
makes_or_opens lines page chars final line first second =
    let same = unique lines page chars first.0 second.0 [] second.1 first.1 second.2 (end_of_all lines) (λ header. open_end lines header (bytes_of second.1) second.3) in
    no_open second.1 same.1 second.3
  where
    no_open : (rest : List Char) → [] ≡ rest → IsOpen (bytes_of rest) → ⊥
    no_open [] is open_here = cc
    no_open (c ∷ cs) is open_here = cc

fault_unique : (o : Option ℕ) (lines : Bool) (chars : List Char) (one other : LexFault) → IsAnswer {A = ℕ} (Err one) → IsAnswer {A = ℕ} (Err other) → IsFault o lines chars one → IsFault o lines chars other → one ≡ other
fault_unique o lines chars (NulByte x) (NulByte y) a b first second = ap NulByte (same_some x y (sym first ∙ second))
fault_unique o lines chars (NulByte x) (OpenComment y) a b first second = absurd (no_both o x second.0 first)
fault_unique o lines chars (NulByte x) NoMemory a b first second = absurd b
fault_unique o lines chars (OpenComment x) (NulByte y) a b first second = absurd (no_both o y first.0 second)
fault_unique o lines chars (OpenComment x) (OpenComment y) a b first second = ap OpenComment (opens-unique lines no_page chars x y first.1 second.1)
fault_unique o lines chars (OpenComment x) NoMemory a b first second = absurd b
fault_unique o lines chars NoMemory other a b first second = absurd a

no_fault : (o : Option ℕ) (lines : Bool) (chars : List Char) (final : LinesSoFar) (fault : LexFault) → IsAnswer {A = ℕ} (Err fault) → o ≡ None → Makes lines no_page chars final → IsFault o lines chars fault → ⊥
no_fault o lines chars final (NulByte line) a none makes is = no_both o line none is
no_fault o lines chars final (OpenComment line) a none makes is = makes_or_opens lines no_page chars final line makes is.1
no_fault o lines chars final NoMemory a none makes is = a

answer_of : (A : Type 0) (fault : LexFault) → IsAnswer {A = A} (Err fault) → IsAnswer {A = ℕ} (Err fault)
answer_of A (NulByte line) is = is
answer_of A (OpenComment line) is = is
answer_of A NoMemory is = is

pub file-unique : FileHasOneAnswer
file-unique bytes (Ok xs) (Ok ys) a b one other = ap Ok (one.3 ∙ ap lines_of (makes-unique true no_page (cleaned bytes) one.1 other.1 one.2 other.2) ∙ sym other.3)
file-unique bytes (Ok xs) (Err fault) a b one other = absurd (no_fault _ true (cleaned bytes) one.1 fault (answer_of (List Line) fault b) one.0 one.2 other)
file-unique bytes (Err fault) (Ok ys) a b one other = absurd (no_fault _ true (cleaned bytes) other.1 fault (answer_of (List Line) fault a) other.0 other.2 one)
file-unique bytes (Err x) (Err y) a b one other = ap Err (fault_unique _ true (cleaned bytes) x y (answer_of (List Line) x a) (answer_of (List Line) y b) one other)

pub text-unique : TextHasOneAnswer
text-unique bytes (Ok xs) (Ok ys) a b one other = ap Ok (one.3 ∙ ap (λ (p : LinesSoFar). p.tokens) (makes-unique false no_page (on_line_one bytes) one.1 other.1 one.2 other.2) ∙ sym other.3)
text-unique bytes (Ok xs) (Err fault) a b one other = absurd (no_fault _ false (on_line_one bytes) one.1 fault (answer_of (List Token) fault b) one.0 one.2 other)
text-unique bytes (Err fault) (Ok ys) a b one other = absurd (no_fault _ false (on_line_one bytes) other.1 fault (answer_of (List Token) fault a) other.0 other.2 one)
text-unique bytes (Err x) (Err y) a b one other = ap Err (fault_unique _ false (on_line_one bytes) x y (answer_of (List Token) x a) (answer_of (List Token) y b) one other)
