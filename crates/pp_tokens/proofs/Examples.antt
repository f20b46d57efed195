-- Worked cases of the definitions, computed.
use Rattle.std.proofs.Common.{◌≡◌, [], ◌∷◌, Some, None, true, false, refl}
use lib.Chars.{codes}
use Rattle.pp_tokens.specs.declared.token.Kind.TheVariants.{Identifier, Number, Char, Str, Punct, Header, LoneQuote}
use Rattle.pp_tokens.specs.declared.piece.PieceKind.TheVariants.{Comment, Word}
use Rattle.pp_tokens.specs.Cleaning.{bytes_of, cleaned}
use Rattle.pp_tokens.specs.Cut.{longest, piece_at}

plus_plus : longest (codes "+++b") ≡ Some (Punct, 2)
plus_plus = refl

numbers : longest (codes "1e+5;") ≡ Some (Number, 4)
numbers = refl

quotes : longest (codes "''a") ≡ Some (LoneQuote, 1)
quotes = refl

prefixed : longest (codes "u8\"x\"") ≡ Some (Str, 5)
prefixed = refl

no_prefix : longest (codes "u8'x'") ≡ Some (Identifier, 2)
no_prefix = refl

angle : longest (codes "<::") ≡ Some (Punct, 2)
angle = refl

dots : longest (codes "..") ≡ Some (Punct, 1)
dots = refl

hashes : longest (codes "%:%:") ≡ Some (Punct, 4)
hashes = refl

escaped : longest (codes "'\\''") ≡ Some (Char, 4)
escaped = refl

open_quote : longest (codes "\"a\n\"") ≡ Some (LoneQuote, 1)
open_quote = refl

comment : piece_at true false (codes "/**/b") ≡ Some (Comment, 4)
comment = refl

open_comment : piece_at true false (codes "/*/b") ≡ None
open_comment = refl

to_line_end : piece_at true false (codes "//b\nc") ≡ Some (Comment, 3)
to_line_end = refl

header : piece_at true true (codes "<a//b>") ≡ Some (Word Header, 6)
header = refl

trigraph_splice : bytes_of (cleaned (97 ∷ 63 ∷ 63 ∷ 47 ∷ 10 ∷ 98 ∷ [])) ≡ codes "ab"
trigraph_splice = refl

carriage_returns : bytes_of (cleaned (13 ∷ 97 ∷ 13 ∷ 13 ∷ 10 ∷ [])) ≡ 13 ∷ 97 ∷ 13 ∷ 10 ∷ []
carriage_returns = refl
