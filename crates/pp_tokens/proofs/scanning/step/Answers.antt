use Rattle.std.proofs.Common.{◌≡◌, Some, sym, ◌∙◌, ap}
use Rattle.pp_tokens.specs.Cleaning.{bytes_of}
use Rattle.pp_tokens.specs.Cut.{piece_at, header_may_stand}
use Rattle.pp_tokens.proofs.ScanLemmas.{piece-fits}
use Rattle.std.proofs.Common.{subst}
use Rattle.pp_tokens.specs.declared.quote_scan.QuoteScan.{QuoteScan}
use Rattle.pp_tokens.specs.Scan.{IsKnown}
use Rattle.pp_tokens.proofs.LoneLemmas.{known-behind}
use Rattle.pp_tokens.proofs.scanning.step.Goals as goal

pub put_piece-requires-clause-some : goal.put_piece-requires-clause-some
put_piece-requires-clause-some c =
    let stands : piece_at c.args.lines (header_may_stand c.args.builder.now.tokens) (bytes_of c.args.chars.now) ≡ Some (c.in-Some.what, c.in-Some.count) =
    ap (λ t. piece_at c.args.lines t (bytes_of c.args.chars.now)) (sym c.header_may_stand.ensures) ∙ sym c.piece.ensures ∙ c.in-Some.is in
    (piece-fits c.args.lines (header_may_stand c.args.builder.now.tokens) c.args.chars.now c.in-Some.what c.in-Some.count stands).0

pub known_after-requires : goal.known_after-requires
known_after-requires c =
    subst (λ (l : QuoteScan). IsKnown l.single l.double (bytes_of c.put_piece.new.chars)) (sym c.after.ensures)
    (known-behind c.args.quotes.now.single c.args.quotes.now.double c.in-Some.count c.args.chars.now c.put_piece.new.chars c.requires.known c.in-Ok.ensures.left)
