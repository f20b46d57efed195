use Rattle.std.proofs.Common.{◌≡◌, List, drop, None, cond, sym, ◌∙◌, ap}
use Rattle.pp_tokens.specs.Cleaning.{Char, bytes_of}
use Rattle.pp_tokens.specs.Scan.{header_by}
use Rattle.pp_tokens.proofs.TokenLemmas.{token-found}
use Rattle.pp_tokens.proofs.front.token_piece.Goals as goal

pub returns-in-None : goal.returns-in-None
returns-in-None c =
    let moved : c.advance.new.self ≡ drop 1 c.args.chars.now = c.advance.ensures ∙ ap (drop 1) c.fork-behind.ensures.same in
    token-found c.args.header c.args.chars.now c.args.first c.token-kind.result c.requires.first c.requires.not_line_feed c.requires.not_blank
    (sym c.in-None.is ∙ c.allowed_header.ensures ∙ ap (λ (cs : List Char). cond c.args.header (header_by c.args.first (bytes_of cs)) None) moved) c.token-kind.ensures
