use Rattle.std.proofs.Common.{List, drop, sym, ◌∙◌, ap, ◌≡◌, false}
use Rattle.pp_tokens.specs.Cleaning.{Char, bytes_of}
use Rattle.pp_tokens.specs.Kinds.{begins_number}
use Rattle.pp_tokens.specs.Scan.{quote_or, quoted_length}
use Rattle.pp_tokens.proofs.FrontLemmas.{scanned-quote}
use Rattle.pp_tokens.proofs.LoneLemmas.{known-at}
use Rattle.pp_tokens.proofs.front.token.Goals as goal

pub returns-then-is_quote : goal.returns-then-is_quote
returns-then-is_quote c =
    let moved : c.advance.new.self ≡ drop 1 c.args.chars.now = c.advance.ensures ∙ ap (drop 1) c.fork-behind.ensures.same in
    let number : begins_number c.args.first (bytes_of (drop 1 c.args.chars.now)) ≡ false =
    ap (λ (cs : List Char). begins_number c.args.first (bytes_of cs)) (sym moved) ∙ sym c.begins_number.ensures ∙ c.if-begins_number.false in
    c.quote_token.ensures ∙ ap (λ (cs : List Char). quote_or c.args.first (quoted_length c.args.first (bytes_of cs))) moved
    ∙ scanned-quote c.args.chars.now c.args.first c.requires.first (sym c.is_letter.ensures ∙ c.if-is_letter.false) number (sym c.is_quote.ensures ∙ c.if-is_quote.true)

pub quote_token-requires : goal.quote_token-requires
quote_token-requires c =
    known-at c.args.first 0 c.count-known.result c.args.quotes.single c.args.quotes.double c.args.chars.now c.advance.new.self c.requires.known c.requires.first c.count-known.ensures
    (c.advance.ensures ∙ ap (drop 1) c.fork-behind.ensures.same)
