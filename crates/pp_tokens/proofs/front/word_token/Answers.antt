use Rattle.std.proofs.Common.{◌≡◌, ◌+◌, List, drop, Some, None, sym, ◌∙◌, ap}
use Rattle.pp_tokens.specs.declared.token.Kind.{Kind}
use Rattle.pp_tokens.specs.Cleaning.{Char, bytes_of}
use Rattle.pp_tokens.specs.Scan.{first_byte, prefixed_length}
use Rattle.pp_tokens.proofs.FrontLemmas.{word-with_quote}
use Rattle.pp_tokens.proofs.LoneLemmas.{known-at}
use Rattle.pp_tokens.proofs.front.word_token.Goals as goal

pub returns-in-Some-prefixed_length : goal.returns-in-Some-prefixed_length
returns-in-Some-prefixed_length c =
    let found : Some c.in-Some-prefixed_length.quoted ≡ prefixed_length c.in-Some.quote c.word_length-word.result (bytes_of c.args.chars.now) (bytes_of (drop 1 c.skip.new.self)) =
    sym c.in-Some-prefixed_length.is ∙ c.prefixed_length.ensures.value ∙ ap (λ (cs : List Char). prefixed_length c.in-Some.quote c.word_length-word.result (bytes_of c.args.chars.now) (bytes_of cs)) c.advance.ensures in
    ap (λ (k : Kind). (k, c.word_length-word.result + c.in-Some-prefixed_length.quoted)) c.quoted_kind.ensures
    ∙ word-with_quote c.args.chars.now c.skip.new.self c.word_length-word.result c.in-Some.quote (Some c.in-Some-prefixed_length.quoted)
    c.word_length-word.ensures.value (c.skip.ensures ∙ ap (drop c.word_length-word.result) c.fork-behind.ensures.same) (sym c.in-Some.is ∙ c.peek.ensures) found

pub returns-in-None : goal.returns-in-None
returns-in-None c =
    let found : None ≡ prefixed_length c.in-Some.quote c.word_length-word.result (bytes_of c.args.chars.now) (bytes_of (drop 1 c.skip.new.self)) =
    sym c.in-None.is ∙ c.prefixed_length.ensures.value ∙ ap (λ (cs : List Char). prefixed_length c.in-Some.quote c.word_length-word.result (bytes_of c.args.chars.now) (bytes_of cs)) c.advance.ensures in
    word-with_quote c.args.chars.now c.skip.new.self c.word_length-word.result c.in-Some.quote None
    c.word_length-word.ensures.value (c.skip.ensures ∙ ap (drop c.word_length-word.result) c.fork-behind.ensures.same) (sym c.in-Some.is ∙ c.peek.ensures) found

pub prefixed_length-requires : goal.prefixed_length-requires
prefixed_length-requires c =
    let place : c.skip.new.self ≡ drop c.word_length-word.result c.args.chars.now = c.skip.ensures ∙ ap (drop c.word_length-word.result) c.fork-behind.ensures.same in
    known-at c.in-Some.quote c.word_length-word.result c.count.result c.args.quotes.single c.args.quotes.double c.args.chars.now c.advance.new.self c.requires
    (sym c.in-Some.is ∙ c.peek.ensures ∙ ap first_byte place) c.count.ensures (c.advance.ensures ∙ ap (drop 1) place)
