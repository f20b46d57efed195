use Rattle.std.proofs.Common.{arith, take, ap, ◌∙◌}
use Rattle.pp_tokens.specs.Cleaning.{bytes_of}
use Rattle.pp_tokens.proofs.PlainLemmas.{text_past, plain_bound}
use Rattle.pp_tokens.proofs.chars.Chars.plain_text.Goals as goal

pub in_front-requires : goal.in_front-requires
in_front-requires c =
    let inside = c.self.inside in
    omega (arith, c.if-count-self.true, plain_bound inside.plain inside.rest.now c.self.invariant.1)

pub returns-then-count-self : goal.returns-then-count-self
returns-then-count-self c =
    let inside = c.self.inside in
    c.in_front.ensures ∙ text_past inside.cleans inside.line c.args.count inside.plain inside.rest.now (omega (arith, c.if-count-self.true)) c.self.invariant.1 c.self.invariant.0 ∙ ap (λ l. bytes_of (take c.args.count l)) c.self.view_is
