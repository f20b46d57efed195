use Rattle.std.proofs.Common.{arith, drop, ap, ◌∙◌, ◌-◌}
use Rattle.std.proofs.lemmas.List.{drop-drop}
use Rattle.pp_tokens.specs.Raw.{left_of}
use Rattle.pp_tokens.proofs.PlainLemmas.{place_past, left_past, plain_past, plain_bound}
use Rattle.pp_tokens.proofs.chars.Chars.skip.Goals as goal

pub behind-self-inside-requires : goal.behind-self-inside-requires
behind-self-inside-requires c =
    let inside = c.self.inside in
    omega (arith, c.if-count-self.true, plain_bound inside.plain inside.rest.now c.self.invariant.1)

pub invariant_of-self : goal.invariant_of-self
invariant_of-self c =
    let inside = c.self.inside in
    rw c.behind-self-inside.ensures
    (place_past inside.cleans inside.line c.args.count inside.plain inside.rest.now (omega (arith, c.if-count-self.true)) c.self.invariant.1 c.self.invariant.0, plain_past c.args.count (inside.plain - c.args.count) inside.plain inside.rest.now (omega (arith, c.if-count-self.true)) c.self.invariant.1)

pub returns-then-count-self : goal.returns-then-count-self
returns-then-count-self c =
    let inside = c.self.inside in
    ap (left_of inside.cleans inside.line) c.behind-self-inside.ensures
    ∙ left_past inside.cleans inside.line c.args.count inside.plain inside.rest.now (omega (arith, c.if-count-self.true)) c.self.invariant.1 c.self.invariant.0 ∙ ap (drop c.args.count) c.self.view_is

pub loop-preserved : goal.loop-preserved
loop-preserved c = c.advance.ensures ∙ ap (drop 1) c.loop.invariant ∙ drop-drop 1 c.loop.counter c.args.self.now
