use Rattle.std.proofs.Common.{arith, drop, ◌∙◌, ap, ◌-◌}
use Rattle.pp_tokens.specs.Raw.{ArePlain, left_of}
use Rattle.pp_tokens.proofs.PlainLemmas.{place_past, left_past, plain_past}
use Rattle.pp_tokens.proofs.chars.Chars.advance.Goals as goal

pub invariant_of-self : goal.invariant_of-self
invariant_of-self c =
    let inside = c.self.inside in
    let plain : ArePlain inside.plain inside.rest.now = c.self.invariant.1 in
    rw c.behind-self-inside.ensures
    (place_past inside.cleans inside.line 1 inside.plain inside.rest.now (omega (arith, c.if-self-gt0.true)) plain c.self.invariant.0, plain_past 1 (inside.plain - 1) inside.plain inside.rest.now (omega (arith, c.if-self-gt0.true)) plain)

pub returns-then-self-gt0 : goal.returns-then-self-gt0
returns-then-self-gt0 c =
    let inside = c.self.inside in
    ap (left_of inside.cleans inside.line) c.behind-self-inside.ensures
    ∙ left_past inside.cleans inside.line 1 inside.plain inside.rest.now (omega (arith, c.if-self-gt0.true)) c.self.invariant.1 c.self.invariant.0 ∙ ap (drop 1) c.self.view_is
