use Rattle.std.proofs.Common.{arith, drop, sym, ◌∙◌, ap}
use Rattle.pp_tokens.specs.Raw.{left_of, line_behind}
use Rattle.pp_tokens.proofs.CleanLemmas.{place-behind}
use Rattle.pp_tokens.proofs.PlainLemmas.{left_past}
use Rattle.pp_tokens.proofs.chars.Chars.advance_slowly.Goals as goal

pub returns-then-is_plain : goal.returns-then-is_plain
returns-then-is_plain c =
    let inside = c.self.inside in
    ap (left_of inside.cleans inside.line) c.behind-self-inside.ensures
    ∙ left_past inside.cleans inside.line 1 1 inside.rest.now (omega arith) (c.is_plain.ensures c.if-is_plain.true, tt) c.self.invariant.0 ∙ ap (drop 1) c.self.view_is

pub returns-in-Some : goal.returns-in-Some
returns-in-Some c =
    let inside = c.self.inside in
    c.self-in-Some.view_is ∙ c.behind-in-Some.ensures ∙ ap (left_of inside.cleans (line_behind inside.line c.in-Some.byte)) c.behind.ensures
    ∙ place-behind inside.cleans inside.line inside.rest.now c.in-Some.byte c.in-Some.width c.self.invariant.0 (sym c.front.ensures.value ∙ c.in-Some.is)
    ∙ ap (drop 1) c.self.view_is
