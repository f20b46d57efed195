use Rattle.std.proofs.Common.{sym, ◌∙◌, ap}
use Rattle.pp_tokens.specs.Scan.{first_byte}
use Rattle.pp_tokens.proofs.CleanLemmas.{place-byte}
use Rattle.pp_tokens.proofs.chars.Chars.peek.Goals as goal

pub returns-in-Some : goal.returns-in-Some
returns-in-Some c =
    place-byte c.self.inside.cleans c.self.inside.line c.self.inside.rest.now c.in-Some.byte c.in-Some.field-0-1 c.self.invariant.0 (sym c.front.ensures.value ∙ c.in-Some.is)
    ∙ ap first_byte c.self.view_is
