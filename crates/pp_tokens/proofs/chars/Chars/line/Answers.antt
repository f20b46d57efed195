use Rattle.std.proofs.Common.{◌≡◌, ◌≢◌, List, [], subst}
use Rattle.pp_tokens.specs.Cleaning.{Char}
use Rattle.pp_tokens.specs.Cut.{line_of}
use Rattle.pp_tokens.proofs.CleanLemmas.{place-line}
use Rattle.pp_tokens.proofs.chars.Chars.line.Goals as goal

pub returns : goal.returns
returns c = subst (λ (cs : List Char). cs ≢ [] → c.self.inside.line ≡ line_of cs) c.self.view_is (place-line c.self.inside.cleans c.self.inside.line c.self.inside.rest.now c.self.invariant.0)
