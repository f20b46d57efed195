use Rattle.std.proofs.Common.{ℕ, List, ap, sym, ◌∙◌}
use Rattle.std.specs.Prelude.{position}
use Rattle.pp_tokens.specs.Kinds.{same}
use Rattle.mac_base.proofs.TableLemmas.{get_keyed}
use Rattle.pp_unit.proofs.KnownLemmas.{number_alone}
use Rattle.pp_unit.proofs.event_log.path_numbers.PathNumbers.place_of.Goals as goal

pub returns : goal.returns
returns c =
    c.copied.ensures ∙ c.get.ensures.value ∙ sym (number_alone _)
    ∙ sym (get_keyed (λ k. k.items) (λ n. n) c.self.inside.numbers.entries c.args.path.now)
    ∙ c.self.invariant c.args.path.now
    ∙ ap (λ (paths : List (List ℕ)). position (same c.args.path.now) paths) c.self.view_is
