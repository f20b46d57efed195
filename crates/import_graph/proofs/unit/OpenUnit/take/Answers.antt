use Rattle.std.proofs.Common.{ℕ, length, Result, Ok, refl, ap, subst, ◌∙◌}
use Rattle.mac_base.specs.Input.{◌>>=◌}
use Rattle.unit_header.specs.declared.fault.UnitKind.{UnitKind}
use Rattle.import_graph.specs.declared.meaning.Meaning.{Meaning as HeldMeaning}
use Rattle.import_graph.specs.Meaning.{Plain}
use Rattle.import_graph.specs.Numbers.{named_item, meaning_of}
use Rattle.import_graph.specs.Nodes.{IsNumbered}
use Rattle.import_graph.specs.Walk.{Passes}
use Rattle.import_graph.proofs.unit.OpenUnit.take.Goals as goal

pub returns-in_ok-pass-in-Ok-Plain-clause-turn : goal.returns-in_ok-pass-in-Ok-Plain-clause-turn
returns-in_ok-pass-in-Ok-Plain-clause-turn c = λ s lent paths look fits. (
  Plain (named_item paths c.in-Ok-Plain.spliced),
  c.in-Ok-Plain.ensures.says s lent paths look fits ∙ ap (λ (m : HeldMeaning). Ok (meaning_of paths m)) c.in-Ok-Plain.field-0-is,
  ap (λ (r : Result ℕ UnitKind). r >>= λ more. Ok (Passes more c.args.self.now.cursor)) (c.in_ok-pass-in-Ok-Plain.ensures.files paths),
  (c.in-Ok-Plain.spliced, refl, subst (λ (m : HeldMeaning). IsNumbered (length paths) m) c.in-Ok-Plain.field-0-is (c.in-Ok-Plain.ensures.numbered paths fits), c.in_ok-pass-in-Ok-Plain.ensures.links, c.in_ok-pass-in-Ok-Plain.ensures.count),
)
