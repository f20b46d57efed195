use Rattle.std.proofs.Common.{[], sym, ◌∙◌, ap}
use Rattle.std.specs.Option.{option_map}
use Rattle.pp_tokens.specs.Scan.{fits, unpadded_length}
use Rattle.pp_tokens.proofs.TableLemmas.{find-here, find-later}
use Rattle.pp_tokens.proofs.punctuators.first_of.Goals as goal
use Rattle.std.proofs.Common.{Some}

pub returns-then-stands : goal.returns-then-stands
returns-then-stands c =
    let here = find-here (λ p. fits p c.args.window.now) c.args.table.now c.loop-punctuator.punctuator-index [] c.loop-punctuator-test.true (sym c.stands.ensures ∙ c.if-stands.true) in
    ap Some c.size.ensures ∙ ap (option_map unpadded_length) (sym here ∙ c.loop-punctuator.invariant)

pub loop-punctuator-preserved : goal.loop-punctuator-preserved
loop-punctuator-preserved c =
    sym (find-later (λ p. fits p c.args.window.now) c.args.table.now c.loop-punctuator.punctuator-index [] c.loop-punctuator-test.true (sym c.stands.ensures ∙ c.if-stands.false)) ∙ c.loop-punctuator.invariant
