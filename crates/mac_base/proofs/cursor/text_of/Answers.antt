use Rattle.std.proofs.Common.{arith, sym}
use Rattle.std.proofs.lemmas.Bool.{false_from_ne_true}
use Rattle.mac_base.proofs.FieldLemmas.{before_nul_first, before_nul_none}
use Rattle.mac_base.proofs.cursor.text_of.Goals as goal

pub returns-in_err-end-clause-text : goal.returns-in_err-end-clause-text
returns-in_err-end-clause-text c =
    rw c.from_residual.ensures (sym (before_nul_none c.args.rest.now (λ j h. false_from_ne_true _ (c.in_err-end.ensures j (omega arith) h))))

pub returns-clause-text : goal.returns-clause-text
returns-clause-text c =
    let found = c.in_ok-end.ensures in
    sym (before_nul_first c.args.rest.now c.in_ok-end.end found.0.high found.1 (λ j h. false_from_ne_true _ (found.0.before j (omega arith) h)))
