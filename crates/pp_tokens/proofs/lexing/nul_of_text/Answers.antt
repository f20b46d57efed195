use Rattle.std.proofs.Common.{arith, sym}
use Rattle.std.proofs.lemmas.Bool.{false_from_ne_true}
use Rattle.pp_tokens.proofs.NulLemmas.{nul_none, nul_some}
use Rattle.pp_tokens.proofs.lexing.nul_of_text.Goals as goal

pub returns-in-Some : goal.returns-in-Some
returns-in-Some c =
    let found = c.in-Some.ensures in
    sym (nul_some c.args.bytes.now c.in-Some.field-0 found.0.high found.1 (λ j h. false_from_ne_true _ (found.0.before j (omega arith) h)))

pub returns-in-None : goal.returns-in-None
returns-in-None c = sym (nul_none c.args.bytes.now (λ j h. false_from_ne_true _ (c.in-None.ensures j (omega arith) h)))
