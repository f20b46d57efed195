use Rattle.std.proofs.Common.{◌+◌, length, length-drop, sym, ◌∙◌, ap, arith}
use Rattle.pp_tokens.specs.Cleaning.{cleaned_from}
use Rattle.pp_tokens.proofs.CleanLemmas.{splice-some}
use Rattle.pp_tokens.proofs.phases12.past_splices.Goals as goal

pub loop-rest-preserved : goal.loop-rest-preserved
loop-rest-preserved c = record {
  same = ap (cleaned_from (c.loop-rest.line + 1)) c.behind-rest.ensures ∙ sym (splice-some c.loop-rest.line c.loop-rest.rest.now c.splice-size.result c.splice-size.ensures.value c.if-size-eq0.false) ∙ c.loop-rest.invariant.same;
  bound = omega (arith, ap length c.behind-rest.ensures, length-drop c.splice-size.result c.loop-rest.rest.now, c.splice-size.ensures.bound, c.loop-rest.invariant.bound);
}
