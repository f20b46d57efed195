use Rattle.std.proofs.Common.{arith, ◌∙◌, ap, subst, suc, drop, length}
use Rattle.std.proofs.lemmas.List.{drop-drop}
use Rattle.pp_tokens.specs.Raw.{IsPlain, ArePlain}
use Rattle.pp_tokens.proofs.PlainLemmas.{plain_more, plain_shorter}
use Rattle.pp_tokens.proofs.phases12.plain_run.Goals as goal

pub loop-rest-preserved : goal.loop-rest-preserved
loop-rest-preserved c =
    let one : IsPlain c.loop-rest.rest.now = c.is_plain.ensures c.loop-rest-test.true in
    record {
      at = c.behind-rest.ensures ∙ ap (drop 1) c.loop-rest.invariant.at ∙ drop-drop 1 c.loop-rest.run c.args.bytes.now;
      plain = subst (λ n. ArePlain n c.args.bytes.now) {x = suc c.loop-rest.run} (omega arith) (plain_more c.loop-rest.run c.args.bytes.now c.loop-rest.invariant.plain (subst IsPlain c.loop-rest.invariant.at one));
      long = omega (arith, plain_shorter c.loop-rest.rest.now one, c.loop-rest.invariant.long, ap length c.behind-rest.ensures);
    }
