use Rattle.std.proofs.Common.{sym}
use Rattle.macro_expand.specs.States.{hidden_names}
use Rattle.macro_expand.proofs.PassLemmas.{hidden_more, nil_push}
use Rattle.macro_expand.proofs.substitution.paste_pass.hide_all.Goals as goal

pub loop-hidden-preserved : goal.loop-hidden-preserved
loop-hidden-preserved c = record {
  same = hidden_more (hidden_names c.args.hides.now) c.args.space c.loop-hidden.first c.loop-hidden.list.items c.push.new.self.items c.loop-hidden.yielded c.in-Some.hidden c.mark_first-hidden.result c.in_ok-hide_more.field-0
      c.loop-hidden.invariant.same c.loop-hidden.invariant.begins c.mark_first-hidden.ensures c.in_ok-hide_more.ensures c.in_ok-push.ensures.items;
  begins = sym (nil_push c.loop-hidden.yielded c.in-Some.hidden);
}
