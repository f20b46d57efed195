use Rattle.macro_expand.proofs.HideLemmas.{intersection_same, intersection_new}
use Rattle.macro_expand.proofs.hide_set.set.intersection.Goals as goal

pub returns-then-has_all : goal.returns-then-has_all
returns-then-has_all c = intersection_same _ _ _ (c.has_all.ensures c.if-has_all.true) c.in_ok-same.ensures

pub returns : goal.returns
returns c = intersection_new _ _ _ _ c.in_ok-all.all c.listed.ensures c.in_ok-all.ensures c.in_ok-set.ensures
