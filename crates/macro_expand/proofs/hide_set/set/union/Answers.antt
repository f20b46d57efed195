use Rattle.macro_expand.proofs.HideLemmas.{union_same, union_new}
use Rattle.macro_expand.proofs.hide_set.set.union.Goals as goal

pub returns-then-has_all : goal.returns-then-has_all
returns-then-has_all c = union_same _ _ _ (c.has_all.ensures c.if-has_all.true) c.in_ok-same.ensures

pub returns : goal.returns
returns c = union_new _ _ _ c.in_ok-names.names _ c.in_ok-all.all c.in_ok-names.ensures c.listed.ensures c.in_ok-all.ensures c.in_ok-set.ensures
