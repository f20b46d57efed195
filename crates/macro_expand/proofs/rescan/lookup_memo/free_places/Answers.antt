use Rattle.std.proofs.Common.{None, subst, All, sym}
use Rattle.std.proofs.lemmas.List.Elements.{All-push}
use Rattle.macro_expand.specs.ParsedMacros.{IsSoundLookup}
use Rattle.macro_expand.proofs.rescan.lookup_memo.free_places.Goals as goal

pub loop-preserved : goal.loop-preserved
loop-preserved c = λ table. subst (All (IsSoundLookup table)) (sym c.in_ok-push.ensures.items) (All-push (IsSoundLookup table) c.loop.recent.items None (c.loop.invariant table) tt)
