use Rattle.std.proofs.Common.{Some}
use Rattle.std.proofs.lemmas.List.Elements.{All-set}
use Rattle.macro_expand.specs.ParsedMacros.{IsSoundLookup}
use Rattle.macro_expand.proofs.rescan.lookup_memo.put_lookup_memo.Goals as goal

pub returns-then-place-len : goal.returns-then-place-len
returns-then-place-len c = λ table all one. All-set (IsSoundLookup table) c.args.recent.now.items c.place_of-place.result (Some c.args.one) one all
