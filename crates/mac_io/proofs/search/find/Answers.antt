use Rattle.std.proofs.Common.{sym, ◌∙◌}
use Rattle.mac_io.proofs.SearchLemmas.{goes_behind, is_absent}
use Rattle.mac_io.proofs.search.find.Goals as goal

pub returns-then-is_absent-clause-answer : goal.returns-then-is_absent-clause-answer
returns-then-is_absent-clause-answer g c =
    goes_behind (g.S.Stores.stores c.args.stores.now) (g.S.Stores.stores c.ask_beside-answer.new.stores) c.args.includer.now c.args.form c.args.name.now
    c.ask_beside-answer.result c.ask_behind.result c.args.into.now.items c.ask_beside-answer.new.into.items c.ask_behind.new.into.items
    c.ask_beside-answer.ensures.same (is_absent _ c.ask_beside-answer.result c.is_absent.ensures c.if-is_absent.true) (sym c.is_absolute.ensures ∙ c.if-is_absolute.false)
    c.ask_beside-answer.ensures.answer c.ask_behind.ensures.answer
