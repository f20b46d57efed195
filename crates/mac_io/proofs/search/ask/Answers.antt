use Rattle.std.proofs.Common.{◌∙◌}
use Rattle.mac_io.proofs.SearchLemmas.{one_found, one_too_long, one_failed}
use Rattle.mac_io.proofs.search.ask.Goals as goal

pub returns-in-Ok-clause-answer : goal.returns-in-Ok-clause-answer
returns-in-Ok-clause-answer g c = one_found (g.S.Stores.stores c.args.stores.now) c.args.store c.args.name.now c.from_vec.result c.args.into.now.items c.fetch.new.into.items (c.from_vec.ensures ∙ c.in-Ok.ensures.items) c.in-Found.ensures.answer

pub returns-in-TooLong-clause-answer : goal.returns-in-TooLong-clause-answer
returns-in-TooLong-clause-answer g c = one_too_long (g.S.Stores.stores c.args.stores.now) (record { store = c.args.store; name = c.args.name.now }) c.args.into.now.items c.fetch.new.into.items c.in-TooLong.ensures.answer

pub returns-in-Failed-clause-answer : goal.returns-in-Failed-clause-answer
returns-in-Failed-clause-answer g c = one_failed (g.S.Stores.stores c.args.stores.now) (record { store = c.args.store; name = c.args.name.now }) c.args.into.now.items c.fetch.new.into.items c.in-Failed.ensures.answer
