use Rattle.std.proofs.Common.{◌+◌}
use Rattle.mac_base.proofs.StringsLemmas.{end_is_none, end_is_last, open_from}
use Rattle.mac_base.proofs.strings.end_of_strings.Goals as goal

pub returns-in-Some-clause-end : goal.returns-in-Some-clause-end
returns-in-Some-clause-end c = end_is_last c.args.table.now c.in-Some.last c.in-Some.ensures.0.high c.in-Some.ensures.1 c.in-Some.ensures.0.after

pub returns-in-Some-clause-open : goal.returns-in-Some-clause-open
returns-in-Some-clause-open c = open_from c.args.table.now (c.in-Some.last + 1) (end_is_last c.args.table.now c.in-Some.last c.in-Some.ensures.0.high c.in-Some.ensures.1 c.in-Some.ensures.0.after)

pub returns-in-None-clause-end : goal.returns-in-None-clause-end
returns-in-None-clause-end c = end_is_none c.args.table.now c.in-None.ensures

pub returns-in-None-clause-open : goal.returns-in-None-clause-open
returns-in-None-clause-open c = open_from c.args.table.now 0 (end_is_none c.args.table.now c.in-None.ensures)
