use Rattle.pp_directives.proofs.NumberLemmas.{before_quote-quote, before_quote-other}
use Rattle.pp_directives.proofs.expression.constants.before_quote.Goals as goal

pub returns-then-last-eq39 : goal.returns-then-last-eq39
returns-then-last-eq39 c = before_quote-quote _ _ _ c.in_ok-last.ensures.cases.0 c.if-last-eq39.true

pub returns-else-last-eq39 : goal.returns-else-last-eq39
returns-else-last-eq39 c = before_quote-other _ _ _ c.in_ok-last.ensures.cases.0 c.if-last-eq39.false
