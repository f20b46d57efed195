use Rattle.std.proofs.Common.{sym, ◌∙◌}
use Rattle.string_sections.proofs.PoolLemmas.{found, lacking, small_with, offset_lacking}
use Rattle.string_sections.proofs.pool.StrPool.add.Goals as goal

pub returns-in-Some-clause-fits : goal.returns-in-Some-clause-fits
returns-in-Some-clause-fits c =
    let there = found c.args.self.now c.args.s.now c.in-Some.offset (sym c.in-Some.is ∙ c.offset_of.ensures.place) in
    small_with c.args.self.now c.args.s.now there.0 c.offset_of.ensures.small

pub returns-in-Some-clause-too_large : goal.returns-in-Some-clause-too_large
returns-in-Some-clause-too_large c =
    let there = found c.args.self.now c.args.s.now c.in-Some.offset (sym c.in-Some.is ∙ c.offset_of.ensures.place) in
    let small = small_with c.args.self.now c.args.s.now there.0 c.offset_of.ensures.small in
    λ large. cc

pub returns-in-Ok-clause-offset : goal.returns-in-Ok-clause-offset
returns-in-Ok-clause-offset c =
    let lacks = lacking c.args.self.now c.args.s.now (sym c.in_default.is ∙ c.offset_of.ensures.place) in
    c.in-Ok.ensures.offset ∙ sym (offset_lacking c.args.self.now c.args.s.now lacks)
