use Rattle.std.proofs.Common.{refl, ◌∙◌}
use Rattle.dwmac_run.proofs.PieceLemmas.{piece_more, piece_broken, line_ended}
use Rattle.dwmac_run.proofs.printing.write_rest.Goals as goal

pub loop-word-preserved : goal.loop-word-preserved
loop-word-preserved g c = record {
  so_far = piece_more _ _ _ c.args.words.now _ _ c.loop-word.word-index c.loop-word-test.true refl c.loop-word.invariant.so_far c.in-Done.ensures.answer;
  kept = c.in-Done.ensures.cause.kept (λ e. cc) ∙ c.loop-word.invariant.kept;
}

pub returns-in-Failed-clause-answer : goal.returns-in-Failed-clause-answer
returns-in-Failed-clause-answer g c = piece_broken _ _ _ c.args.words.now _ _ c.loop-word.word-index c.loop-word-test.true refl c.loop-word.invariant.so_far c.in-Failed.ensures.answer

pub returns-clause-answer : goal.returns-clause-answer
returns-clause-answer g c = line_ended _ _ _ c.args.words.now c.loop-word.word-index _ c.loop-word-test.false c.loop-word.invariant.so_far c.write.ensures.answer
