use Rattle.dwmac_run.specs.Answer.{QuerySays}
use Rattle.dwmac_run.specs.Outcome.{answer_of}
use Rattle.dwmac_run.proofs.AnswerLemmas.{file_read, file_absent, file_long}
use Rattle.dwmac_run.proofs.perform.ask_file.Goals as goal

pub returns-in-Found-clause-answer : goal.returns-in-Found-clause-answer
returns-in-Found-clause-answer g c =
    file_read c.args.file _ (g.S.Shelf.files c.args.shelf.now) (QuerySays c.args.query.now) _ _ c.as_slice-in-Found.result.now c.ask.result (answer_of c.outcome_of.result)
    c.as_slice.ensures c.new-bytes.ensures.items c.in-Found.ensures.answer c.as_slice-in-Found.ensures.value c.ask.ensures c.outcome_of.ensures.answer

pub returns-in-Absent-clause-answer : goal.returns-in-Absent-clause-answer
returns-in-Absent-clause-answer g c = file_absent c.args.file _ (g.S.Shelf.files c.args.shelf.now) (QuerySays c.args.query.now) _ _ c.as_slice.ensures c.in-Absent.ensures.answer

pub returns-in-TooLong-clause-answer : goal.returns-in-TooLong-clause-answer
returns-in-TooLong-clause-answer g c = file_long c.args.file _ (g.S.Shelf.files c.args.shelf.now) (QuerySays c.args.query.now) _ _ c.as_slice.ensures c.in-TooLong.ensures.answer
