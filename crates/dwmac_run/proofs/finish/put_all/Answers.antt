use Rattle.std.proofs.Common.{◌∙◌}
use Rattle.dwmac_run.proofs.StoreFileLemmas.{file_more, file_lost, file_left}
use Rattle.dwmac_run.proofs.finish.put_all.Goals as goal

pub returns-in-Failed-clause-answer : goal.returns-in-Failed-clause-answer
returns-in-Failed-clause-answer g c =
    file_lost _ (g.S.Shelf.files c.loop-file.shelf) (g.S.Shelf.files c.put.new.self) c.args.files.now c.file-item.result c.file-item.result c.loop-file.file-index c.as_slice.result.now
    c.loop-file-test.true c.file-item.is c.as_slice.ensures c.loop-file.invariant.so_far c.in-Failed.ensures.answer

pub returns-in-NoMemory-clause-answer : goal.returns-in-NoMemory-clause-answer
returns-in-NoMemory-clause-answer g c =
    file_left _ (g.S.Shelf.files c.loop-file.shelf) (g.S.Shelf.files c.put.new.self) c.args.files.now c.file-item.result c.file-item.result c.loop-file.file-index
    c.loop-file-test.true c.file-item.is c.loop-file.invariant.so_far c.in-NoMemory.ensures.answer

pub loop-file-preserved : goal.loop-file-preserved
loop-file-preserved g c = record {
  so_far = file_more _ (g.S.Shelf.files c.loop-file.shelf) (g.S.Shelf.files c.put.new.self) c.args.files.now c.file-item.result c.file-item.result c.loop-file.file-index c.as_slice.result.now c.as_slice-in-loop-file.result.now
      c.loop-file-test.true c.file-item.is c.as_slice.ensures c.as_slice-in-loop-file.ensures c.loop-file.invariant.so_far c.in-Done.ensures.answer;
  kept = c.in-Done.ensures.cause.kept (λ e. cc) ∙ c.loop-file.invariant.kept;
}
