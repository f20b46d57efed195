use Rattle.std.proofs.Common.{◌≡◌, take}
use Rattle.dwmac_run.specs.Storing.{with_files}
use Rattle.dwmac_run.proofs.finish.put_all.Given as goal

-- the files so far were stored, and no call failed
abbrev pub invariant-loop-file : goal.invariant-loop-file
invariant-loop-file g l = record {
  so_far : g.S.Shelf.files l.shelf ≡ with_files (g.S.Shelf.files l.fn.shelf) (take l.file-index l.files);
  kept : g.S.Shelf.count l.shelf ≡ g.S.Shelf.count l.fn.shelf;
}
