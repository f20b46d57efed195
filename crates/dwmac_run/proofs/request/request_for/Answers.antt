use Rattle.dwmac_run.specs.Commands.{row_seen}
use Rattle.dwmac_run.proofs.RequestLemmas.{request_found}
use Rattle.dwmac_run.proofs.request.request_for.Goals as goal

pub returns-in_ok-read-in-Some : goal.returns-in_ok-read-in-Some
returns-in_ok-read-in-Some c =
    request_found (row_seen c.row-row.result) c.args.verb c.args.words.now c.as_slice.result.now c.in_ok-split.field-0 c.in-Some.split c.len.result c.in_ok-read-in-Some.read c.request_by.result
    c.row-row.ensures c.in_ok-split.ensures c.in-Some.is c.len.ensures c.if-len-le-MOST_FOLDERS.true c.as_slice.ensures c.in_ok-read-in-Some.ensures c.request_by.ensures
