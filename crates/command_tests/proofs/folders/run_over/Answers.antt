use Rattle.dwmac_run.proofs.StoreLemmas.{store_more, has_stores}
use Rattle.dwmac_run.specs.Command.{labels_of}
use Rattle.command_tests.proofs.folders.run_over.Goals as goal

pub loop-label-preserved : goal.loop-label-preserved
loop-label-preserved c =
    store_more (λ s. s.label) _ c.loop-label.path.stores.items _ c.as_slice-label-items.result.now _ c.loop-label.label-index c.loop-label-test.true c.label-item.is
    c.loop-label.invariant c.in-Ok.ensures.labels

pub run-requires : goal.run-requires
run-requires c =
    has_stores (λ s. s.label) _ (labels_of c.args.words.now) c.in_ok-named.named c.as_slice-label-items.result.now c.loop-label.path.stores.items c.loop-label.label-index
    c.in_ok-named.ensures.wanted c.as_slice-label-items.ensures c.loop-label-test.false c.loop-label.invariant
