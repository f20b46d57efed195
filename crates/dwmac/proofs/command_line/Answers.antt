use Rattle.dwmac_run.proofs.StoreLemmas.{store_more, has_stores}
use Rattle.dwmac_run.specs.Command.{labels_of}
use Rattle.dwmac.proofs.command_line.Goals as goal

pub loop-label-preserved : goal.loop-label-preserved
loop-label-preserved c =
    store_more (λ s. s.label) _ c.loop-label.path.stores.items _ c.as_slice-label-items.result.now _ c.loop-label.label-index c.loop-label-test.true c.label-item.is
    c.loop-label.invariant c.in-Ok-add_store.ensures.labels

pub run_words-requires : goal.run_words-requires
run_words-requires c =
    has_stores (λ s. s.label) _ (labels_of c.in-Ok.words) c.in-Ok-labels_for.labels c.as_slice-label-items.result.now c.loop-label.path.stores.items c.loop-label.label-index
    c.in-Ok-labels_for.ensures.wanted c.as_slice-label-items.ensures c.loop-label-test.false c.loop-label.invariant
