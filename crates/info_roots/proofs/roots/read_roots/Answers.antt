use Rattle.std.proofs.Common.{◌≡◌, ◌+◌, ◌-◌, length, Result, List, subst, sym, ◌∙◌, arith}
use Rattle.std.proofs.lemmas.Result.{err_from_is_err_and}
use Rattle.mac_base.specs.SectionBytes.{bytes_of}
use Rattle.info_roots.specs.declared.fault.InfoFault.{InfoFault}
use Rattle.info_roots.specs.declared.root.Root.{Root}
use Rattle.info_roots.specs.Faults.{IsFaultOf}
use Rattle.info_roots.proofs.RootLemmas.{roots_more, roots_end, roots_stop}
use Rattle.info_roots.proofs.roots.read_roots.Goals as goal

pub returns-then-at-s : goal.returns-then-at-s
returns-then-at-s c =
    let end = roots_end (bytes_of c.args.s.now) (length c.args.s.now.info.now - c.loop-index._index) c.loop-index.at c.loop-index.roots.items (omega arith) c.if-at-s.true in
    sym c.loop-index.invariant.so_far ∙ end

pub returns-in_err-at : goal.returns-in_err-at
returns-in_err-at c =
    let p = err_from_is_err_and c.from_residual.result c.from_residual.ensures.1 in
    let stop = roots_stop (bytes_of c.args.s.now) (length c.args.s.now.info.now - c.loop-index._index) c.loop-index.at c.loop-index.roots.items c.in_err-at.field-0.0 (omega arith) c.if-at-s.false c.in_err-at.ensures.err in
    rw (p.1, p.2) (subst (λ (r : Result (List Root) InfoFault). IsFaultOf r c.in_err-at.field-0.0) c.loop-index.invariant.so_far stop)

pub loop-index-preserved : goal.loop-index-preserved
loop-index-preserved c =
    let left = length c.args.s.now.info.now in
    let less : left - (c.loop-index._index + 1) ≡ left - c.loop-index._index - 1 = omega arith in
    let more = roots_more (bytes_of c.args.s.now) (left - c.loop-index._index) c.loop-index.at c.in_ok-at.at c.loop-index.roots.items c.read_next.new.roots.items (omega arith) c.if-at-s.false c.in_ok-at.ensures.ok in
    record {
      so_far = rw less (sym more ∙ c.loop-index.invariant.so_far);
      section = c.in_ok-at.ensures.kept ∙ c.loop-index.invariant.section;
    }
