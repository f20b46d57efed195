use Rattle.std.proofs.Common.{◌++◌, [], List, length, ap, subst, arith}
use Rattle.std.proofs.lemmas.List.{nil_from_length}
use Rattle.mac_base.specs.SectionBytes.{bytes_of}
use Rattle.info_roots.specs.declared.root.Root.{Root}
use Rattle.macro_query.specs.Roots.{root_lines}
use Rattle.macro_query.proofs.DumpLemmas.{Reaches, reaches_first, reaches_more, dump_stops, dump_ends}
use Rattle.macro_query.proofs.dump_report.dump_roots.Goals as goal

pub loop-root-init : goal.loop-root-init
loop-root-init c = ([], c.new-report.ensures, omega arith, reaches_first (bytes_of c.args.s.now) c.args.roots.now)

pub loop-root-preserved : goal.loop-root-preserved
loop-root-preserved c =
    let before = c.loop-root.invariant in
    let added = c.in_ok-add_root.ensures.ok in
    let left = c.in-Some.ensures.cases.0 in
    let reaches = subst (λ (roots : List Root). Reaches (bytes_of c.args.s.now) c.args.roots.now before.0 c.loop-root.number roots) left before.3 in (
      before.0 ++ root_lines c.loop-root.number c.in-Some.root.now added.0,
      added.2 before.0 before.1,
      omega (arith, before.2, ap length left),
      reaches_more (bytes_of c.args.s.now) c.args.roots.now before.0 c.loop-root.number c.in-Some.root.now c.in-Some.behind.now added.0 reaches added.1,
    )

pub returns-in_err-add_root : goal.returns-in_err-add_root
returns-in_err-add_root c =
    let before = c.loop-root.invariant in
    let reaches = subst (λ (roots : List Root). Reaches (bytes_of c.args.s.now) c.args.roots.now before.0 c.loop-root.number roots) c.in-Some.ensures.cases.0 before.3 in
    dump_stops (bytes_of c.args.s.now) c.args.roots.now before.0 c.loop-root.number c.in-Some.root.now c.in-Some.behind.now c.in_err-add_root.field-0.0 c.from_residual.result reaches c.in_err-add_root.ensures.err c.from_residual.ensures.1

pub returns : goal.returns
returns c =
    let before = c.loop-root.invariant in
    let reaches = subst (λ (roots : List Root). Reaches (bytes_of c.args.s.now) c.args.roots.now before.0 c.loop-root.number roots) (nil_from_length c.loop-root.left.now c.in_default.ensures.cases) before.3 in
    dump_ends (bytes_of c.args.s.now) c.args.roots.now before.0 c.loop-root.number c.finished.result reaches (c.finished.ensures before.0 before.1)
