use Rattle.std.proofs.Common.{inr, sym, ap, ◌∙◌, subst}
use Rattle.macro_expand.specs.Rules.{ExpandsTo}
use Rattle.pp_unit.specs.Kinds.{expand_kind}
use Rattle.pp_unit.specs.Seen.{macros}
use Rattle.pp_unit.specs.LineNumbers.{is_line, HasLine, Stands, Fails, Expands}
use Rattle.pp_unit.proofs.ComesLemmas.{come_by, from_expand}
use Rattle.pp_unit.proofs.LineLemmas.{good_line, bad_line}
use Rattle.pp_unit.proofs.directives.line_number.follow_line.Goals as goal

pub returns-then-is_line : goal.returns-then-is_line
returns-then-is_line c = Stands (sym (c.if-is_line.ensures ∙ ap is_line c.as_slice.ensures))

pub returns-in_err-expanded : goal.returns-in_err-expanded
returns-in_err-expanded c =
    let Rules = HasLine (macros c.args.log) c.args.here.now c.args.tokens.now c.args.log in
    come_by Rules (expand_kind c.in_err-expanded.field-0.0) c.from_residual.result
    (from_expand (ExpandsTo (macros c.args.log) c.args.here.now c.args.tokens.now) Rules c.in_err-expanded.field-0.0
    (λ f is. Fails (sym (c.if-is_line.ensures ∙ ap is_line c.as_slice.ensures)) is) c.in_err-expanded.ensures)
    c.from_residual.ensures.1

pub returns-then-is_line-2 : goal.returns-then-is_line-2
returns-then-is_line-2 c =
    subst (HasLine (macros c.args.log) c.args.here.now c.args.tokens.now c.args.log) (good_line c.args.log c.in_ok-expanded.expanded c.as_slice-2.result.now c.as_slice-2.ensures c.if-is_line-2.ensures)
    (Expands (sym (c.if-is_line.ensures ∙ ap is_line c.as_slice.ensures)) c.in_ok-expanded.ensures)

pub returns-else-is_line-2 : goal.returns-else-is_line-2
returns-else-is_line-2 c =
    inr (subst (HasLine (macros c.args.log) c.args.here.now c.args.tokens.now c.args.log) (bad_line c.args.log c.in_ok-expanded.expanded c.as_slice-2.result.now c.as_slice-2.ensures c.if-is_line-2.ensures)
    (Expands (sym (c.if-is_line.ensures ∙ ap is_line c.as_slice.ensures)) c.in_ok-expanded.ensures))
