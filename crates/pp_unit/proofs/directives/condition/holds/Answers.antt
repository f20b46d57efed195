use Rattle.std.proofs.Common.{◌≡◌, Err}
use Rattle.macro_expand.specs.Rules.{ExpandsTo}
use Rattle.pp_directives.specs.declared.fault.ExprFault.{ExprFault}
use Rattle.pp_directives.specs.Defined.{is_defined, resolved}
use Rattle.pp_directives.specs.Values.{IsCondition}
use Rattle.pp_unit.specs.Kinds.{expand_kind, expr_kind}
use Rattle.pp_unit.specs.Seen.{table, macros}
use Rattle.pp_unit.specs.LineConditions.{HasValue, Unresolved, Unexpanded, Faulty, Decided}
use Rattle.pp_unit.proofs.ComesLemmas.{come_by, from_expand, from_expr, err_out, second_of}
use Rattle.pp_unit.proofs.directives.condition.holds.Goals as goal

pub returns-in_err-resolved : goal.returns-in_err-resolved
returns-in_err-resolved c =
    let seen = c.args.log.now in
    let Rules = HasValue seen c.args.here.now c.args.tokens.now in
    come_by Rules (expr_kind c.in_err-resolved.field-0.0) c.from_residual.result
    (from_expr (λ (f : ExprFault). resolved (is_defined (table seen)) c.args.tokens.now ≡ Err f) Rules c.in_err-resolved.field-0.0 (λ f is. Unresolved is) c.in_err-resolved.ensures)
    c.from_residual.ensures.1

pub returns-in_err-expanded : goal.returns-in_err-expanded
returns-in_err-expanded c =
    let seen = c.args.log.now in
    let Rules = HasValue seen c.args.here.now c.args.tokens.now in
    come_by Rules (expand_kind c.in_err-expanded.field-0.0) c.from_residual-in_err-expanded.result
    (from_expand (ExpandsTo (macros seen) c.args.here.now c.in_ok-resolved.resolved) Rules c.in_err-expanded.field-0.0 (λ f is. Unexpanded c.in_ok-resolved.ensures is) c.in_err-expanded.ensures)
    c.from_residual-in_err-expanded.ensures.1

pub returns-in_err-answer : goal.returns-in_err-answer
returns-in_err-answer c =
    let Rules = HasValue c.args.log.now c.args.here.now c.args.tokens.now in
    come_by Rules (expr_kind c.in_err-answer.field-0.0) c.from_residual-in_err-answer.result
    (from_expr (λ (f : ExprFault). IsCondition c.in_ok-expanded.expanded (Err f)) Rules c.in_err-answer.field-0.0 (λ f is. Faulty c.in_ok-resolved.ensures c.in_ok-expanded.ensures is)
    (err_out c.in_err-answer.field-0.0 c.in_err-answer.ensures))
    c.from_residual-in_err-answer.ensures.1

pub returns : goal.returns
returns c = Decided c.in_ok-resolved.ensures c.in_ok-expanded.ensures (second_of c.in_ok-answer.answer c.in_ok-answer.ensures)
