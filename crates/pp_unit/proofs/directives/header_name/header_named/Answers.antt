use Rattle.std.proofs.Common.{sym, ap, ◌∙◌, subst, List}
use Rattle.macro_expand.specs.Rules.{ExpandsTo}
use Rattle.pp_unit.specs.Kinds.{expand_kind}
use Rattle.pp_unit.specs.Seen.{macros}
use Rattle.pp_unit.specs.HeaderNames.{header_text, named, spelled_name, NamesHeader, Fails, Expands}
use Rattle.pp_tokens.specs.declared.token.Token.{Token}
use Rattle.pp_unit.proofs.HeaderLemmas.{header_stands}
use Rattle.pp_unit.proofs.ComesLemmas.{come_by, from_expand, by_reading}
use Rattle.pp_unit.proofs.directives.header_name.header_named.Goals as goal

pub returns-in-Some : goal.returns-in-Some
returns-in-Some c =
    by_reading (NamesHeader (macros c.args.log.now) c.args.here.now c.args.tokens.now) (named c.form_of.result c.between.result.now) c.named.result
    (header_stands (macros c.args.log.now) c.args.here.now c.args.tokens.now c.as_slice.result.now c.in-Some.text.now c.between.result.now c.form_of.result c.as_slice.ensures c.in-Some.ensures c.form_of.ensures c.between.ensures)
    c.named.ensures

pub returns-in_err-expanded : goal.returns-in_err-expanded
returns-in_err-expanded c =
    let Rules = NamesHeader (macros c.args.log.now) c.args.here.now c.args.tokens.now in
    come_by Rules (expand_kind c.in_err-expanded.field-0.0) c.from_residual.result
    (from_expand (ExpandsTo (macros c.args.log.now) c.args.here.now c.args.tokens.now) Rules c.in_err-expanded.field-0.0
    (λ f is. Fails (sym (c.in_default.ensures ∙ ap header_text c.as_slice.ensures)) is) c.in_err-expanded.ensures)
    c.from_residual.ensures.1

pub returns : goal.returns
returns c =
    by_reading (NamesHeader (macros c.args.log.now) c.args.here.now c.args.tokens.now) (spelled_name c.as_slice-2.result.now) c.spelled_name.result
    (subst (λ (list : List Token). NamesHeader (macros c.args.log.now) c.args.here.now c.args.tokens.now (spelled_name list)) (sym c.as_slice-2.ensures)
    (Expands (sym (c.in_default.ensures ∙ ap header_text c.as_slice.ensures)) c.in_ok-expanded.ensures))
    c.spelled_name.ensures
