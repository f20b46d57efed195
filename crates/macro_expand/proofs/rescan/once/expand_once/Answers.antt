use Rattle.std.proofs.Common.{◌≡◌, ◌∙◌, ◌∷◌, [], sym, ap, map, subst, false, Ok, Err}
use Rattle.std.proofs.lemmas.Result.{err_from_is_err_and}
use Rattle.macro_expand.specs.declared.here.Here.{Here}
use Rattle.macro_expand.specs.Marked.{fresh}
use Rattle.macro_expand.specs.Macros.{Macros, macros_of}
use Rattle.macro_expand.specs.Calls.{first_list}
use Rattle.macro_expand.specs.Expansion.{has_lone_quote, single_level}
use Rattle.macro_expand.specs.Rules.{Lone, ExpandsOnce}
use Rattle.macro_expand.specs.Slots.{lists}
use Rattle.macro_expand.specs.Machine.{AnswersList}
use Rattle.macro_expand.proofs.OneLevel.{complete_level}
use Rattle.macro_expand.proofs.TextAnswers.{exact_ok, exact_err}
use Rattle.macro_expand.proofs.rescan.once.expand_once.Goals as goal

pub returns-then-has_lone_quote : goal.returns-then-has_lone_quote
returns-then-has_lone_quote c = record { exact = Lone (ap has_lone_quote (sym c.as_slice.ensures) ∙ sym c.has_lone_quote.ensures ∙ c.if-has_lone_quote.true) }

pub returns-in_err-out : goal.returns-in_err-out
returns-in_err-out c =
    let p = err_from_is_err_and c.from_residual-in_err-out.result c.from_residual-in_err-out.ensures.1 in
    let M : Macros = macros_of c.args.table.now in
    let H : Here = c.args.here.now in
    let slots = c.in_ok-slots.ensures ∙ ap (λ ts. map fresh ts ∷ []) c.as_slice-2.ensures in
    let lone : has_lone_quote c.args.tokens.now ≡ false = ap has_lone_quote (sym c.as_slice.ensures) ∙ sym c.has_lone_quote.ensures ∙ c.if-has_lone_quote.false in
    rw (p.1, p.2) (record {
      exact = exact_err (ExpandsOnce M H) (single_level M H) (complete_level M H) c.args.tokens.now (lists c.in_ok-slots.slots) lone slots c.in_err-out.field-0.0
          (subst (λ t. AnswersList (Err c.in_err-out.field-0.0) (single_level (macros_of t) H (first_list (lists c.in_ok-slots.slots)) 0)) c.new-definitions.ensures c.in_err-out.ensures);
    })

pub returns : goal.returns
returns c =
    let M : Macros = macros_of c.args.table.now in
    let H : Here = c.args.here.now in
    let slots = c.in_ok-slots.ensures ∙ ap (λ ts. map fresh ts ∷ []) c.as_slice-2.ensures in
    let lone : has_lone_quote c.args.tokens.now ≡ false = ap has_lone_quote (sym c.as_slice.ensures) ∙ sym c.has_lone_quote.ensures ∙ c.if-has_lone_quote.false in
    record {
      exact = exact_ok (ExpandsOnce M H) (single_level M H) (complete_level M H) c.args.tokens.now (lists c.in_ok-slots.slots) lone slots c.in_ok-out.out c.in_ok-all.all
          (subst (λ t. AnswersList (Ok c.in_ok-out.out) (single_level (macros_of t) H (first_list (lists c.in_ok-slots.slots)) 0)) c.new-definitions.ensures c.in_ok-out.ensures) c.in_ok-all.ensures;
    }
