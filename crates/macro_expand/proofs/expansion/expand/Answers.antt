use Rattle.std.proofs.Common.{◌≡◌, ◌∙◌, ◌∷◌, [], sym, ap, map, subst, false, Ok}
use Rattle.std.proofs.lemmas.Result.{err_from_is_err_and}
use Rattle.std.specs.List.{list_any}
use Rattle.pp_tokens.specs.declared.token.Token.{Token}
use Rattle.macro_expand.specs.declared.here.Here.{Here}
use Rattle.macro_expand.specs.Marked.{fresh, is_identifier}
use Rattle.macro_expand.specs.Macros.{Macros, macros_of}
use Rattle.macro_expand.specs.Calls.{first_list}
use Rattle.macro_expand.specs.Expansion.{has_lone_quote, expansion, tokens_of}
use Rattle.macro_expand.specs.Rules.{Lone, Expands, ExpandsTo}
use Rattle.macro_expand.specs.Slots.{lists}
use Rattle.macro_expand.specs.Machine.{IsFaultOf}
use Rattle.macro_expand.proofs.OneAnswer.{complete}
use Rattle.macro_expand.proofs.TextAnswers.{exact_tokens, exact_fault, unnamed}
use Rattle.macro_expand.proofs.expansion.expand.Goals as goal

pub returns-then-has_lone_quote : goal.returns-then-has_lone_quote
returns-then-has_lone_quote c = record { exact = Lone (ap has_lone_quote (sym c.as_slice.ensures) ∙ sym c.has_lone_quote.ensures ∙ c.if-has_lone_quote.true) }

pub returns-then-not-has_identifier : goal.returns-then-not-has_identifier
returns-then-not-has_identifier c =
    let M : Macros = macros_of c.args.table.now in
    let H : Here = c.args.here.now in
    let lone : has_lone_quote c.args.tokens.now ≡ false = ap has_lone_quote (sym c.as_slice.ensures) ∙ sym c.has_lone_quote.ensures ∙ c.if-has_lone_quote.false in
    let none : list_any (λ (t : Token). is_identifier t.kind) c.args.tokens.now ≡ false =
    ap (list_any (λ (t : Token). is_identifier t.kind)) (sym c.as_slice-2.ensures) ∙ sym c.has_identifier.ensures ∙ c.if-not-has_identifier.true in
    record { exact = subst (λ ts. ExpandsTo M H c.args.tokens.now (Ok ts)) (sym c.in_ok-copy.ensures) (unnamed M H c.args.tokens.now lone none) }

pub returns-in_err-out : goal.returns-in_err-out
returns-in_err-out c =
    let p = err_from_is_err_and c.from_residual-in_err-out.result c.from_residual-in_err-out.ensures.1 in
    let M : Macros = macros_of c.args.table.now in
    let H : Here = c.args.here.now in
    let slots = c.in_ok-slots.ensures ∙ ap (λ ts. map fresh ts ∷ []) c.as_slice-3.ensures in
    let lone : has_lone_quote c.args.tokens.now ≡ false = ap has_lone_quote (sym c.as_slice.ensures) ∙ sym c.has_lone_quote.ensures ∙ c.if-has_lone_quote.false in
    rw (p.1, p.2) (record {
      exact = exact_fault (Expands M H) (expansion M H) (complete M H) c.args.tokens.now (lists c.in_ok-slots.slots) lone slots c.in_err-out.field-0.0
          (subst (λ t. IsFaultOf c.in_err-out.field-0.0 (tokens_of (expansion (macros_of t) H (first_list (lists c.in_ok-slots.slots)) 0))) c.new-definitions.ensures c.in_err-out.ensures);
    })

pub returns : goal.returns
returns c =
    let M : Macros = macros_of c.args.table.now in
    let H : Here = c.args.here.now in
    let slots = c.in_ok-slots.ensures ∙ ap (λ ts. map fresh ts ∷ []) c.as_slice-3.ensures in
    let lone : has_lone_quote c.args.tokens.now ≡ false = ap has_lone_quote (sym c.as_slice.ensures) ∙ sym c.has_lone_quote.ensures ∙ c.if-has_lone_quote.false in
    record {
      exact = exact_tokens (Expands M H) (expansion M H) (complete M H) c.args.tokens.now (lists c.in_ok-slots.slots) lone slots c.from_vec.result
          (subst (λ t. tokens_of (expansion (macros_of t) H (first_list (lists c.in_ok-slots.slots)) 0) ≡ Ok c.in_ok-out.out.items) c.new-definitions.ensures c.in_ok-out.ensures ∙ ap Ok (sym c.from_vec.ensures));
    }
