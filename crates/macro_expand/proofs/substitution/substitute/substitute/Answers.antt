use Rattle.std.proofs.Common.{rules, ◌≡◌, ◌∙◌, sym, map}
use Rattle.std.specs.Prelude.{is_some}
use Rattle.std.proofs.lemmas.Result.{err_from_is_err_and}
use Rattle.macro_expand.specs.States.{argument_of, hidden_names, marked}
use Rattle.macro_expand.proofs.PassLemmas.{put_in_fault, pasted_fault, all_passes}
use Rattle.macro_expand.proofs.PlainLemmas.{plain_list}
use Rattle.macro_expand.proofs.substitution.substitute.substitute.Goals as goal

pub returns-in_err-cells : goal.returns-in_err-cells
returns-in_err-cells c =
    let body : c.as_slice-body.result.now ≡ c.args.def.now.body = search rules in
    let calls : c.is_some-calls.result ≡ is_some c.args.def.now.params = search rules in
    let p = err_from_is_err_and c.from_residual-in_err-cells.result c.from_residual-in_err-cells.ensures.1 in
    rw (p.1, p.2) (put_in_fault c.args.def.now c.args.name.now c.args.space c.is_some-calls.result (hidden_names c.args.hides.now) (map argument_of c.args.args.now) _ calls body c.in_err-cells.field-0.0 c.in_err-cells.ensures)

pub returns-in_err-joined : goal.returns-in_err-joined
returns-in_err-joined c =
    let body : c.as_slice-body.result.now ≡ c.args.def.now.body = search rules in
    let calls : c.is_some-calls.result ≡ is_some c.args.def.now.params = search rules in
    let p = err_from_is_err_and c.from_residual-in_err-joined.result c.from_residual-in_err-joined.ensures.1 in
    rw (p.1, p.2) (pasted_fault c.args.def.now c.args.name.now c.args.space c.is_some-calls.result (hidden_names c.args.hides.now) (map argument_of c.args.args.now) _ calls body c.in_ok-cells.cells.items c.reverse.new.self.items c.in_ok-cells.ensures c.reverse.ensures.items c.in_err-joined.field-0.0 c.in_err-joined.ensures)

pub returns : goal.returns
returns c =
    let body : c.as_slice-body.result.now ≡ c.args.def.now.body = search rules in
    let calls : c.is_some-calls.result ≡ is_some c.args.def.now.params = search rules in
    all_passes c.args.def.now c.args.name.now c.args.space c.is_some-calls.result (hidden_names c.args.hides.now) (map argument_of c.args.args.now) _ calls body c.in_ok-cells.cells.items c.reverse.new.self.items c.in_ok-cells.ensures c.reverse.ensures.items c.in_ok-joined.joined.items (map marked c.in_ok-list-2.list.items) c.in_ok-joined.ensures c.in_ok-list-2.ensures

pub returns-then-goes_in : goal.returns-then-goes_in
returns-then-goes_in c =
    let body : c.as_slice-body.result.now ≡ c.args.def.now.body = search rules in
    let calls : c.is_some-calls.result ≡ is_some c.args.def.now.params = search rules in
    plain_list c.args.def.now c.args.name.now c.args.space c.is_some-calls.result (hidden_names c.args.hides.now) (map argument_of c.args.args.now) c.as_slice-body.result.now (map marked c.in_ok-list.list.items) calls body (sym c.goes_in.ensures ∙ c.if-goes_in.true) c.in_ok-list.ensures
