use Rattle.std.proofs.Common.{◌≡◌, refl, sym, ◌∙◌, Err, inl}
use Rattle.pp_directives.specs.declared.directive.Directive.{Directive}
use Rattle.pp_directives.specs.Directives.{directive_of}
use Rattle.pp_unit.proofs.StepLemmas.{stopped_out, told, passed_steps, turned_steps, turn_stops, turned_ok}
use Rattle.pp_unit.proofs.PassLemmas.{acting_stop_by, own_stop_by, text_steps}
use Rattle.pp_unit.proofs.CauseLemmas.{plain_out, plain_turned}
use Rattle.pp_unit.proofs.directives.classify.classify_line.Goals as goal

pub returns-in_err-directive-clause-step : goal.returns-in_err-directive-clause-step
returns-in_err-directive-clause-step c =
    acting_stop_by c.args.open_file.now c.args.pending.now c.args.pending.now c.args.line.now c.args.log.now c.from_residual.result c.in_err-directive.field-0.0 c.from_residual.ensures.1
    (λ stores left marks has. inl (stopped_out c.args.line.now.number c.kind_of.result c.in_err-directive.field-0.0 c.in_err-directive.ensures c.kind_of.ensures.err))

pub returns-in_err-directive-clause-plain : goal.returns-in_err-directive-clause-plain
returns-in_err-directive-clause-plain c =
    own_stop_by c.args.line.now.number c.kind_of.result c.in_err-directive.field-0.0 c.from_residual.result c.in_err-directive.ensures (plain_out c.kind_of.result c.kind_of.ensures.err) c.from_residual.ensures.1

pub returns-in_err-in_line-clause-step : goal.returns-in_err-in_line-clause-step
returns-in_err-in_line-clause-step c =
    let d = c.in_ok-directive.directive in
    acting_stop_by c.args.open_file.now c.args.pending.now c.turn.new.pending c.args.line.now c.args.log.now c.from_residual-in_err-in_line.result c.in_err-in_line.field-0.0 c.from_residual-in_err-in_line.ensures.1
    (λ stores. turn_stops stores c.args.open_file.now c.args.pending.now c.turn.new.pending c.args.line.now c.args.log.now d c.turn.result c.in_err-in_line.field-0.0 (Err c.in_err-in_line.field-0.0)
    (told c.args.line.now.number c.kind_of.result d (λ (e : Directive). e ≡ directive_of c.args.line.now.tokens) c.in_ok-directive.ensures c.kind_of.ensures.ok) (sym (c.if-is_conditional.ensures)) c.turn.ensures c.in_err-in_line.ensures refl)

pub returns-in_err-in_line-clause-plain : goal.returns-in_err-in_line-clause-plain
returns-in_err-in_line-clause-plain c =
    own_stop_by c.args.line.now.number c.turn.result c.in_err-in_line.field-0.0 c.from_residual-in_err-in_line.result c.in_err-in_line.ensures
    (plain_turned c.args.open_file.now c.args.line.now c.args.log.now c.in_ok-directive.directive c.args.pending.now c.turn.new.pending c.turn.result c.turn.ensures) c.from_residual-in_err-in_line.ensures.1

pub returns-then-is_conditional-clause-step : goal.returns-then-is_conditional-clause-step
returns-then-is_conditional-clause-step c stores =
    let d = c.in_ok-directive.directive in
    turned_steps stores c.args.open_file.now c.args.pending.now c.turn.new.pending c.args.line.now c.args.log.now d tt
    (told c.args.line.now.number c.kind_of.result d (λ (e : Directive). e ≡ directive_of c.args.line.now.tokens) c.in_ok-directive.ensures c.kind_of.ensures.ok) (sym (c.if-is_conditional.ensures))
    (turned_ok c.args.line.now.number c.args.open_file.now c.args.line.now c.args.log.now d c.args.pending.now c.turn.new.pending c.turn.result tt c.in_ok-in_line.ensures c.turn.ensures)

pub returns-then-not-active-clause-step : goal.returns-then-not-active-clause-step
returns-then-not-active-clause-step c stores =
    let d = c.in_ok-directive.directive in
    passed_steps stores c.args.open_file.now c.args.pending.now c.args.line.now c.args.log.now d
    (told c.args.line.now.number c.kind_of.result d (λ (e : Directive). e ≡ directive_of c.args.line.now.tokens) c.in_ok-directive.ensures c.kind_of.ensures.ok) (sym (c.if-is_conditional.ensures)) (sym c.active.ensures ∙ c.if-not-active.true)

pub returns-then-is_text-clause-step : goal.returns-then-is_text-clause-step
returns-then-is_text-clause-step c stores =
    let d = c.in_ok-directive.directive in
    text_steps stores c.args.open_file.now c.args.pending.now c.args.line.now c.args.log.now d
    (told c.args.line.now.number c.kind_of.result d (λ (e : Directive). e ≡ directive_of c.args.line.now.tokens) c.in_ok-directive.ensures c.kind_of.ensures.ok) (sym c.if-is_text.ensures) (sym c.active.ensures ∙ c.if-not-active.false)

pub returns-clause-step : goal.returns-clause-step
returns-clause-step c =
    let d = c.in_ok-directive.directive in
    record {
      known = told c.args.line.now.number c.kind_of.result d (λ (e : Directive). e ≡ directive_of c.args.line.now.tokens) c.in_ok-directive.ensures c.kind_of.ensures.ok;
      other = sym (c.if-is_conditional.ensures);
      active = sym c.active.ensures ∙ c.if-not-active.false;
      same = refl;
    }
