use Rattle.std.proofs.Common.{◌≡◌, ◌∷◌, [], ◌++◌, Some, get_or, ap, sym, ◌∙◌}
use Rattle.mac_base.specs.Forms.{form_by_code}
use Rattle.mac_base.specs.Values.{value_of}
use Rattle.macro_opcodes.proofs.ListedLemmas.{values_on, value_in-some}
use Rattle.macro_opcodes.proofs.operands.skip_values.Goals as goal

pub loop-code-preserved : goal.loop-code-preserved
loop-code-preserved c =
    let front = c.loop-code.invariant.0 in
    let i = c.loop-code.code-index in
    let codes = c.args.codes.now in
    let v = value_of c.in_ok-read_value.field-0 in
    let form : form_by_code (get_or codes i 0) ≡ Some c.in-Some.form = ap form_by_code (sym c.from.ensures) ∙ sym c.in-Some.ensures in
    let read = value_in-some c.args.sizes (form_by_code (get_or codes i 0)) c.in-Some.form c.loop-code.cursor (v, c.read_value.new.cursor) form c.in_ok-read_value.ensures in
    (front ++ v ∷ [], sym (values_on c.args.sizes codes i c.loop-code.cursor c.read_value.new.cursor front v c.loop-code-test.true read) ∙ c.loop-code.invariant.1)
