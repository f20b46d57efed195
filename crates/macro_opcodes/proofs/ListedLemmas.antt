-- Values that an operand table lists, one after another, and the forms of standard opcodes.
use Rattle.std.proofs.Common.{◌≡◌, ◌≢◌, ℕ, ◌+◌, ◌<◌, Bool, true, false, eqb, cond, List, [], ◌∷◌, ◌++◌, length, get_or, drop, Option, Some, None, Result, Ok, Err, refl, ap, ◌∙◌, sym, append_assoc}
use Rattle.std.proofs.lemmas.List.{drop_more}
use borrow.Author.Tests.{apart_eqb}
use Rattle.mac_base.specs.declared.form.Form.{Form}
use Rattle.mac_base.specs.declared.value.Sizes.{Sizes}
use Rattle.mac_base.specs.Input.{Input, ◌>>=◌}
use Rattle.mac_base.specs.Forms.{form_by_code, layout_by_form}
use Rattle.mac_base.specs.Values.{Value, value_at}
use Rattle.unit_header.specs.declared.fault.UnitFault.{UnitFault}
use Rattle.unit_header.specs.declared.opcode.Opcode.{Opcode}
use Rattle.unit_header.specs.declared.opcode.Opcode.TheVariants.{Define, Undef, StartFile, EndFile, DefineStrp, UndefStrp, Import, DefineSup, UndefSup, ImportSup, DefineStrx, UndefStrx, Other}
use Rattle.unit_header.specs.Faults.{field}
use Rattle.unit_header.specs.Opcodes.{opcode_by_byte, standard_forms}
use Rattle.unit_header.specs.Header.{Header, forms_of, forms_or}
use Rattle.macro_opcodes.specs.Reading.{value_in, values_at}

-- these values, and those that were read behind them
abbrev pub behind : List Value → Result (List Value × Input) UnitFault → Result (List Value × Input) UnitFault
behind front (Ok read) = Ok (front ++ read.0, read.1)
behind front (Err fault) = Err fault

behind_one : (front : List Value) (v : Value) (r : Result (List Value × Input) UnitFault) → behind front (r >>= λ vs. Ok (v ∷ vs.0, vs.1)) ≡ behind (front ++ v ∷ []) r
behind_one front v (Ok read) = ap (λ (vs : List Value). Ok (vs, read.1)) (sym (append_assoc front (v ∷ []) read.0))
behind_one front v (Err fault) = refl

values_next : (sizes : Sizes) (codes : List ℕ) (i : ℕ) (p : Input) → i < length codes → values_at sizes (drop i codes) p ≡ (value_in sizes (form_by_code (get_or codes i 0)) p >>= λ value. values_at sizes (drop (i + 1) codes) value.1 >>= λ values. Ok (value.0 ∷ values.0, values.1))
values_next sizes codes i p within = ap (λ (cs : List ℕ). values_at sizes cs p) (drop_more codes i 0 within)

-- one more value was passed
pub values_on : (sizes : Sizes) (codes : List ℕ) (i : ℕ) (p q : Input) (front : List Value) (v : Value) → i < length codes → value_in sizes (form_by_code (get_or codes i 0)) p ≡ Ok (v, q) → behind front (values_at sizes (drop i codes) p) ≡ behind (front ++ v ∷ []) (values_at sizes (drop (i + 1) codes) q)
values_on sizes codes i p q front v within is =
    let read : values_at sizes (drop i codes) p ≡ (values_at sizes (drop (i + 1) codes) q >>= λ values. Ok (v ∷ values.0, values.1)) = values_next sizes codes i p within ∙ rw is refl in
    ap (behind front) read ∙ behind_one front v (values_at sizes (drop (i + 1) codes) q)

-- the next value can't be read
pub values_err : (sizes : Sizes) (codes : List ℕ) (i : ℕ) (p : Input) (front : List Value) (fault : UnitFault) → i < length codes → value_in sizes (form_by_code (get_or codes i 0)) p ≡ Err fault → behind front (values_at sizes (drop i codes) p) ≡ Err fault
values_err sizes codes i p front fault within is = let read : values_at sizes (drop i codes) p ≡ Err fault = values_next sizes codes i p within ∙ rw is refl in ap (behind front) read

-- a value in a form that is one
pub value_in-some : (sizes : Sizes) (o : Option Form) (form : Form) (p : Input) (x : Value × Input) → o ≡ Some form → value_at sizes (layout_by_form form) p ≡ Ok x → value_in sizes o p ≡ Ok x
value_in-some sizes None form p x is read = cc
value_in-some sizes (Some other) form p x is read = let same : other ≡ form = cc in ap (λ (f : Form). field (value_at sizes (layout_by_form f) p)) same ∙ ap (field {A = Value × Input}) read

own_forms : (t : Bool) (kind : Opcode) (listed : Option (List ℕ)) → t ≡ false → kind ≢ Other → cond t None (forms_or (standard_forms kind) listed) ≡ standard_forms kind
own_forms true kind listed is other = cc
own_forms false Define listed is other = refl
own_forms false Undef listed is other = refl
own_forms false StartFile listed is other = refl
own_forms false EndFile listed is other = refl
own_forms false DefineStrp listed is other = refl
own_forms false UndefStrp listed is other = refl
own_forms false Import listed is other = refl
own_forms false DefineSup listed is other = refl
own_forms false UndefSup listed is other = refl
own_forms false ImportSup listed is other = refl
own_forms false DefineStrx listed is other = refl
own_forms false UndefStrx listed is other = refl
own_forms false Other listed is other = absurd (other refl)

-- a standard opcode has its own forms under every header
pub forms_of-standard : (h : Header) (opcode : ℕ) → opcode ≢ 0 → opcode_by_byte opcode ≢ Other → forms_of h opcode ≡ standard_forms (opcode_by_byte opcode)
forms_of-standard h opcode some standard = own_forms (eqb opcode 0) (opcode_by_byte opcode) _ (apart_eqb opcode 0 some) standard
