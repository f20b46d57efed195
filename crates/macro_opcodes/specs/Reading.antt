-- What reading the entries of a macro unit gives at each place: the entry and the place after it, or the first fault with its byte.
use Rattle.std.specs.Prelude.{◌≡◌, ℕ, ◌==◌, if◌then◌else◌, List, [], ◌∷◌, Option, Some, None, Result, Ok, Err}
use Rattle.mac_base.specs.Input.{Input, ◌>>=◌}
use Rattle.mac_base.specs.Fields.{number_at}
use Rattle.mac_base.specs.Forms.{form_by_code, layout_by_form}
use Rattle.mac_base.specs.Values.{Value, value_at}
use Rattle.mac_base.specs.declared.form.Form.{Form}
use Rattle.mac_base.specs.declared.value.Sizes.{Sizes}
use Rattle.unit_header.specs.declared.fault.UnitFault.{UnitFault}
use Rattle.unit_header.specs.declared.fault.UnitKind.TheVariants.{Form as UnknownForm, Opcode as UnknownOpcode}
use Rattle.unit_header.specs.declared.opcode.Opcode.{Opcode}
use Rattle.unit_header.specs.Faults.{field}
use Rattle.unit_header.specs.Opcodes.{opcode_by_byte}
use Rattle.unit_header.specs.Header.{Header, forms_of}
use Rattle.macro_opcodes.specs.Entry.{Operand, Entry}
use Rattle.macro_opcodes.specs.Spells.{sizes_of, said_by}

-- a value in a form, if it is one
abbrev pub value_in : Sizes → Option Form → Input → Result (Value × Input) UnitFault
value_in sizes None p = Err (record { at = p.at; what = UnknownForm })
value_in sizes (Some form) p = field (value_at sizes (layout_by_form form) p)

-- values in the forms of these codes, one after another
abbrev pub values_at : Sizes → List ℕ → Input → Result (List Value × Input) UnitFault
values_at sizes [] p = Ok ([], p)
values_at sizes (code ∷ codes) p = value_in sizes (form_by_code code) p >>= λ value. values_at sizes codes value.1 >>= λ values. Ok (value.0 ∷ values.0, values.1)

-- the line and the rest of an entry whose opcode is at `at`, by the codes of its forms
abbrev pub said_at : Sizes → ℕ → Opcode → Input → Option (List ℕ) → Result ((ℕ × Operand) × Input) UnitFault
said_at sizes at opcode p None = Err (record { at = at; what = UnknownOpcode })
said_at sizes at opcode p (Some codes) = values_at sizes codes p >>= λ values. Ok (said_by opcode values.0, values.1)

-- an entry of these parts
abbrev pub made_of : ℕ → ℕ → (ℕ × Operand) × Input → Result (Option Entry × Input) UnitFault
made_of at opcode said = Ok (Some (record { at = at; opcode = opcode; line = said.0.0; operand = said.0.1 }), said.1)

-- what follows an opcode at `at`
abbrev pub after_opcode : Header → ℕ → ℕ × Input → Result (Option Entry × Input) UnitFault
after_opcode h at opcode =
    if opcode.0 == 0 then Ok (None, opcode.1) else (said_at (sizes_of h) at (opcode_by_byte opcode.0) opcode.1 (forms_of h opcode.0) >>= made_of at opcode.0)

-- the entry at a place, or nothing at the closing 0
unfoldable pub entry_at : Header → Input → Result (Option Entry × Input) UnitFault
entry_at h p = field (number_at 1 p) >>= after_opcode h p.at

-- these entries are read one after another from p on, and q is after them
abbrev pub AreRead : Header → Input → List Entry → Input → Type 0
AreRead h p [] q = p ≡ q
AreRead h p (e ∷ es) q = (r : Input) × (entry_at h p ≡ Ok (Some e, r)) × AreRead h r es q

-- what a call that goes over values answers: the place after them, or the fault
abbrev pub Skips : Input → Result (Unit {0}) UnitFault → Result (List Value × Input) UnitFault → Type 0
Skips new (Ok done) reading = (values : List Value) × (reading ≡ Ok (values, new))
Skips new (Err fault) reading = reading ≡ Err fault
