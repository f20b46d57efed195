-- What is read at a place is what its bytes spell, and what is spelled is read.
use Rattle.std.proofs.Common.{◌≡◌, ℕ, Bool, true, false, eqb, cond, List, [], ◌∷◌, ◌++◌, length, Option, Some, None, Result, Ok, inl, inr, refl, ap, subst, ◌∙◌, sym, arith}
use borrow.Author.Tests.{eqb-true}
use Rattle.mac_base.specs.declared.form.Form.{Form}
use Rattle.mac_base.specs.declared.value.Sizes.{Sizes}
use Rattle.mac_base.specs.Input.{Input, ahead, ◌>>=◌}
use Rattle.mac_base.specs.Fields.{number_at}
use Rattle.mac_base.specs.Forms.{form_by_code, layout_by_form}
use Rattle.mac_base.specs.Values.{Value, value_at}
use Rattle.mac_base.specs.Spelling.{Between}
use Rattle.mac_base.proofs.Choices.{bind_ok, same_ok, same_some, none_is_no_some, chosen}
use Rattle.mac_base.proofs.InputLemmas.{between_none, between_both, between_cut, byte_at-takes, byte_at-again}
use Rattle.mac_base.proofs.ValueLemmas.{value_at-takes, value_at-again}
use Rattle.unit_header.specs.declared.fault.UnitFault.{UnitFault}
use Rattle.unit_header.specs.declared.opcode.Opcode.{Opcode}
use Rattle.unit_header.specs.Faults.{field}
use Rattle.unit_header.specs.Opcodes.{opcode_by_byte, standard_forms}
use Rattle.unit_header.specs.Rows.{listed_forms}
use Rattle.unit_header.specs.Header.{Header, forms_of, forms_or}
use Rattle.unit_header.proofs.TableLemmas.{field_ok}
use Rattle.macro_opcodes.specs.Entry.{Operand, Entry}
use Rattle.macro_opcodes.specs.Spells.{sizes_of, IsOfForm, AreValues, said_by, IsEntry}
use Rattle.macro_opcodes.specs.Reading.{value_in, values_at, said_at, made_of, after_opcode, entry_at}

value_takes : (sizes : Sizes) (form : Option Form) (p q : Input) (v : Value) → value_in sizes form p ≡ Ok (v, q) → (bytes : List ℕ) × Between p q bytes × IsOfForm sizes form bytes v
value_takes sizes None p q v is = cc
value_takes sizes (Some form) p q v is = value_at-takes sizes (layout_by_form form) p q v (field_ok (value_at sizes (layout_by_form form) p) (v, q) is)

value_again : (sizes : Sizes) (form : Option Form) (p q : Input) (bytes : List ℕ) (v : Value) → Between p q bytes → IsOfForm sizes form bytes v → value_in sizes form p ≡ Ok (v, q)
value_again sizes None p q bytes v between is = absurd is
value_again sizes (Some form) p q bytes v between is = ap (field {A = Value × Input}) (value_at-again sizes (layout_by_form form) p q bytes v between is)

values_takes : (h : Sizes) (forms : List ℕ) (p q : Input) (vs : List Value) → values_at h forms p ≡ Ok (vs, q) → (bytes : List ℕ) × Between p q bytes × AreValues h forms bytes vs
values_takes h [] p q vs is =
    let same = same_ok ([], p) (vs, q) is in
    let none : [] ≡ vs = ap (λ (x : List Value × Input). x.0) same in
    let place : p ≡ q = ap (λ (x : List Value × Input). x.1) same in
    ([], subst (λ (z : Input). Between p z []) place (between_none p), subst (AreValues h [] []) none refl)
values_takes h (form ∷ forms) p q vs is =
    let first = bind_ok (value_in h (form_by_code form) p) (λ (v : Value × Input). values_at h forms v.1 >>= λ ws. Ok (v.0 ∷ ws.0, ws.1)) (vs, q) is in
    let v = first.0 in
    let second = bind_ok (values_at h forms v.1) (λ (ws : List Value × Input). Ok (v.0 ∷ ws.0, ws.1)) (vs, q) first.2 in
    let ws = second.0 in
    let one = value_takes h (form_by_code form) p v.1 v.0 first.1 in
    let more = values_takes h forms v.1 ws.1 ws.0 second.1 in
    let same = same_ok (v.0 ∷ ws.0, ws.1) (vs, q) second.2 in
    let values : v.0 ∷ ws.0 ≡ vs = ap (λ (x : List Value × Input). x.0) same in
    let place : ws.1 ≡ q = ap (λ (x : List Value × Input). x.1) same in
    (one.0 ++ more.0, subst (λ (z : Input). Between p z (one.0 ++ more.0)) place (between_both p v.1 ws.1 one.0 more.0 one.1 more.1), subst (AreValues h (form ∷ forms) (one.0 ++ more.0)) values (one.0, more.0, refl {a = one.0 ++ more.0}, one.2, more.2))

values_again : (h : Sizes) (forms : List ℕ) (p q : Input) (bytes : List ℕ) (vs : List Value) → Between p q bytes → AreValues h forms bytes vs → values_at h forms p ≡ Ok (vs, q)
values_again h [] p q bytes [] between are =
    let here : q ≡ p = between.place ∙ ap (λ (xs : List ℕ). ahead p (length xs)) are ∙ ap (λ n. record { bytes = p.bytes; at = n }) (omega arith) in
    ap (λ (z : Input). Ok ([], z)) (sym here)
values_again h [] p q bytes (v ∷ vs) between are = absurd are
values_again h (form ∷ forms) p q bytes [] between are = absurd are
values_again h (form ∷ forms) p q bytes (v ∷ vs) between are =
    let front = are.0 in
    let back = are.1 in
    let parts = between_cut p q front back (subst (Between p q) are.2 between) in
    rw (value_again h (form_by_code form) p (ahead p (length front)) front v parts.0 are.3, values_again h forms (ahead p (length front)) q back vs parts.1 are.4) refl

said_takes : (h : Sizes) (at : ℕ) (opcode : Opcode) (p q : Input) (o : Option (List ℕ)) (said : ℕ × Operand) → said_at h at opcode p o ≡ Ok (said, q) → (forms : List ℕ) × (values : List Value) × (bytes : List ℕ) × (o ≡ Some forms) × Between p q bytes × AreValues h forms bytes values × (said ≡ said_by opcode values)
said_takes h at opcode p q None said is = cc
said_takes h at opcode p q (Some forms) said is =
    let read = bind_ok (values_at h forms p) (λ (vs : List Value × Input). Ok (said_by opcode vs.0, vs.1)) (said, q) is in
    let vs = read.0 in
    let found = values_takes h forms p vs.1 vs.0 read.1 in
    let same = same_ok (said_by opcode vs.0, vs.1) (said, q) read.2 in
    let place : vs.1 ≡ q = ap (λ (x : (ℕ × Operand) × Input). x.1) same in
    (forms, vs.0, found.0, refl, subst (λ (z : Input). Between p z found.0) place found.1, found.2, sym (ap (λ (x : (ℕ × Operand) × Input). x.0) same))

made_takes : (at opcode : ℕ) (said : (ℕ × Operand) × Input) (e : Entry) (q : Input) → made_of at opcode said ≡ Ok (Some e, q) → (at ≡ e.at) × (opcode ≡ e.opcode) × (◌≡◌ {A = ℕ × Operand} said.0 (e.line, e.operand)) × (said.1 ≡ q)
made_takes at opcode said e q is =
    let made : Entry = record { at = at; opcode = opcode; line = said.0.0; operand = said.0.1 } in
    let same = same_ok (Some made, said.1) (Some e, q) is in
    let entry : made ≡ e = same_some made e (ap (λ (x : Option Entry × Input). x.0) same) in
    (ap (λ (x : Entry). x.at) entry, ap (λ (x : Entry). x.opcode) entry, ap (λ (x : Entry). (x.line, x.operand)) entry, ap (λ (x : Option Entry × Input). x.1) same)

behind_takes : (h : Header) (at : ℕ) (opcode : ℕ × Input) (e : Entry) (q : Input) → after_opcode h at opcode ≡ Ok (Some e, q) → (bytes : List ℕ) × Between opcode.1 q bytes × IsEntry h (opcode.0 ∷ bytes) e × (e.at ≡ at)
behind_takes h at opcode e q is =
    elim (chosen (eqb opcode.0 0) _ _ _ is) [
      | inl closed ↦ absurd (none_is_no_some e (ap (λ (x : Option Entry × Input). x.0) (same_ok (None, opcode.1) (Some e, q) closed.1)))
      | inr more ↦
          let read = bind_ok (said_at (sizes_of h) at (opcode_by_byte opcode.0) opcode.1 (forms_of h opcode.0)) (made_of at opcode.0) (Some e, q) more.1 in
          let found = said_takes (sizes_of h) at (opcode_by_byte opcode.0) opcode.1 read.0.1 (forms_of h opcode.0) read.0.0 read.1 in
          let made = made_takes at opcode.0 read.0 e q read.2 in
          (found.2, subst (λ (z : Input). Between opcode.1 z found.2) made.3 found.4, (made.1, found.0, found.1, found.3, found.5, sym made.2 ∙ found.6), sym made.0)
    ]

behind_closes : (h : Header) (at : ℕ) (opcode : ℕ × Input) (q : Input) → after_opcode h at opcode ≡ Ok (None, q) → (opcode.0 ≡ 0) × (opcode.1 ≡ q)
behind_closes h at opcode q is =
    elim (chosen (eqb opcode.0 0) _ _ _ is) [
      | inl closed ↦ (eqb-true opcode.0 0 closed.0, ap (λ (x : Option Entry × Input). x.1) (same_ok (None, opcode.1) (None, q) closed.1))
      | inr more ↦
          let read = bind_ok (said_at (sizes_of h) at (opcode_by_byte opcode.0) opcode.1 (forms_of h opcode.0)) (made_of at opcode.0) (None, q) more.1 in
          absurd (none_is_no_some _ (sym (ap (λ (x : Option Entry × Input). x.0) (same_ok (Some (record { at = at; opcode = opcode.0; line = read.0.0.0; operand = read.0.0.1 }), read.0.1) (None, q) read.2))))
    ]

-- what is read as an entry is spelled as it is
pub entry_takes : (h : Header) (p q : Input) (e : Entry) → entry_at h p ≡ Ok (Some e, q) → (bytes : List ℕ) × Between p q bytes × IsEntry h bytes e × (e.at ≡ p.at)
unfolding entry_at
entry_takes h p q e is =
    let first = bind_ok (field (number_at 1 p)) (after_opcode h p.at) (Some e, q) is in
    let byte = byte_at-takes p first.0.1 first.0.0 (field_ok (number_at 1 p) first.0 first.1) in
    let found = behind_takes h p.at first.0 e q first.2 in
    (first.0.0 ∷ found.0, between_both p first.0.1 q (first.0.0 ∷ []) found.0 byte found.1, found.2, found.3)

-- and so is the closing 0
pub close_takes : (h : Header) (p q : Input) → entry_at h p ≡ Ok (None, q) → Between p q (0 ∷ [])
unfolding entry_at
close_takes h p q is =
    let first = bind_ok (field (number_at 1 p)) (after_opcode h p.at) (None, q) is in
    let byte = byte_at-takes p first.0.1 first.0.0 (field_ok (number_at 1 p) first.0 first.1) in
    let found = behind_closes h p.at first.0 q first.2 in
    subst (λ (z : Input). Between p z (0 ∷ [])) found.1 (subst (λ (b : ℕ). Between p first.0.1 (b ∷ [])) found.0 byte)

no_forms_if : (t : Bool) (own listed : Option (List ℕ)) (forms : List ℕ) → cond t None (forms_or own listed) ≡ Some forms → t ≡ false
no_forms_if true own listed forms is = cc
no_forms_if false own listed forms is = refl

pub no_forms_at_zero : (h : Header) (opcode : ℕ) (forms : List ℕ) → forms_of h opcode ≡ Some forms → eqb opcode 0 ≡ false
no_forms_at_zero h opcode forms is = no_forms_if (eqb opcode 0) (standard_forms (opcode_by_byte opcode)) (listed_forms h.operands opcode) forms is

said_again : (h : Sizes) (at : ℕ) (opcode : Opcode) (p q : Input) (forms : List ℕ) (values : List Value) (bytes : List ℕ) → Between p q bytes → AreValues h forms bytes values → said_at h at opcode p (Some forms) ≡ Ok (said_by opcode values, q)
said_again h at opcode p q forms values bytes between are = rw (values_again h forms p q bytes values between are) refl

made_again : (opcode : ℕ) (said : ℕ × Operand) (e : Entry) (q : Input) → opcode ≡ e.opcode → ◌≡◌ {A = ℕ × Operand} (e.line, e.operand) said → made_of e.at opcode (said, q) ≡ Ok (Some e, q)
made_again opcode said e q same is = ap (λ (x : ℕ × (ℕ × Operand)). Ok (Some (record { at = e.at; opcode = x.0; line = x.1.0; operand = x.1.1 }), q)) (λ i. (same i, sym is i))

behind_again : (t : Bool) (sizes : Sizes) (at : ℕ) (kind : Opcode) (opcode : ℕ) (p q : Input) (o : Option (List ℕ)) (codes : List ℕ) (said : ℕ × Operand) → t ≡ false → o ≡ Some codes → said_at sizes at kind p (Some codes) ≡ Ok (said, q) → (cond t (Ok (None, p)) (said_at sizes at kind p o >>= made_of at opcode)) ≡ made_of at opcode (said, q)
behind_again true sizes at kind opcode p q o codes said is forms read = cc
behind_again false sizes at kind opcode p q o codes said is forms read =
    ap (λ (x : Option (List ℕ)). said_at sizes at kind p x >>= made_of at opcode) forms ∙ ap (λ (r : Result ((ℕ × Operand) × Input) UnitFault). r >>= made_of at opcode) read

-- what spells an entry is read as it
pub entry_again : (h : Header) (p q : Input) (bytes : List ℕ) (e : Entry) → Between p q bytes → IsEntry h bytes e → e.at ≡ p.at → entry_at h p ≡ Ok (Some e, q)
unfolding entry_at
entry_again h p q [] e between is here = absurd is
entry_again h p q (opcode ∷ bytes) e between is here =
    let parts = between_cut p q (opcode ∷ []) bytes between in
    let byte = byte_at-again p (ahead p 1) opcode parts.0 in
    let some = no_forms_at_zero h opcode is.1 is.3 in
    let said = said_again (sizes_of h) p.at (opcode_by_byte opcode) (ahead p 1) q is.1 is.2 bytes parts.1 is.4 in
    let first : entry_at h p ≡ after_opcode h p.at (opcode, ahead p 1) = rw byte refl in
    let made : made_of p.at opcode (said_by (opcode_by_byte opcode) is.2, q) ≡ Ok (Some e, q) = rw (← here) (made_again opcode (said_by (opcode_by_byte opcode) is.2) e q is.0 is.5) in
    first ∙ behind_again (eqb opcode 0) (sizes_of h) p.at (opcode_by_byte opcode) opcode (ahead p 1) q (forms_of h opcode) is.1 (said_by (opcode_by_byte opcode) is.2) some is.3 said ∙ made

pub close_again : (h : Header) (p q : Input) → Between p q (0 ∷ []) → entry_at h p ≡ Ok (None, q)
unfolding entry_at
close_again h p q between = rw (byte_at-again p q 0 between) refl
