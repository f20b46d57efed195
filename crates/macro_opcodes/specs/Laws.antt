-- How reading entries and whole macro units and spelling them agree, and what is written is spelled so.
use Rattle.std.specs.Prelude.{◌≡◌, ℕ, [], ◌∷◌, List, Some, None, Ok, Err}
use Rattle.mac_base.specs.Input.{Input}
use Rattle.mac_base.specs.Spelling.{Between}
use Rattle.unit_header.specs.declared.fault.UnitFault.{UnitFault}
use Rattle.unit_header.specs.Header.{Header}
use Rattle.unit_header.specs.Reading.{header_at}
use Rattle.macro_opcodes.specs.Entry.{Entry}
use Rattle.macro_opcodes.specs.Spells.{IsEntry, Spells}
use Rattle.macro_opcodes.specs.Reading.{entry_at, AreRead}
use Rattle.macro_opcodes.specs.declared.entry.OutEntry.{OutEntry}
use Rattle.macro_opcodes.specs.Writing.{read_as, shape_of, entry_bytes, Fits, AreSmall}

-- what is read is spelled by the bytes that are passed over
pub record ReadIsSpelled : Type 0 where
  pub entry : (h : Header) (p q : Input) (e : Entry) → entry_at h p ≡ Ok (Some e, q) → (bytes : List ℕ) × Between p q bytes × IsEntry h bytes e × (e.at ≡ p.at)
  pub end : (h : Header) (p q : Input) → entry_at h p ≡ Ok (None, q) → Between p q (0 ∷ [])

-- what is spelled is read, whatever follows
pub record SpelledIsRead : Type 0 where
  pub entry : (h : Header) (p q : Input) (bytes : List ℕ) (e : Entry) → Between p q bytes → IsEntry h bytes e → e.at ≡ p.at → entry_at h p ≡ Ok (Some e, q)
  pub end : (h : Header) (p q : Input) → Between p q (0 ∷ []) → entry_at h p ≡ Ok (None, q)

-- at most one macro unit is at an offset
abbrev pub OneUnit : Type 0
OneUnit = (section : List ℕ) (offset : ℕ) (h h' : Header) (es es' : List Entry) (end end' : ℕ) →
    Spells section offset h es end → Spells section offset h' es' end' → (h ≡ h') × (es ≡ es') × (end ≡ end')

-- what of a macro unit is read, and what a fault says of it
pub record UnitsAreRead : Type 0 where
  -- one that is spelled is read: its header, its entries one after another, and the closing 0
  pub complete : (section : List ℕ) (offset : ℕ) (h : Header) (es : List Entry) (end : ℕ) → Spells section offset h es end
      → (p : Input) × (q : Input) × (header_at (record { bytes = section; at = offset }) ≡ Ok (h, p)) × AreRead h p es q × (entry_at h q ≡ Ok (None, record { bytes = section; at = end }))
  -- and one that is read so is spelled
  pub sound : (section : List ℕ) (offset : ℕ) (h : Header) (es : List Entry) (p q r : Input) → header_at (record { bytes = section; at = offset }) ≡ Ok (h, p) → AreRead h p es q → entry_at h q ≡ Ok (None, r) → Spells section offset h es r.at
  -- where the header has a fault none is spelled
  pub no_header : (section : List ℕ) (offset : ℕ) (fault : UnitFault) → header_at (record { bytes = section; at = offset }) ≡ Err fault → (h : Header) (es : List Entry) (end : ℕ) → Spells section offset h es end → ⊥
  -- nor where an entry has one
  pub no_entry : (section : List ℕ) (offset : ℕ) (h : Header) (es : List Entry) (p q : Input) (fault : UnitFault) → header_at (record { bytes = section; at = offset }) ≡ Ok (h, p) → AreRead h p es q → entry_at h q ≡ Err fault
      → (h' : Header) (es' : List Entry) (end : ℕ) → Spells section offset h' es' end → ⊥
  -- at most one entry is at a place
  pub one_entry : (h : Header) (p q q' : Input) (a b : List ℕ) (e f : Entry) → Between p q a → Between p q' b → IsEntry h a e → IsEntry h b f → e.at ≡ p.at → f.at ≡ p.at → (e ≡ f) × (q ≡ q')

-- what is written of an entry spells it under any header of that width, so it is read again, whatever follows
pub record WrittenIsRead : Type 0 where
  pub spelled : (h : Header) (at : ℕ) (e : OutEntry) → Fits h.wide (shape_of e) → AreSmall (shape_of e) → IsEntry h (entry_bytes h.wide e) (read_as at e)
  pub again : (h : Header) (p q : Input) (e : OutEntry) → Fits h.wide (shape_of e) → AreSmall (shape_of e) → Between p q (entry_bytes h.wide e) → entry_at h p ≡ Ok (Some (read_as p.at e), q)
