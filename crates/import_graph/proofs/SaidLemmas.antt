-- What was read where a turn of the walk is known.
use Rattle.std.proofs.Common.{◌≡◌, ℕ, ◌<◌, Bool, true, false, cond, eqb, nat_lt, List, length, Option, Some, None, Result, Ok, Err, refl, ap, subst, sym, ◌∙◌}
use borrow.Author.Tests.{ltb-true}
use Rattle.mac_base.specs.Input.{Input, ◌>>=◌}
use Rattle.mac_base.specs.SectionBytes.{SectionBytes}
use Rattle.mac_base.proofs.Choices.{same_ok, guarded, bind_ok}
use Rattle.unit_header.specs.declared.fault.UnitFault.{UnitFault}
use Rattle.unit_header.specs.declared.fault.UnitKind.{UnitKind}
use Rattle.unit_header.specs.declared.fault.UnitKind.TheVariants.{StartWithoutEnd, ImportRange}
use Rattle.unit_header.specs.declared.opcode.Opcode.{Opcode}
use Rattle.unit_header.specs.declared.opcode.Opcode.TheVariants.{Define as DefineCode, Undef as UndefCode, StartFile, EndFile, DefineStrp, UndefStrp, Import, DefineSup, UndefSup, ImportSup, DefineStrx, UndefStrx, Other as Listed}
use Rattle.unit_header.specs.Opcodes.{opcode_by_byte}
use Rattle.unit_header.specs.Header.{Header}
use Rattle.unit_header.specs.Reading.{header_at}
use Rattle.macro_opcodes.specs.Entry.{Operand, None as NoOperand, File, Text, Str, Index, Macro, SupStr, SupMacro, Other, Entry}
use Rattle.macro_opcodes.specs.Reading.{entry_at}
use Rattle.mac_base.specs.Items.{Item, Define, Undef, Start}
use Rattle.import_graph.specs.declared.fault.FileFault.{FileFault}
use Rattle.import_graph.specs.Faults.{fault_at, entry_part, unit_part}
use Rattle.import_graph.specs.Meaning.{Lent, Meaning, Plain, Imports, Nothing, meaning, meaning_by, with_text, text_in, path_of, target_of}
use Rattle.import_graph.specs.Units.{Reader, unit_paths, begun}
use Rattle.import_graph.specs.Walk.{Turn, Ends, Passes, Enters, files_behind, turn_by, turn_at, turn_behind}
use Rattle.import_graph.proofs.TurnLemmas.{turn_by_read}

-- an entry that says this is no import
abbrev pub IsNoImport : Meaning → Type 0
IsNoImport (Plain item) = Unit {0}
IsNoImport (Imports target) = ⊥
IsNoImport Nothing = Unit {0}

-- what was read where this turn comes next
abbrev pub Said : SectionBytes → Lent → Reader → Input → Turn → Type 0
Said s lent unit p Ends = (r : Input) × (entry_at unit.header p ≡ Ok (None, r))
Said s lent unit p (Passes more q) = (e : Entry) × (entry_at unit.header p ≡ Ok (Some e, q)) × (m : Meaning) × (meaning s lent unit.paths e ≡ Ok m) × IsNoImport m
Said s lent unit p (Enters at target q) = (e : Entry) × (entry_at unit.header p ≡ Ok (Some e, q)) × (meaning s lent unit.paths e ≡ Ok (Imports target))

passes_by : (at : ℕ) (q : Input) (t : Turn) (r : Result ℕ UnitKind) → entry_part at (r >>= λ more. Ok (Passes more q)) ≡ Ok t → (n : ℕ) × (Passes n q ≡ t)
passes_by at q t (Err what) is = cc
passes_by at q t (Ok n) is = (n, cc)

said_by_meaning : (s : SectionBytes) (lent : Lent) (unit : Reader) (files : ℕ) (p q : Input) (e : Entry) (t : Turn) (r : Result Meaning UnitKind) → meaning s lent unit.paths e ≡ r → entry_at unit.header p ≡ Ok (Some e, q) → entry_part e.at (r >>= turn_by e.at files q) ≡ Ok t → Said s lent unit p t
said_by_meaning s lent unit files p q e t (Err what) says read is = cc
said_by_meaning s lent unit files p q e t (Ok (Imports target)) says read is = let same : Enters e.at target q ≡ t = cc in subst (λ (u : Turn). Said s lent unit p u) same (e, read, says)
said_by_meaning s lent unit files p q e t (Ok Nothing) says read is = let same : Passes files q ≡ t = cc in subst (λ (u : Turn). Said s lent unit p u) same (e, read, Nothing, says, tt)
said_by_meaning s lent unit files p q e t (Ok (Plain item)) says read is =
    let found = passes_by e.at q t (files_behind files item) is in
    subst (λ (u : Turn). Said s lent unit p u) found.1 (e, read, Plain item, says, tt)

said_by_read : (s : SectionBytes) (lent : Lent) (unit : Reader) (files : ℕ) (p : Input) (t : Turn) (r : Result (Option Entry × Input) UnitFault) → entry_at unit.header p ≡ r → (unit_part r >>= turn_behind s lent unit files p) ≡ Ok t → Said s lent unit p t
said_by_read s lent unit files p t (Err fault) read is = cc
said_by_read s lent unit files p t (Ok (None, q)) read is =
    let parts = guarded (eqb files 0) (Ok Ends) t (fault_at p.at StartWithoutEnd) is in
    let same : Ends ≡ t = same_ok {E = FileFault} Ends t parts.1 in
    subst (λ (u : Turn). Said s lent unit p u) same (q, read)
said_by_read s lent unit files p t (Ok (Some e, q)) read is = said_by_meaning s lent unit files p q e t (meaning s lent unit.paths e) refl read is

pub said_of : (s : SectionBytes) (lent : Lent) (unit : Reader) (files : ℕ) (p : Input) (t : Turn) → turn_at s lent unit files p ≡ Ok t → Said s lent unit p t
said_of s lent unit files p t is = said_by_read s lent unit files p t (entry_at unit.header p) refl (sym (turn_by_read s lent unit files p (entry_at unit.header p) refl) ∙ is)

-- only an import imports, and it names a unit inside the section
text_imports : (make : List ℕ → Item (List ℕ)) (r : Result (List ℕ) UnitKind) (target : ℕ) → with_text make r ≡ Ok (Imports target) → ⊥
text_imports make (Err what) target is = cc
text_imports make (Ok text) target is = cc

target_by : (section : List ℕ) (off target : ℕ) (b : Bool) → nat_lt off (length section) ≡ b → ((cond b (Ok off) (Err ImportRange)) >>= λ found. Ok (Imports found)) ≡ Ok (Imports target) → target < length section
target_by section off target true test is = let same : off ≡ target = cc in subst (λ (n : ℕ). n < length section) same (ltb-true off (length section) test)
target_by section off target false test is = cc

target_inside : (section : List ℕ) (operand : Operand) (target : ℕ) → (target_of section operand >>= λ found. Ok (Imports found)) ≡ Ok (Imports target) → target < length section
target_inside section (Macro off) target is = target_by section off target (nat_lt off (length section)) refl is
target_inside section NoOperand target is = cc
target_inside section (File index) target is = cc
target_inside section (Text text) target is = cc
target_inside section (Str off) target is = cc
target_inside section (Index index) target is = cc
target_inside section (SupStr off) target is = cc
target_inside section (SupMacro off) target is = cc
target_inside section Other target is = cc

inside_by_opcode : (s : SectionBytes) (lent : Lent) (paths : Option (List (List ℕ))) (opcode : Opcode) (line : ℕ) (operand : Operand) (target : ℕ) → meaning_by s lent paths opcode line operand ≡ Ok (Imports target) → target < length s.macros
inside_by_opcode s lent paths DefineCode line operand target is = absurd (text_imports (Define line) (text_in s lent operand) target is)
inside_by_opcode s lent paths DefineStrp line operand target is = absurd (text_imports (Define line) (text_in s lent operand) target is)
inside_by_opcode s lent paths DefineStrx line operand target is = absurd (text_imports (Define line) (text_in s lent operand) target is)
inside_by_opcode s lent paths UndefCode line operand target is = absurd (text_imports (Undef line) (text_in s lent operand) target is)
inside_by_opcode s lent paths UndefStrp line operand target is = absurd (text_imports (Undef line) (text_in s lent operand) target is)
inside_by_opcode s lent paths UndefStrx line operand target is = absurd (text_imports (Undef line) (text_in s lent operand) target is)
inside_by_opcode s lent paths StartFile line operand target is = absurd (text_imports (Start line) (path_of paths operand) target is)
inside_by_opcode s lent paths EndFile line operand target is = cc
inside_by_opcode s lent paths Import line operand target is = target_inside s.macros operand target is
inside_by_opcode s lent paths DefineSup line operand target is = cc
inside_by_opcode s lent paths UndefSup line operand target is = cc
inside_by_opcode s lent paths ImportSup line operand target is = cc
inside_by_opcode s lent paths Listed line operand target is = cc

pub imports_inside : (s : SectionBytes) (lent : Lent) (paths : Option (List (List ℕ))) (e : Entry) (target : ℕ) → meaning s lent paths e ≡ Ok (Imports target) → target < length s.macros
imports_inside s lent paths e target is = inside_by_opcode s lent paths (opcode_by_byte e.opcode) e.line e.operand target is

-- the header and the paths of a unit that began
part_ok : {A : Type 0} (r : Result A UnitFault) (x : A) → unit_part r ≡ Ok x → r ≡ Ok x
part_ok (Ok y) x is = let same : y ≡ x = same_ok {E = FileFault} y x is in ap Ok same
part_ok (Err fault) x is = cc

pub begun_parts : (s : SectionBytes) (lent : Lent) (at : ℕ) (unit : Reader) (start : Input) → begun s lent at ≡ Ok (unit, start) → (header_at (record { bytes = s.macros; at = at }) ≡ Ok (unit.header, start)) × (unit_paths s lent at unit.header.line ≡ Ok unit.paths)
begun_parts s lent at unit start is =
    let first = bind_ok (unit_part (header_at (record { bytes = s.macros; at = at }))) (λ (header : Header × Input). unit_paths s lent at header.0.line >>= λ paths. Ok (record { header = header.0; paths = paths }, header.1)) (unit, start) is in
    let second = bind_ok (unit_paths s lent at first.0.0.line) (λ (paths : Option (List (List ℕ))). Ok (record { header = first.0.0; paths = paths }, first.0.1)) (unit, start) first.2 in
    let made : Reader × Input = (record { header = first.0.0; paths = second.0 }, first.0.1) in
    let same : made ≡ (unit, start) = same_ok {E = FileFault} made (unit, start) second.2 in
    subst (λ (z : Reader × Input). (header_at (record { bytes = s.macros; at = at }) ≡ Ok (z.0.header, z.1)) × (unit_paths s lent at z.0.header.line ≡ Ok z.0.paths)) same
    (part_ok (header_at (record { bytes = s.macros; at = at })) first.0 first.1, second.1)
