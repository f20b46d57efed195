-- An entry that is written is spelled, and is read again.
use Rattle.std.proofs.Common.{◌≡◌, ℕ, ◌<◌, ◌^◌, List, [], ◌∷◌, ◌++◌, Some, Ok, refl, sym}
use Rattle.std.specs.Prelude.{◌≢◌}
use Rattle.std.specs.List.{AllByRecursion}
use Rattle.std.proofs.lemmas.List.{append-nil}
use Rattle.mac_base.specs.Input.{Input}
use Rattle.mac_base.specs.declared.value.Sizes.{Sizes}
use Rattle.mac_base.specs.declared.form.Layout.TheVariants.{Uleb, Offset as OffsetBytes, Text as Characters}
use Rattle.mac_base.specs.Forms.{form_by_code}
use Rattle.mac_base.specs.Spelling.{Between}
use Rattle.mac_base.specs.Values.{Value, Number, Text, offset_width}
use Rattle.mac_base.specs.ValueSpelling.{IsValue}
use Rattle.mac_base.specs.Writing.{uleb_bytes, fixed_bytes}
use Rattle.mac_base.proofs.WritingLemmas.{uleb_spelled, fixed_spelled}
use Rattle.unit_header.specs.Header.{Header}
use Rattle.macro_opcodes.specs.declared.entry.OutEntry.{OutEntry}
use Rattle.macro_opcodes.specs.declared.entry.OutEntry.TheVariants.{Define, Undef, Start, End, DefineStr, UndefStr, Import, DefineIndex, UndefIndex}
use Rattle.macro_opcodes.specs.Spells.{sizes_of, IsOfForm, AreValues, IsEntry}
use Rattle.macro_opcodes.specs.Reading.{entry_at}
use Rattle.macro_opcodes.specs.Writing.{read_as, shape_of, entry_bytes, Fits, AreSmall}
use Rattle.macro_opcodes.proofs.EntryLemmas.{entry_again}

number_value : (sizes : Sizes) (n : ℕ) → n < 2 ^ 64 → IsValue sizes Uleb (uleb_bytes n) (Number n)
number_value sizes n small = (n, uleb_spelled n small, small, refl)

offset_value : (sizes : Sizes) (n : ℕ) → n < 256 ^ offset_width sizes.wide → IsValue sizes OffsetBytes (fixed_bytes (offset_width sizes.wide) n) (Number n)
offset_value sizes n fits = (n, fixed_spelled (offset_width sizes.wide) n fits, refl)

text_value : (sizes : Sizes) (text : List ℕ) → AllByRecursion (λ b. b ≢ 0) text → IsValue sizes Characters (text ++ 0 ∷ []) (Text text)
text_value sizes text none = (text, record { ends = refl; no_nul = none }, refl)

one_value : (sizes : Sizes) (code : ℕ) (xs : List ℕ) (v : Value) → IsOfForm sizes (form_by_code code) xs v → AreValues sizes (code ∷ []) xs (v ∷ [])
one_value sizes code xs v is = (xs, [], sym (append-nil xs), is, refl)

two_values : (sizes : Sizes) (code other : ℕ) (xs ys : List ℕ) (v w : Value) → IsOfForm sizes (form_by_code code) xs v → IsOfForm sizes (form_by_code other) ys w → AreValues sizes (code ∷ other ∷ []) (xs ++ ys) (v ∷ w ∷ [])
two_values sizes code other xs ys v w is also = (xs, ys, refl {a = xs ++ ys}, is, one_value sizes other ys w also)

line_text : (h : Header) (line : ℕ) (text : List ℕ) → line < 2 ^ 64 → AllByRecursion (λ b. b ≢ 0) text → AreValues (sizes_of h) (0x0f ∷ 0x08 ∷ []) (uleb_bytes line ++ (text ++ 0 ∷ [])) (Number line ∷ Text text ∷ [])
line_text h line text small none = two_values (sizes_of h) 0x0f 0x08 (uleb_bytes line) (text ++ 0 ∷ []) (Number line) (Text text) (number_value (sizes_of h) line small) (text_value (sizes_of h) text none)

line_offset : (h : Header) (line offset : ℕ) → line < 2 ^ 64 → offset < 256 ^ offset_width h.wide → AreValues (sizes_of h) (0x0f ∷ 0x0e ∷ []) (uleb_bytes line ++ fixed_bytes (offset_width h.wide) offset) (Number line ∷ Number offset ∷ [])
line_offset h line offset small fits = two_values (sizes_of h) 0x0f 0x0e (uleb_bytes line) (fixed_bytes (offset_width h.wide) offset) (Number line) (Number offset) (number_value (sizes_of h) line small) (offset_value (sizes_of h) offset fits)

line_index : (h : Header) (line index : ℕ) → line < 2 ^ 64 → index < 2 ^ 64 → AreValues (sizes_of h) (0x0f ∷ 0x1a ∷ []) (uleb_bytes line ++ uleb_bytes index) (Number line ∷ Number index ∷ [])
line_index h line index small also = two_values (sizes_of h) 0x0f 0x1a (uleb_bytes line) (uleb_bytes index) (Number line) (Number index) (number_value (sizes_of h) line small) (number_value (sizes_of h) index also)

line_file : (h : Header) (line file : ℕ) → line < 2 ^ 64 → file < 2 ^ 64 → AreValues (sizes_of h) (0x0f ∷ 0x0f ∷ []) (uleb_bytes line ++ uleb_bytes file) (Number line ∷ Number file ∷ [])
line_file h line file small also = two_values (sizes_of h) 0x0f 0x0f (uleb_bytes line) (uleb_bytes file) (Number line) (Number file) (number_value (sizes_of h) line small) (number_value (sizes_of h) file also)

pub entry_spelled : (h : Header) (at : ℕ) (e : OutEntry) → Fits h.wide (shape_of e) → AreSmall (shape_of e) → IsEntry h (entry_bytes h.wide e) (read_as at e)
entry_spelled h at (Define line text) fits small = (refl, 0x0f ∷ 0x08 ∷ [], Number line ∷ Text text.now ∷ [], refl, line_text h line text.now small fits, refl)
entry_spelled h at (Undef line text) fits small = (refl, 0x0f ∷ 0x08 ∷ [], Number line ∷ Text text.now ∷ [], refl, line_text h line text.now small fits, refl)
entry_spelled h at (Start line file) fits small = (refl, 0x0f ∷ 0x0f ∷ [], Number line ∷ Number file ∷ [], refl, line_file h line file small.0 small.1, refl)
entry_spelled h at End fits small = (refl, [], [], refl, refl, refl)
entry_spelled h at (DefineStr line offset) fits small = (refl, 0x0f ∷ 0x0e ∷ [], Number line ∷ Number offset ∷ [], refl, line_offset h line offset small fits, refl)
entry_spelled h at (UndefStr line offset) fits small = (refl, 0x0f ∷ 0x0e ∷ [], Number line ∷ Number offset ∷ [], refl, line_offset h line offset small fits, refl)
entry_spelled h at (Import offset) fits small = (refl, 0x17 ∷ [], Number offset ∷ [], refl, one_value (sizes_of h) 0x17 (fixed_bytes (offset_width h.wide) offset) (Number offset) (offset_value (sizes_of h) offset fits), refl)
entry_spelled h at (DefineIndex line index) fits small = (refl, 0x0f ∷ 0x1a ∷ [], Number line ∷ Number index ∷ [], refl, line_index h line index small.0 small.1, refl)
entry_spelled h at (UndefIndex line index) fits small = (refl, 0x0f ∷ 0x1a ∷ [], Number line ∷ Number index ∷ [], refl, line_index h line index small.0 small.1, refl)

placed_at : (at : ℕ) (e : OutEntry) → (read_as at e).at ≡ at
placed_at at (Define line text) = refl
placed_at at (Undef line text) = refl
placed_at at (Start line file) = refl
placed_at at End = refl
placed_at at (DefineStr line offset) = refl
placed_at at (UndefStr line offset) = refl
placed_at at (Import offset) = refl
placed_at at (DefineIndex line index) = refl
placed_at at (UndefIndex line index) = refl

pub entry_written : (h : Header) (p q : Input) (e : OutEntry) → Fits h.wide (shape_of e) → AreSmall (shape_of e) → Between p q (entry_bytes h.wide e) → entry_at h p ≡ Ok (Some (read_as p.at e), q)
entry_written h p q e fits small between = entry_again h p q (entry_bytes h.wide e) (read_as p.at e) between (entry_spelled h p.at e fits small) (placed_at p.at e)
