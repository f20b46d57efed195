-- What holds behind an entry more, where definitions are kept with the numbers of their files.
use Rattle.std.proofs.Common.{◌≡◌, ℕ, ◌-◌, ◌<◌, ◌≤◌, Bool, true, false, cond, List, [], ◌∷◌, ◌++◌, length, take, map, None, refl, ap, sym, ◌∙◌, arith}
use Rattle.std.specs.Borrow.{Bor}
use Rattle.std.specs.declared.cmp.Ordering.{Ordering}
use Rattle.std.specs.declared.cmp.Ordering.TheVariants.{Less, Equal, Greater}
use Rattle.std.specs.Ordering.{nat_cmp, is_eq, match_ordering}
use Rattle.std.specs.Cmp.Lexicographic.{slice_cmp}
use Rattle.std.specs.Map.{lookup, remove_entry}
use Rattle.std.specs.BTreeMap.{insert_entry}
use Rattle.std.specs.FinMap as finite
use Rattle.std.proofs.lemmas.List.{map_push, take-map, length-map}
use Rattle.mac_base.specs.Names.{name_of}
use Rattle.mac_base.specs.declared.frames.Frame.{Frame}
use Rattle.macro_table.specs.Tables.{EntryValue, TableOf}
use Rattle.mac_base.specs.Items.{Define, Undef, Start, End}
use Rattle.mac_base.proofs.TableLemmas.{inserted, removed}
use Rattle.position_table.specs.declared.files.FileId.{FileId}
use Rattle.position_table.specs.declared.draft.Definition.{Definition}
use Rattle.position_table.specs.Files.{frames_of}
use Rattle.position_table.specs.Standing.{Standing, behind_one, pairs_of, value_in, table_in, AreKept}
use Rattle.position_table.proofs.FileLemmas.{frames_at, at_front, at_seam}

-- the order of names
abbrev pub order : List ℕ → List ℕ → Ordering
order = slice_cmp nat_cmp

-- definitions that are kept
abbrev pub Kept : Type 0
Kept = List (Bor (List ℕ) × Definition)

-- names in the order of their bytes
abbrev pub by_name : Bor (List ℕ) → Bor (List ℕ) → Ordering
by_name x y = order x.now y.now

-- what holds where these files were opened, this one is the innermost, and these definitions are kept
abbrev pub standing_of : List (List Frame) → FileId → Kept → Standing
standing_of files at kept = record { files = pairs_of (frames_of files at); table = table_in files kept }

kept_placed : (n : ℕ) (o : Ordering) (k : Bor (List ℕ)) (v : Definition) (e : Bor (List ℕ) × Definition) (es more : Kept) → by_name k e.0 ≡ o → (v.file.index < n) × (k.now ≡ name_of v.text.now) → AreKept n (e ∷ es) → AreKept n more
    → AreKept n (match_ordering o ((k, v) ∷ e ∷ es) ((e.0, v) ∷ es) (e ∷ more))
kept_placed n Less k v e es more is good are later = (good, are)
kept_placed n Equal k v e es more is good are later =
    let same : k.now ≡ e.0.now = finite.slice_cmp-IsAntisymmetric finite.nat_cmp-IsAntisymmetric k.now e.0.now is in
    ((good.0, sym same ∙ good.1), are.1)
kept_placed n Greater k v e es more is good are later = (are.0, later)

pub kept_inserted : (n : ℕ) (es : Kept) (k : Bor (List ℕ)) (v : Definition) → (v.file.index < n) × (k.now ≡ name_of v.text.now) → AreKept n es → AreKept n (insert_entry by_name es k v)
kept_inserted n [] k v good are = (good, tt)
kept_inserted n (e ∷ es) k v good are = kept_placed n (by_name k e.0) k v e es (insert_entry by_name es k v) refl good are (kept_inserted n es k v good are.1)

kept_if : (n : ℕ) (t : Bool) (e : Bor (List ℕ) × Definition) (es more : Kept) → AreKept n (e ∷ es) → AreKept n more → AreKept n (cond t es (e ∷ more))
kept_if n true e es more are later = are.1
kept_if n false e es more are later = (are.0, later)

pub kept_removed : (n : ℕ) (test : Bor (List ℕ) → Bool) (es : Kept) → AreKept n es → AreKept n (remove_entry test es)
kept_removed n test [] are = tt
kept_removed n test (e ∷ es) are = kept_if n (test e.0) e es (remove_entry test es) are (kept_removed n test es are.1)

pub kept_more : (n m : ℕ) (es : Kept) → n ≤ m → AreKept n es → AreKept m es
kept_more n m [] more are = tt
kept_more n m (e ∷ es) more are = ((omega (arith, are.0.0), are.0.1), kept_more n m es more are.1)

pub pairs_push : (fs : List Frame) (f : Frame) → pairs_of (fs ++ f ∷ []) ≡ pairs_of fs ++ (f.path, f.line) ∷ []
pairs_push fs f = map_push {Y = ℕ × ℕ} (λ (frame : Frame). (frame.path, frame.line)) fs f

entries_same : (files more : List (List Frame)) (es : Kept) → AreKept (length files) es →
    map {B = List ℕ × EntryValue ℕ} (λ (e : Bor (List ℕ) × Definition). (e.0.now, value_in (files ++ more) e.1)) es ≡ map (λ (e : Bor (List ℕ) × Definition). (e.0.now, value_in files e.1)) es
entries_same files more [] are = refl
entries_same files more (e ∷ es) are = λ i. (e.0.now, record { text = e.1.text.now; files = pairs_of (at_front files more e.1.file.index are.0.0 i); line = e.1.line }) ∷ entries_same files more es are.1 i

-- files that begin later change no definition
pub table_more : (files more : List (List Frame)) (es : Kept) → AreKept (length files) es → table_in (files ++ more) es ≡ table_in files es
table_more files more es are = ap finite.from_entries (entries_same files more es are)

pub behind_define : (files : List (List Frame)) (at : FileId) (es : Kept) (k text : Bor (List ℕ)) (line : ℕ) → k.now ≡ name_of text.now →
    standing_of files at (insert_entry by_name es k (record { text = text; line = line; file = at })) ≡ behind_one (standing_of files at es) (Define line text.now)
behind_define files at es k text line is =
    ap (λ (table : TableOf ℕ). record { files = pairs_of (frames_of files at); table = table })
    (inserted (λ (k : Bor (List ℕ)). k.now) (value_in files) es k (record { text = text; line = line; file = at })
    ∙ ap (λ (n : List ℕ). finite.insert (table_in files es) n (value_in files (record { text = text; line = line; file = at }))) is)

pub behind_undef : (files : List (List Frame)) (at : FileId) (es : Kept) (name : Bor (List ℕ)) (line : ℕ) →
    lookup (λ (k : Bor (List ℕ)). is_eq (order name.now k.now)) (remove_entry (λ (k : Bor (List ℕ)). is_eq (order name.now k.now)) es) ≡ None →
    standing_of files at (remove_entry (λ (k : Bor (List ℕ)). is_eq (order name.now k.now)) es) ≡ behind_one (standing_of files at es) (Undef line name.now)
behind_undef files at es name line none =
    ap (λ (table : TableOf ℕ). record { files = pairs_of (frames_of files at); table = table }) (removed (λ (k : Bor (List ℕ)). k.now) (value_in files) es name.now none)

pub behind_start : (files : List (List Frame)) (at id : FileId) (es : Kept) (line path : ℕ) → AreKept (length files) es → id.index ≡ length files →
    standing_of (files ++ (frames_of files at ++ record { path = path; line = line } ∷ []) ∷ []) id es ≡ behind_one (standing_of files at es) (Start line path)
behind_start files at id es line path are is =
    let here : frames_at (files ++ (frames_of files at ++ record { path = path; line = line } ∷ []) ∷ []) id.index ≡ frames_of files at ++ record { path = path; line = line } ∷ [] =
    ap (frames_at (files ++ (frames_of files at ++ record { path = path; line = line } ∷ []) ∷ [])) is ∙ at_seam files [] (frames_of files at ++ record { path = path; line = line } ∷ []) in
    let opened : pairs_of (frames_at (files ++ (frames_of files at ++ record { path = path; line = line } ∷ []) ∷ []) id.index) ≡ pairs_of (frames_of files at) ++ (path, line) ∷ [] =
    ap pairs_of here ∙ pairs_push (frames_of files at) (record { path = path; line = line }) in
    let same : table_in (files ++ (frames_of files at ++ record { path = path; line = line } ∷ []) ∷ []) es ≡ table_in files es = table_more files _ es are in
    λ i. record { files = opened i; table = same i }

pub behind_end : (files : List (List Frame)) (at outer : FileId) (es : Kept) → frames_of files outer ≡ take (length (frames_of files at) - 1) (frames_of files at) →
    standing_of files outer es ≡ behind_one (standing_of files at es) End
behind_end files at outer es is =
    let frames : List Frame = frames_of files at in
    let outside : pairs_of (frames_of files outer) ≡ take (length (pairs_of frames) - 1) (pairs_of frames) =
    ap pairs_of is ∙ sym (take-map {Y = ℕ × ℕ} (λ (frame : Frame). (frame.path, frame.line)) (length frames - 1) frames)
    ∙ ap (λ n. take (n - 1) (pairs_of frames)) (sym (length-map {B = ℕ × ℕ} frames (λ (frame : Frame). (frame.path, frame.line)))) in
    ap (λ (fs : List (ℕ × ℕ)). record { files = fs; table = table_in files es }) outside
