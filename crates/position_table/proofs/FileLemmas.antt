-- Files that were opened: a file more changes nothing of those before it.
use Rattle.std.proofs.Common.{◌≡◌, ℕ, zero, suc, ◌+◌, ◌-◌, ◌<◌, List, [], ◌∷◌, ◌++◌, length, take, reverse, get_or, slice_get, refl, ap, sym, subst, ◌∙◌, arith, add-zero}
use Rattle.std.specs.Prelude.{unwrap_or}
use Rattle.std.proofs.lemmas.List.{length_push, take_at, reverse-append, append_assoc}
use Rattle.mac_base.specs.declared.frames.Frame.{Frame}
use Rattle.position_table.specs.declared.files.OpenFile.{OpenFile}
use Rattle.position_table.specs.Files.{frames_with, all_frames, AreNested}

-- the list at a number
abbrev pub frames_at : List (List Frame) → ℕ → List Frame
frames_at files n = unwrap_or (slice_get files n) []

pub at_front : (front back : List (List Frame)) (n : ℕ) → n < length front → frames_at (front ++ back) n ≡ frames_at front n
at_front [] back n is = absurd (omega arith)
at_front (x ∷ front) back zero is = refl
at_front (x ∷ front) back (suc n) is = at_front front back n (omega arith)

pub at_seam : (front back : List (List Frame)) (x : List Frame) → frames_at (front ++ x ∷ back) (length front) ≡ x
at_seam [] back x = refl
at_seam (y ∷ front) back x = at_seam front back x

pub length-all_frames : (before : List (List Frame)) (files : List OpenFile) → length (all_frames before files) ≡ length before + length files
length-all_frames before [] = sym (add-zero (length before))
length-all_frames before (file ∷ files) =
    let more : length (before ++ frames_with before file ∷ []) ≡ length before + 1 = length_push before (frames_with before file) in
    let rest : length (all_frames (before ++ frames_with before file ∷ []) files) ≡ length (before ++ frames_with before file ∷ []) + length files = length-all_frames (before ++ frames_with before file ∷ []) files in
    omega arith

-- those before keep their numbers
pub all_front : (before : List (List Frame)) (files : List OpenFile) (n : ℕ) → n < length before → frames_at (all_frames before files) n ≡ frames_at before n
all_front before [] n is = refl
all_front before (file ∷ files) n is =
    let more : n < length (before ++ frames_with before file ∷ []) = omega (arith, length_push before (frames_with before file)) in
    all_front (before ++ frames_with before file ∷ []) files n more ∙ at_front before (frames_with before file ∷ []) n is

pub all_push : (before : List (List Frame)) (files : List OpenFile) (file : OpenFile) → all_frames before (files ++ file ∷ []) ≡ all_frames before files ++ frames_with (all_frames before files) file ∷ []
all_push before [] file = refl
all_push before (other ∷ files) file = all_push (before ++ frames_with before other ∷ []) files file

pub nested_push : (n : ℕ) (files : List OpenFile) (file : OpenFile) → AreNested n files → file.around.index < n + length files → AreNested n (files ++ file ∷ [])
nested_push n [] file are within = (rw add-zero at within, tt)
nested_push n (other ∷ files) file are within = (are.0, nested_push (n + 1) files file are.1 (omega arith))

-- a file that began stands in one before it
pub nested_at : (n : ℕ) (files : List OpenFile) (k : ℕ) (d : OpenFile) → AreNested n files → k < length files → (get_or files k d).around.index < n + k
nested_at n [] k d are within = absurd (omega arith)
nested_at n (file ∷ files) zero d are within = omega (arith, are.0)
nested_at n (file ∷ files) (suc k) d are within = let later : (get_or files k d).around.index < n + 1 + k = nested_at (n + 1) files k d are.1 (omega arith) in omega arith

-- the files that are open in a file that began
pub frames_at_number : (before : List (List Frame)) (files : List OpenFile) (k : ℕ) (d : OpenFile) → AreNested (length before) files → k < length files →
    frames_at (all_frames before files) (length before + k) ≡ frames_with (all_frames before files) (get_or files k d)
frames_at_number before [] k d are within = absurd (omega arith)
frames_at_number before (file ∷ files) zero d are within =
    let after = before ++ frames_with before file ∷ [] in
    let grown : length before < length after = omega (arith, length_push before (frames_with before file)) in
    let here : frames_at (all_frames after files) (length before) ≡ frames_with before file = all_front after files (length before) grown ∙ at_seam before [] (frames_with before file) in
    let around : frames_at (all_frames after files) file.around.index ≡ frames_at before file.around.index =
    all_front after files file.around.index (omega (arith, are.0)) ∙ at_front before (frames_with before file ∷ []) file.around.index are.0 in
    ap (frames_at (all_frames after files)) (add-zero (length before)) ∙ here ∙ sym (ap (λ fs. fs ++ file.frame ∷ []) around)
frames_at_number before (file ∷ files) (suc k) d are within =
    let after = before ++ frames_with before file ∷ [] in
    let grown : length after ≡ length before + 1 = length_push before (frames_with before file) in
    let place : length before + suc k ≡ length after + k = omega arith in
    ap (frames_at (all_frames after files)) place ∙ frames_at_number after files k d (subst (λ n. AreNested n files) (sym grown) are.1) (omega arith)

-- without the innermost
pub without_last : (fs : List Frame) (f : Frame) → take (length (fs ++ f ∷ []) - 1) (fs ++ f ∷ []) ≡ fs
without_last fs f = take_at fs (f ∷ []) (length (fs ++ f ∷ []) - 1) (omega (arith, length_push fs f))

-- the files of a list that was made from no file on
module _ (items : List OpenFile) (files : List (List Frame)) (view : all_frames ([] ∷ []) items ≡ files) where
  pub length_is : length files ≡ 1 + length items
  length_is = ap length (sym view) ∙ length-all_frames ([] ∷ []) items

  pub none_open : frames_at files 0 ≡ []
  none_open = ap (λ fs. frames_at fs 0) (sym view) ∙ all_front ([] ∷ []) items 0 (omega arith)

  pub view_push : (file : OpenFile) → all_frames ([] ∷ []) (items ++ file ∷ []) ≡ files ++ frames_with files file ∷ []
  view_push file = all_push ([] ∷ []) items file ∙ ap (λ fs. fs ++ frames_with fs file ∷ []) view

  pub in_file : (n : ℕ) (file : OpenFile) → AreNested 1 items → (n ≡ 0 → ⊥) → n < length files → file ≡ get_or items (n - 1) file → frames_at files n ≡ frames_with files file
  in_file n file nested some within is =
      let inside : n - 1 < length items = omega (arith, length_is) in
      let number : n ≡ 1 + (n - 1) = omega arith in
      ap (frames_at files) number ∙ ap (λ fs. frames_at fs (1 + (n - 1))) (sym view) ∙ frames_at_number ([] ∷ []) items (n - 1) file nested inside
      ∙ ap (λ fs. frames_with fs (get_or items (n - 1) file)) view ∙ ap (frames_with files) (sym is)

  pub around_below : (n : ℕ) (file : OpenFile) → AreNested 1 items → (n ≡ 0 → ⊥) → n < length files → file ≡ get_or items (n - 1) file → file.around.index < n
  around_below n file nested some within is =
      let inside : n - 1 < length items = omega (arith, length_is) in
      let low : (get_or items (n - 1) file).around.index < 1 + (n - 1) = nested_at 1 items (n - 1) file nested inside in
      let low' : file.around.index < 1 + (n - 1) = subst (λ (f : OpenFile). f.around.index < 1 + (n - 1)) (sym is) low in
      omega arith

-- one file more of a list that is made from the innermost on
pub parts_more : (outer rest all : List Frame) (f : Frame) (file : List Frame) → file ≡ outer ++ f ∷ [] → file ++ reverse rest ≡ all → outer ++ reverse (rest ++ f ∷ []) ≡ all
parts_more outer rest all f file is parts =
    ap (λ fs. outer ++ fs) (reverse-append rest (f ∷ [])) ∙ sym (append_assoc outer (f ∷ []) (reverse rest)) ∙ ap (λ fs. fs ++ reverse rest) (sym is) ∙ parts
