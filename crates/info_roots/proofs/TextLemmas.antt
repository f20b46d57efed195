-- The strings of an entry are looked up exactly where there are such strings.
use Rattle.std.proofs.Common.{◌≡◌, ℕ, Bool, true, false, cond, List, [], Option, Some, None, Result, Ok, refl, ap, ◌∙◌, sym}
use Rattle.mac_base.specs.Input.{◌>>=◌}
use Rattle.mac_base.specs.SectionBytes.{SectionBytes}
use Rattle.mac_base.proofs.Choices.{bind_ok, same_ok}
use Rattle.string_sections.specs.Strings.{string_of}
use Rattle.string_sections.specs.Offsets.{offset_of}
use Rattle.info_roots.specs.declared.fault.InfoFault.{InfoFault}
use Rattle.info_roots.specs.Entries.{Text, Here, Str, LineStr, Index, Entry}
use Rattle.info_roots.specs.Texts.{found_at, string_by, offset_text, listed_text, based_text, index_text, texts_by}
use Rattle.info_roots.specs.EntrySpelling.{IsText, IsTextOrNone}

found_ok : (at : ℕ) (o : Option (List ℕ)) (text : List ℕ) → found_at at o ≡ Ok text → o ≡ Some text
found_ok at None text is = cc
found_ok at (Some found) text is = cc

string_ok : (section : List ℕ) (off at : ℕ) (text : Text) → string_by section off at ≡ Ok text → (found : List ℕ) × (string_of section off ≡ Some found) × (Here found ≡ text)
string_ok section off at text is =
    let read = bind_ok (found_at at (string_of section off)) _ text is in
    (read.0, found_ok at (string_of section off) read.0 read.1, same_ok {E = InfoFault} (Here read.0) text read.2)

-- a string that was looked up by its offset is there
here_is : (s : SectionBytes) (at : ℕ) (wide : Bool) (base : Option ℕ) (found text : List ℕ) (t : Text) → Here found ≡ t → index_text s at wide base t ≡ Ok text → found ≡ text
here_is s at wide base found text t same is = same_ok {E = InfoFault} found text (ap (index_text s at wide base) same ∙ is)

listed_ok : (s : SectionBytes) (at : ℕ) (o : Option ℕ) (text : List ℕ) → listed_text s at o ≡ Ok text → (off : ℕ) × (o ≡ Some off) × (string_of s.strs off ≡ Some text)
listed_ok s at None text is = cc
listed_ok s at (Some off) text is = (off, refl, found_ok at (string_of s.strs off) text is)

based_ok : (s : SectionBytes) (at : ℕ) (wide : Bool) (base : Option ℕ) (index : ℕ) (text : List ℕ) → based_text s at wide base index ≡ Ok text → IsText s wide base (Index index) text
based_ok s at wide None index text is = cc
based_ok s at wide (Some start) index text is =
    let listed = listed_ok s at (offset_of (record { section = s.str_offsets; wide = wide }) start index) text is in (start, listed.0, refl, listed.1, listed.2)

text_takes : (s : SectionBytes) (at : ℕ) (wide : Bool) (base : Option ℕ) (o : Option Text) (t : Text) (text : List ℕ) → offset_text s at o ≡ Ok t → index_text s at wide base t ≡ Ok text → IsTextOrNone s wide base o text
text_takes s at wide base None t text first second = sym (here_is s at wide base [] text t (same_ok {E = InfoFault} (Here []) t first) second)
text_takes s at wide base (Some (Here here)) t text first second = sym (here_is s at wide base here text t (same_ok {E = InfoFault} (Here here) t first) second)
text_takes s at wide base (Some (Str off)) t text first second =
    let found = string_ok s.strs off at t first in found.1 ∙ ap (λ (x : List ℕ). Some x) (here_is s at wide base found.0 text t found.2 second)
text_takes s at wide base (Some (LineStr off)) t text first second =
    let found = string_ok s.line_strs off at t first in found.1 ∙ ap (λ (x : List ℕ). Some x) (here_is s at wide base found.0 text t found.2 second)
text_takes s at wide base (Some (Index index)) t text first second = based_ok s at wide base index text (ap (index_text s at wide base) (same_ok {E = InfoFault} (Index index) t first) ∙ second)

text_again : (s : SectionBytes) (at : ℕ) (wide : Bool) (base : Option ℕ) (o : Option Text) (text : List ℕ) → IsTextOrNone s wide base o text → (t : Text) × (offset_text s at o ≡ Ok t) × (index_text s at wide base t ≡ Ok text)
text_again s at wide base None text is = (Here [], refl, ap (λ (x : List ℕ). Ok x) (sym is))
text_again s at wide base (Some (Here here)) text is = (Here here, refl, ap (λ (x : List ℕ). Ok x) (sym is))
text_again s at wide base (Some (Str off)) text is = (Here text, rw is refl, refl)
text_again s at wide base (Some (LineStr off)) text is = (Here text, rw is refl, refl)
text_again s at wide base (Some (Index index)) text is = (Index index, refl, rw (is.2, is.3, is.4) refl)

abbrev in_order : Bool → Result (List ℕ) InfoFault → Result (List ℕ) InfoFault → Result (List ℕ × List ℕ) InfoFault
in_order first name dir = cond first (dir >>= λ y. name >>= λ x. Ok (x, y)) (name >>= λ x. dir >>= λ y. Ok (x, y))

both_takes : (first : Bool) (name dir : Result (List ℕ) InfoFault) (n d : List ℕ) → in_order first name dir ≡ Ok (n, d) → (name ≡ Ok n) × (dir ≡ Ok d)
both_takes true name dir n d is =
    let y = bind_ok dir _ (n, d) is in
    let x = bind_ok name _ (n, d) y.2 in
    let same = same_ok {E = InfoFault} (x.0, y.0) (n, d) x.2 in
    (x.1 ∙ ap (λ (z : List ℕ × List ℕ). Ok z.0) same, y.1 ∙ ap (λ (z : List ℕ × List ℕ). Ok z.1) same)
both_takes false name dir n d is =
    let x = bind_ok name _ (n, d) is in
    let y = bind_ok dir _ (n, d) x.2 in
    let same = same_ok {E = InfoFault} (x.0, y.0) (n, d) y.2 in
    (x.1 ∙ ap (λ (z : List ℕ × List ℕ). Ok z.0) same, y.1 ∙ ap (λ (z : List ℕ × List ℕ). Ok z.1) same)

both_again : (first : Bool) (name dir : Result (List ℕ) InfoFault) (n d : List ℕ) → name ≡ Ok n → dir ≡ Ok d → in_order first name dir ≡ Ok (n, d)
both_again true name dir n d x y = rw (x, y) refl
both_again false name dir n d x y = rw (x, y) refl

-- the strings of an entry, whichever is looked up first
pub texts_takes : (s : SectionBytes) (at : ℕ) (wide : Bool) (e : Entry) (n d : List ℕ) → texts_by s at wide e ≡ Ok (n, d) → IsTextOrNone s wide e.str_base e.name n × IsTextOrNone s wide e.str_base e.dir d
unfolding texts_by
texts_takes s at wide e n d is =
    let name = bind_ok (offset_text s at e.name) _ (n, d) is in
    let dir = bind_ok (offset_text s at e.dir) _ (n, d) name.2 in
    let both = both_takes e.dir_first (index_text s at wide e.str_base name.0) (index_text s at wide e.str_base dir.0) n d dir.2 in
    (text_takes s at wide e.str_base e.name name.0 n name.1 both.0, text_takes s at wide e.str_base e.dir dir.0 d dir.1 both.1)

pub texts_again : (s : SectionBytes) (at : ℕ) (wide : Bool) (e : Entry) (n d : List ℕ) → IsTextOrNone s wide e.str_base e.name n → IsTextOrNone s wide e.str_base e.dir d → texts_by s at wide e ≡ Ok (n, d)
unfolding texts_by
texts_again s at wide e n d is_name is_dir =
    let name = text_again s at wide e.str_base e.name n is_name in
    let dir = text_again s at wide e.str_base e.dir d is_dir in
    rw (name.1, dir.1) (both_again e.dir_first (index_text s at wide e.str_base name.0) (index_text s at wide e.str_base dir.0) n d name.2 dir.2)
