-- The names of sections as a list of names, and as a pool of strings.
use Rattle.std.proofs.Common.{◌≡◌, Bool, true, false, cond, ◌||◌, List, [], ◌∷◌, ◌++◌, map, refl, ap, ◌∙◌, sym}
use Rattle.std.specs.List.{list_any}
use Rattle.std.specs.Str.{bytes_eq}
use Rattle.std.proofs.lemmas.List.{map_push}
use Rattle.string_sections.specs.Pool.{has_string, add_string}
use Rattle.object_writer.specs.declared.section.SectionName.{SectionName}
use Rattle.object_writer.specs.Elf.{name_of}

-- a name is among the names where its text is among their texts
pub has_mapped : (name : SectionName) (names : List SectionName) → list_any (λ other. bytes_eq (name_of name) (name_of other)) names ≡ has_string (map name_of names) (name_of name)
has_mapped name [] = refl
has_mapped name (other ∷ names) = ap (λ b. bytes_eq (name_of name) (name_of other) || b) (has_mapped name names)

-- what adding a name leaves, by the test
added : (name : SectionName) (names : List SectionName) (has : Bool) → has ≡ list_any (λ other. bytes_eq (name_of name) (name_of other)) names → cond has (map name_of names) (map name_of names ++ name_of name ∷ []) ≡ add_string (map name_of names) (name_of name)
added name names has is = ap (λ b. cond b (map name_of names) (map name_of names ++ name_of name ∷ [])) (is ∙ has_mapped name names)

pub added_new : (name : SectionName) (names : List SectionName) (has : Bool) → has ≡ list_any (λ other. bytes_eq (name_of name) (name_of other)) names → has ≡ false → map name_of (names ++ name ∷ []) ≡ add_string (map name_of names) (name_of name)
added_new name names has is new = map_push name_of names name ∙ ap (λ b. cond b (map name_of names) (map name_of names ++ name_of name ∷ [])) (sym new) ∙ added name names has is

pub added_old : (name : SectionName) (names : List SectionName) (has : Bool) → has ≡ list_any (λ other. bytes_eq (name_of name) (name_of other)) names → has ≡ true → map name_of names ≡ add_string (map name_of names) (name_of name)
added_old name names has is old = ap (λ b. cond b (map name_of names) (map name_of names ++ name_of name ∷ [])) (sym old) ∙ added name names has is
