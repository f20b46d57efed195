-- The sizes of tables of offsets and symbols.
use Rattle.std.proofs.Common.{◌≡◌, ℕ, suc, ◌+◌, ◌-◌, ◌*◌, ◌<◌, ◌≤◌, Bool, true, false, cond, ◌||◌, List, [], ◌∷◌, length, drop, replicate, Some, ap, arith, length-append}
use Rattle.std.specs.List.{list_any, range_with_len}
use Rattle.std.proofs.lemmas.Bool.{lt-ltb}
use Rattle.std.proofs.lemmas.List.{length-replicate}
use Rattle.mac_base.specs.Writing.{length_bytes}
use Rattle.string_sections.specs.Contributions.{header_bytes, offsets_bytes}
use Rattle.string_sections.specs.Offsets.{entry_width}
use Rattle.object_writer.specs.declared.layout.Layout.{Layout}
use Rattle.object_writer.specs.Elf.{section_limit, is_too_large}
use Rattle.object_writer.specs.Object.{offsets_sections}
use Rattle.object_writer.proofs.InfoLemmas.{length_long}

-- so many offsets are too many for a section
width_least : (wide : Bool) (n : ℕ) → 4 * n ≤ n * entry_width wide
width_least true n = omega arith
width_least false n = omega arith

start_least : (wide : Bool) → 4 ≤ cond wide 12 4
start_least true = omega arith
start_least false = omega arith

pub offsets_large : (layout : Layout) (wide : Bool) (offsets : List ℕ) → 268435454 < length offsets → list_any is_too_large (offsets_sections layout wide (Some offsets)) ≡ true
unfolding header_bytes
offsets_large layout wide offsets many =
    let n = length offsets in
    let size = n * entry_width wide in
    let whole = length-append (header_bytes wide size) (replicate size 0) in
    let head = length-append (length_bytes wide (4 + size)) (5 ∷ 0 ∷ 0 ∷ 0 ∷ []) in
    let zeros : length {A = ℕ} (replicate size 0) ≡ size = length-replicate size 0 in
    let long : section_limit < length (offsets_bytes wide n) = omega (arith, many, whole, head, zeros, width_least wide n, start_least wide, length_long wide (4 + size)) in
    ap (λ b. b || list_any is_too_large (drop 1 (offsets_sections layout wide (Some offsets)))) (lt-ltb section_limit (length (offsets_bytes wide n)) long)

-- the numbers from one on
pub range_next : (a e : ℕ) → a < e → range_with_len a (e - a) ≡ a ∷ range_with_len (a + 1) (e - (a + 1))
range_next a e below = ap (range_with_len a) same
  where
    same : e - a ≡ suc (e - (a + 1))
    same = omega (arith, below)
