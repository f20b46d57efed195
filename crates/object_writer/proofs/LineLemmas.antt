-- How many bytes a line table has.
use Rattle.std.proofs.Common.{◌≡◌, ℕ, zero, suc, ◌+◌, ◌/◌, ◌%◌, ◌≤◌, Bool, true, false, cond, ltb, List, [], ◌∷◌, ◌++◌, length, refl, arith, length-append}
use Rattle.std.specs.List.{flat_map}
use Rattle.mac_base.specs.Values.{offset_width}
use Rattle.mac_base.specs.Writing.{seven_bit_digits, uleb_bytes, length_bytes, offset_bytes}
use Rattle.line_names.specs.Written.{file_bytes, field_bytes, table_with, table_bytes}
use Rattle.object_writer.proofs.InfoLemmas.{fixed_long, length_long}

digits_short : (k n : ℕ) → length (seven_bit_digits k n) ≤ k
digits_short zero n = omega arith
digits_short (suc k) n = by_case (ltb n 128) k n (digits_short k (n / 128))
  where
    by_case : (b : Bool) (k n : ℕ) → length (seven_bit_digits k (n / 128)) ≤ k → length (cond b (n ∷ []) ((128 + n % 128) ∷ seven_bit_digits k (n / 128))) ≤ suc k
    by_case true k n short = omega arith
    by_case false k n short = omega (arith, short)

pub uleb_short : (n : ℕ) → length (uleb_bytes n) ≤ 10
unfolding uleb_bytes
uleb_short n = digits_short 10 n

pub table_long : (wide : Bool) (paths : List (List ℕ)) → length (table_bytes wide paths) ≡ cond wide 53 41 + length (uleb_bytes (length paths)) + length (flat_map file_bytes paths)
unfolding table_with field_bytes
table_long wide paths =
    let fields = field_bytes paths in
    let files = length-append (uleb_bytes (length paths)) (flat_map file_bytes paths) in
    let whole = length-append (length_bytes wide (4 + offset_width wide + length fields)) (5 ∷ 0 ∷ 8 ∷ 0 ∷ (offset_bytes wide (length fields) ++ fields)) in
    let rest = length-append (offset_bytes wide (length fields)) fields in
    let start = length_long wide (4 + offset_width wide + length fields) in
    let width : length (offset_bytes wide (length fields)) ≡ offset_width wide = fixed_long (offset_width wide) (length fields) in
    let both : cond wide 12 4 + 4 + offset_width wide + 29 ≡ cond wide 53 41 = by_case wide in
    omega (arith, files, whole, rest, start, width, both)
  where
    by_case : (wide : Bool) → cond wide 12 4 + 4 + offset_width wide + 29 ≡ cond wide 53 41
    by_case true = refl
    by_case false = refl
