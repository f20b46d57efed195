-- What is written of a number spells it, and is read again.
use Rattle.std.proofs.Common.{◌≡◌, ℕ, zero, suc, ◌+◌, ◌-◌, ◌/◌, ◌%◌, ◌<◌, ◌≤◌, ◌^◌, Bool, true, false, ltb, cond, List, [], ◌∷◌, ◌++◌, length, take, set, refl, ap, ◌∙◌, sym, arith, append_assoc, lit<}
use Rattle.std.specs.Prelude.{◌≢◌}
use Rattle.std.specs.List.{AllByRecursion}
use Rattle.std.proofs.Math.Nat.{pow-suc, pow-succ', div-div-eq-div-mul}
use Rattle.std.proofs.lemmas.List.{take_more_set}
use Rattle.std.specs.Int.{w64, to_le_bytes, bytes_low_first, byte_at}
use borrow.Author.Tests.{ltb-true, ltb-false, lt-ltb, le-ltb}
use Rattle.mac_base.specs.Fields.{little_endian, unsigned_leb}
use Rattle.mac_base.specs.Spelling.{AreDigits, IsUleb, IsFixed, IsString}
use Rattle.mac_base.specs.LengthSpelling.{IsLength}
use Rattle.mac_base.specs.Writing.{seven_bit_digits, uleb_bytes, fixed_bytes, length_bytes, string_bytes}
use Rattle.mac_base.proofs.SpellingLemmas.{digits_more}

pub fixed_long : (k n : ℕ) → length (fixed_bytes k n) ≡ k
fixed_long zero n = refl
fixed_long (suc k) n = ap suc (fixed_long k (n / 256))

fixed_number : (k n : ℕ) → n < 256 ^ k → n ≡ little_endian (fixed_bytes k n)
fixed_number zero n small = omega (arith, small)
fixed_number (suc k) n small =
    let below : n / 256 < 256 ^ k = omega (arith, pow-succ' 256 k, small) in
    let inner = fixed_number k (n / 256) below in
    omega (arith, inner)

pub fixed_spelled : (k n : ℕ) → n < 256 ^ k → IsFixed k (fixed_bytes k n) n
fixed_spelled k n small = record { long = fixed_long k n; number = fixed_number k n small }

byte_is : (i n m : ℕ) → n / 256 ^ i ≡ m → byte_at i n ≡ m % 256
byte_is zero n m is = omega (arith, is)
byte_is (suc i) n m is = ap (λ x. x % 256) is

low_first : (k i n m : ℕ) → n / 256 ^ i ≡ m → bytes_low_first i k n ≡ fixed_bytes k m
low_first zero i n m is = refl
low_first (suc k) i n m is =
    let next : n / 256 ^ suc i ≡ m / 256 = ap (λ d. n / d) (pow-suc 256 i) ∙ sym (div-div-eq-div-mul n (256 ^ i) 256) ∙ ap (λ x. x / 256) is in
    λ t. byte_is i n m is t ∷ low_first k (suc i) n (m / 256) next t

take_fixed : (k j n : ℕ) → k ≤ j → take k (fixed_bytes j n) ≡ fixed_bytes k n
take_fixed zero j n within = refl
take_fixed (suc k) zero n within = absurd (omega arith)
take_fixed (suc k) (suc j) n within = ap (λ xs. n % 256 ∷ xs) (take_fixed k j (n / 256) (omega arith))

-- the first of the eight bytes of a number
pub lowest_bytes : (v width : ℕ) → width ≤ 8 → take width (to_le_bytes w64 v) ≡ fixed_bytes width v
lowest_bytes v width within =
    let whole : v / 256 ^ 0 ≡ v = omega arith in
    ap (take width) (low_first 8 0 v v whole) ∙ take_fixed width 8 v within

pub uleb_bytes-digits : (n : ℕ) → seven_bit_digits 10 n ≡ uleb_bytes n
unfolding uleb_bytes
uleb_bytes-digits n = refl

one_more : (k n : ℕ) → 128 ≤ n → n < 128 ^ suc k → 0 < k
one_more zero n high small = absurd (omega (arith, pow-succ' 128 0))
one_more (suc k) n high small = omega arith

digits_spell : (k n : ℕ) (t : Bool) → ltb n 128 ≡ t → 0 < k → n < 128 ^ k → IsUleb (seven_bit_digits k n) n
digits_spell zero n t is some small = absurd (omega arith)
digits_spell (suc k) n true is some small = rw is (record { digits = ltb-true n 128 is; number = omega (arith, ltb-true n 128 is) })
digits_spell (suc k) n false is some small =
    let high : 128 ≤ n = ltb-false n 128 is in
    let below : n / 128 < 128 ^ k = omega (arith, pow-succ' 128 k, small) in
    let inner = digits_spell k (n / 128) (ltb (n / 128) 128) refl (one_more k n high small) below in
    rw is (record { digits = digits_more (128 + n % 128) (seven_bit_digits k (n / 128)) (omega arith) inner.digits; number = omega (arith, inner.number) })

pub uleb_spelled : (n : ℕ) → n < 2 ^ 64 → IsUleb (uleb_bytes n) n
uleb_spelled n small = rw (← uleb_bytes-digits n) (digits_spell 10 n (ltb n 128) refl (omega arith) (omega (arith, small)))

short_by : (t : Bool) (n x long : ℕ) (ds : List ℕ) → length ds ≤ long → length (cond t (n ∷ []) (x ∷ ds)) ≤ suc long
short_by true n x long ds short = omega arith
short_by false n x long ds short = omega (arith, short)

digits_short : (k n : ℕ) (bytes : List ℕ) → AreDigits bytes → n ≡ unsigned_leb bytes → length (seven_bit_digits k n) ≤ length bytes
digits_short zero n bytes are is = omega arith
digits_short (suc k) n [] are is = absurd are
digits_short (suc k) n (b ∷ []) are is =
    let low : n < 128 = omega (arith, is) in
    rw (lt-ltb n 128 low) (omega arith)
digits_short (suc k) n (b ∷ c ∷ bs) are is =
    let higher : n / 128 ≡ unsigned_leb (c ∷ bs) = omega (arith, is) in
    short_by (ltb n 128) n (128 + n % 128) (length (c ∷ bs)) (seven_bit_digits k (n / 128)) (digits_short k (n / 128) (c ∷ bs) are.1 higher)

pub uleb_shortest : (n : ℕ) (bytes : List ℕ) → IsUleb bytes n → length (uleb_bytes n) ≤ length bytes
uleb_shortest n bytes is = rw (← uleb_bytes-digits n) (digits_short 10 n bytes is.digits is.number)

digits_first : (k r : ℕ) → 0 < k → 128 ≤ r → seven_bit_digits k r ≡ (128 + r % 128) ∷ seven_bit_digits (k - 1) (r / 128)
digits_first zero r some high = absurd (omega arith)
digits_first (suc k) r some high =
    let less : k ≡ suc k - 1 = omega arith in
    rw (le-ltb r 128 high) (ap (λ j. (128 + r % 128) ∷ seven_bit_digits j (r / 128)) less)

digits_last : (k r : ℕ) → 0 < k → r < 128 → seven_bit_digits k r ≡ r ∷ []
digits_last zero r some low = absurd (omega arith)
digits_last (suc k) r some low = rw (lt-ltb r 128 low) refl

left_by : (k r : ℕ) → 128 ≤ r → r < 128 ^ k → (2 ≤ k) × (r / 128 < 128 ^ (k - 1))
left_by zero r high small = absurd (omega (arith, small))
left_by (suc k) r high small =
    let less : k ≡ suc k - 1 = omega arith in
    let some = one_more k r high small in
    let below : r / 128 < 128 ^ k = omega (arith, pow-succ' 128 k, small) in
    (omega (arith, some), rw (← less) below)

-- what is left of a number after one more of its ten digits
pub digits_left : (e r : ℕ) → e ≤ 9 → 128 ≤ r → r < 128 ^ (10 - e) → (e + 1 ≤ 9) × (r / 128 < 128 ^ (10 - (e + 1)))
digits_left e r within high small =
    let left = left_by (10 - e) r high small in
    let next : 10 - e - 1 ≡ 10 - (e + 1) = omega arith in
    (omega (arith, left.0), rw (← next) left.1)

-- one more digit is written
pub digit_written : (room whole : List ℕ) (e r x : ℕ) → e ≤ 9 → e < length room → 128 ≤ r → x ≡ 128 + r % 128
    → take e room ++ seven_bit_digits (10 - e) r ≡ whole → take (e + 1) (set room e x) ++ seven_bit_digits (10 - (e + 1)) (r / 128) ≡ whole
digit_written room whole e r x within inside high is so_far =
    let next : 10 - e - 1 ≡ 10 - (e + 1) = omega arith in
    ap (λ xs. xs ++ seven_bit_digits (10 - (e + 1)) (r / 128)) (take_more_set room e x inside)
    ∙ append_assoc (take e room) (x ∷ []) (seven_bit_digits (10 - (e + 1)) (r / 128))
    ∙ ap (λ y. take e room ++ y ∷ seven_bit_digits (10 - (e + 1)) (r / 128)) is
    ∙ ap (λ j. take e room ++ (128 + r % 128) ∷ seven_bit_digits j (r / 128)) (sym next)
    ∙ ap (λ xs. take e room ++ xs) (sym (digits_first (10 - e) r (omega arith) high))
    ∙ so_far

-- the last digit is written
pub digit_written_last : (room whole : List ℕ) (e r x : ℕ) → e ≤ 9 → e < length room → r < 128 → x ≡ r
    → take e room ++ seven_bit_digits (10 - e) r ≡ whole → take (e + 1) (set room e x) ≡ whole
digit_written_last room whole e r x within inside low is so_far =
    take_more_set room e x inside
    ∙ ap (λ y. take e room ++ y ∷ []) is
    ∙ ap (λ xs. take e room ++ xs) (sym (digits_last (10 - e) r (omega arith) low))
    ∙ so_far

pub length_narrow : (n : ℕ) → n < 0xffff_fff0 → IsLength false (length_bytes false n) n
length_narrow n small = (fixed_spelled 4 n (omega arith), small)

pub length_wide : (n : ℕ) → n < 2 ^ 64 → IsLength true (length_bytes true n) n
length_wide n small = (fixed_bytes 4 0xffff_ffff, fixed_bytes 8 n, refl {a = fixed_bytes 4 0xffff_ffff ++ fixed_bytes 8 n}, fixed_spelled 4 0xffff_ffff (lit< tt), fixed_spelled 8 n (omega arith))

-- a length that fits both formats
pub length_spelled : (wide : Bool) (n : ℕ) → n < 0xffff_fff0 → IsLength wide (length_bytes wide n) n
length_spelled false n small = length_narrow n small
length_spelled true n small = length_wide n (omega arith)

pub string_spelled : (text : List ℕ) → AllByRecursion (λ b. b ≢ 0) text → IsString (string_bytes text) text
string_spelled text none = record { ends = refl; no_nul = none }
