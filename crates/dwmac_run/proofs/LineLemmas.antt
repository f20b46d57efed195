-- The digits of an offset.
use Rattle.std.proofs.Common.{◌≡◌, ℕ, suc, ◌+◌, ◌*◌, ◌^◌, ◌<◌, ◌≤◌, List, length, get_or, drop, ap, ◌∙◌, arith}
use Rattle.std.proofs.lemmas.List.{drop_more}
use Rattle.std.proofs.Math.Nat.{pow-le-pow_right, pow-suc}
use Rattle.dwmac_run.specs.Offsets.{hex_after, hex_step, hex_value}

-- a number of i digits, and one more
pub hex_fits : (n i digit : ℕ) → i < 16 → n < 16 ^ i → digit < 16 → n * 16 + digit < 2 ^ 64
hex_fits n i digit few small low =
    let bound : 16 ^ i ≤ 16 ^ 15 = pow-le-pow_right {n = 16} (omega arith) {i = i} {j = 15} (omega arith) in
    omega (arith, bound)

pub hex_more : (n i digit : ℕ) → n < 16 ^ i → digit < 16 → n * 16 + digit < 16 ^ (i + 1)
hex_more n i digit small low =
    let next : i + 1 ≡ suc i = omega arith in
    let power : 16 ^ (i + 1) ≡ 16 ^ i * 16 = ap (λ k. 16 ^ k) next ∙ pow-suc 16 i in
    omega (arith, power)

pub hex_after-next : (n : ℕ) (digits : List ℕ) (i : ℕ) → i < length digits → hex_after n (drop i digits) ≡ hex_step n (hex_value (get_or digits i 0)) (λ m. hex_after m (drop (i + 1) digits))
hex_after-next n digits i within = ap (hex_after n) (drop_more digits i 0 within)
