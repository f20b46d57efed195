-- A field at a place of an input, and the bytes that it takes.
use Rattle.std.proofs.Common.{◌≡◌, ℕ, ℤ, ◌+◌, ◌*◌, ◌<◌, ◌≤◌, ◌^◌, true, ltb, List, [], ◌∷◌, ◌++◌, length, take, drop, Option, Some, None, Ok, refl, ap, subst, ◌∙◌, sym, arith, length-append, append_assoc}
use Rattle.std.proofs.lemmas.List.{length-take-le, take-append-drop, drop-drop, drop_at, take_at}
use Rattle.std.specs.Prelude.{IsTrue}
use borrow.Author.Tests.{ltb-true, ltb-false, lt-ltb, le-ltb}
use Rattle.mac_base.specs.declared.cursor.CursorFault.{CursorFault}
use Rattle.mac_base.specs.declared.cursor.CursorFault.TheVariants.{Cut, Leb}
use Rattle.mac_base.specs.Input.{Input, rest, ahead}
use Rattle.mac_base.specs.Fields.{before_nul, leb_digits, unsigned_leb, signed_leb, uleb_at, uleb_of, sleb_at, sleb_of, fits_i64, text_at, text_of, bytes_at, number_at, little_endian}
use Rattle.mac_base.specs.Spelling.{IsUleb, IsSleb, IsFixed, IsString, Between}
use Rattle.mac_base.proofs.Choices.{same_ok, guarded, guarded_not}
use Rattle.mac_base.proofs.SpellingLemmas.{leb_digits_takes, leb_digits_again, before_nul_takes, before_nul_again}

-- the bytes that are passed over are between
pub between_taken : (p : Input) (k : ℕ) → k ≤ length (rest p) → Between p (ahead p k) (take k (rest p))
between_taken p k within = record {
  front = sym (take-append-drop k (rest p)) ∙ ap (λ xs. take k (rest p) ++ xs) (drop-drop k p.at p.bytes);
  place = ap (ahead p) (sym (length-take-le k (rest p) within));
}

pub between_none : (p : Input) → Between p p []
between_none p = record { front = refl; place = let same : p.at + 0 ≡ p.at = omega arith in ap (λ n. record { bytes = p.bytes; at = n }) (sym same) }

pub between_both : (p q r : Input) (xs ys : List ℕ) → Between p q xs → Between q r ys → Between p r (xs ++ ys)
between_both p q r xs ys first second =
    let far : p.at + length xs + length ys ≡ p.at + length (xs ++ ys) = omega (arith, length-append xs ys) in
    record {
      front = first.front ∙ ap (λ zs. xs ++ zs) second.front ∙ sym (append_assoc xs ys (rest r));
      place = second.place ∙ ap (λ (z : Input). ahead z (length ys)) first.place ∙ ap (λ n. record { bytes = p.bytes; at = n }) far;
    }

-- the place between two stretches of bytes
pub between_cut : (p q : Input) (front back : List ℕ) → Between p q (front ++ back) → Between p (ahead p (length front)) front × Between (ahead p (length front)) q back
between_cut p q front back between =
    let left : drop (p.at + length front) p.bytes ≡ back ++ rest q = sym (drop-drop (length front) p.at p.bytes) ∙ ap (drop (length front)) (between.front ∙ append_assoc front back (rest q)) ∙ drop_at front (back ++ rest q) (length front) refl in
    let far : p.at + length (front ++ back) ≡ p.at + length front + length back = omega (arith, length-append front back) in (
      record { front = between.front ∙ append_assoc front back (rest q) ∙ ap (λ xs. front ++ xs) (sym left); place = refl },
      record { front = left; place = between.place ∙ ap (λ n. record { bytes = p.bytes; at = n }) far },
    )

-- the place after a prefix of what is left
pub between_front : (p : Input) (front more : List ℕ) → rest p ≡ front ++ more → Between p (ahead p (length front)) front
between_front p front more is =
    let left : drop (p.at + length front) p.bytes ≡ more = sym (drop-drop (length front) p.at p.bytes) ∙ ap (drop (length front)) is ∙ drop_at front more (length front) refl in
    record { front = is ∙ ap (λ xs. front ++ xs) (sym left); place = refl }

-- a stretch that is the prefix of what is left, and where it ends
between_found : (p q : Input) (ds : List ℕ) → rest p ≡ ds ++ drop (length ds) (rest p) → ahead p (length ds) ≡ q → Between p q ds
between_found p q ds is place = subst (λ (z : Input). Between p z ds) place (between_front p ds (drop (length ds) (rest p)) is)

pub bytes_at-takes : (n : ℕ) (p q : Input) (bytes : List ℕ) → bytes_at n p ≡ Ok (bytes, q) → Between p q bytes
bytes_at-takes n p q bytes is =
    let parts = guarded_not (ltb (length (rest p)) n) (Ok (take n (rest p), ahead p n)) (bytes, q) (Cut p.at) is in
    let same = same_ok {E = CursorFault} (take n (rest p), ahead p n) (bytes, q) parts.1 in
    let taken = between_taken p n (ltb-false (length (rest p)) n parts.0) in
    subst (λ (x : List ℕ × Input). Between p x.1 x.0) same taken

pub bytes_at-long : (n : ℕ) (p q : Input) (bytes : List ℕ) → bytes_at n p ≡ Ok (bytes, q) → length bytes ≡ n
bytes_at-long n p q bytes is =
    let parts = guarded_not (ltb (length (rest p)) n) (Ok (take n (rest p), ahead p n)) (bytes, q) (Cut p.at) is in
    let same = same_ok {E = CursorFault} (take n (rest p), ahead p n) (bytes, q) parts.1 in
    let front : take n (rest p) ≡ bytes = ap (λ (x : List ℕ × Input). x.0) same in
    ap length (sym front) ∙ length-take-le n (rest p) (ltb-false (length (rest p)) n parts.0)

pub bytes_at-again : (p q : Input) (bytes : List ℕ) (n : ℕ) → Between p q bytes → length bytes ≡ n → bytes_at n p ≡ Ok (bytes, q)
bytes_at-again p q bytes n between long =
    let front : take n (rest p) ≡ bytes = rw between.front (take_at bytes (rest q) n long) in
    let within : n ≤ length (rest p) = rw between.front (omega (arith, length-append bytes (rest q), long)) in
    let place : ahead p n ≡ q = ap (ahead p) (sym long) ∙ sym between.place in
    rw (le-ltb (length (rest p)) n within, front, place) refl

pub number_at-takes : (width : ℕ) (p q : Input) (n : ℕ) → number_at width p ≡ Ok (n, q) → (bytes : List ℕ) × Between p q bytes × IsFixed width bytes n
number_at-takes width p q n is =
    let parts = guarded_not (ltb (length (rest p)) width) (Ok (little_endian (take width (rest p)), ahead p width)) (n, q) (Cut p.at) is in
    let same = same_ok {E = CursorFault} (little_endian (take width (rest p)), ahead p width) (n, q) parts.1 in
    let within : width ≤ length (rest p) = ltb-false (length (rest p)) width parts.0 in
    let place : ahead p width ≡ q = ap (λ (x : ℕ × Input). x.1) same in
    let value : n ≡ little_endian (take width (rest p)) = sym (ap (λ (x : ℕ × Input). x.0) same) in
    (take width (rest p), subst (λ (z : Input). Between p z (take width (rest p))) place (between_taken p width within), record { long = length-take-le width (rest p) within; number = value })

pub number_at-again : (width : ℕ) (p q : Input) (bytes : List ℕ) (n : ℕ) → Between p q bytes → IsFixed width bytes n → number_at width p ≡ Ok (n, q)
number_at-again width p q bytes n between is =
    let front : take width (rest p) ≡ bytes = rw between.front (take_at bytes (rest q) width is.long) in
    let within : width ≤ length (rest p) = rw between.front (omega (arith, length-append bytes (rest q), is.long)) in
    let place : ahead p width ≡ q = ap (ahead p) (sym is.long) ∙ sym between.place in
    rw (le-ltb (length (rest p)) width within, front, place) (ap (λ m. Ok (m, q)) (sym is.number))

fitting : (p q : Input) (n : ℕ) (o : Option (List ℕ)) → uleb_of p o ≡ Ok (n, q) → (ds : List ℕ) × (o ≡ Some ds) × (ahead p (length ds) ≡ q) × (n ≡ unsigned_leb ds) × (n < 2 ^ 64)
fitting p q n None is = cc
fitting p q n (Some ds) is =
    let parts = guarded (ltb (unsigned_leb ds) (2 ^ 64)) (Ok (unsigned_leb ds, ahead p (length ds))) (n, q) (Leb p.at) is in
    let same = same_ok {E = CursorFault} (unsigned_leb ds, ahead p (length ds)) (n, q) parts.1 in
    let value : unsigned_leb ds ≡ n = ap (λ (x : ℕ × Input). x.0) same in
    let small : unsigned_leb ds < 2 ^ 64 = ltb-true (unsigned_leb ds) (2 ^ 64) parts.0 in
    (ds, refl, ap (λ (x : ℕ × Input). x.1) same, sym value, subst (λ x. x < 2 ^ 64) value small)

pub uleb_at-takes : (p q : Input) (n : ℕ) → uleb_at p ≡ Ok (n, q) → (bytes : List ℕ) × Between p q bytes × IsUleb bytes n × (n < 2 ^ 64)
uleb_at-takes p q n is =
    let found = fitting p q n (leb_digits (rest p)) is in
    let digits = leb_digits_takes (rest p) found.0 found.1 in
    (found.0, between_found p q found.0 digits.1 found.2, record { digits = digits.0; number = found.3 }, found.4)

pub uleb_at-again : (p q : Input) (bytes : List ℕ) (n : ℕ) → Between p q bytes → IsUleb bytes n → n < 2 ^ 64 → uleb_at p ≡ Ok (n, q)
uleb_at-again p q bytes n between spelled small =
    let read : leb_digits (rest p) ≡ Some bytes = rw between.front (leb_digits_again bytes (rest q) spelled.digits) in
    let fits : unsigned_leb bytes < 2 ^ 64 = subst (λ x. x < 2 ^ 64) spelled.number small in
    rw (read, lt-ltb (unsigned_leb bytes) (2 ^ 64) fits) (ap (λ (x : ℕ × Input). Ok x) (λ i. (sym spelled.number i, sym between.place i)))

fitting_signed : (p q : Input) (z : ℤ) (o : Option (List ℕ)) → sleb_of p o ≡ Ok (z, q) → (ds : List ℕ) × (o ≡ Some ds) × (ahead p (length ds) ≡ q) × (z ≡ signed_leb ds) × (fits_i64 z ≡ true)
fitting_signed p q z None is = cc
fitting_signed p q z (Some ds) is =
    let parts = guarded (fits_i64 (signed_leb ds)) (Ok (signed_leb ds, ahead p (length ds))) (z, q) (Leb p.at) is in
    let same = same_ok {E = CursorFault} (signed_leb ds, ahead p (length ds)) (z, q) parts.1 in
    let value : signed_leb ds ≡ z = ap (λ (x : ℤ × Input). x.0) same in
    (ds, refl, ap (λ (x : ℤ × Input). x.1) same, sym value, ap fits_i64 (sym value) ∙ parts.0)

pub sleb_at-takes : (p q : Input) (z : ℤ) → sleb_at p ≡ Ok (z, q) → (bytes : List ℕ) × Between p q bytes × IsSleb bytes z × IsTrue (fits_i64 z)
sleb_at-takes p q z is =
    let found = fitting_signed p q z (leb_digits (rest p)) is in
    let digits = leb_digits_takes (rest p) found.0 found.1 in
    (found.0, between_found p q found.0 digits.1 found.2, record { digits = digits.0; number = found.3 }, found.4)

pub sleb_at-again : (p q : Input) (bytes : List ℕ) (z : ℤ) → Between p q bytes → IsSleb bytes z → IsTrue (fits_i64 z) → sleb_at p ≡ Ok (z, q)
sleb_at-again p q bytes z between spelled small =
    let read : leb_digits (rest p) ≡ Some bytes = rw between.front (leb_digits_again bytes (rest q) spelled.digits) in
    let fits : fits_i64 (signed_leb bytes) ≡ true = ap fits_i64 (sym spelled.number) ∙ small in
    rw (read, fits) (ap (λ (x : ℤ × Input). Ok x) (λ i. (sym spelled.number i, sym between.place i)))

ending : (p q : Input) (text : List ℕ) (o : Option (List ℕ)) → text_of p o ≡ Ok (text, q) → (o ≡ Some text) × (q ≡ ahead p (length text + 1))
ending p q text None is = cc
ending p q text (Some t) is =
    let parts = same_ok {E = CursorFault} (t, ahead p (length t + 1)) (text, q) is in
    let same : t ≡ text = ap (λ (x : List ℕ × Input). x.0) parts in
    let place : ahead p (length t + 1) ≡ q = ap (λ (x : List ℕ × Input). x.1) parts in
    (ap Some same, sym place ∙ ap (λ (x : List ℕ). ahead p (length x + 1)) same)

pub text_at-takes : (p q : Input) (text : List ℕ) → text_at p ≡ Ok (text, q) → (bytes : List ℕ) × Between p q bytes × IsString bytes text
text_at-takes p q text is =
    let found = ending p q text (before_nul (rest p)) is in
    let split = before_nul_takes (rest p) text found.0 in
    let long : length (text ++ 0 ∷ []) ≡ length text + 1 = omega (arith, length-append text (0 ∷ [])) in (
      text ++ 0 ∷ [],
      record {
        front = split.1 ∙ ap (λ xs. text ++ 0 ∷ xs) (drop-drop (length text + 1) p.at p.bytes) ∙ ap (λ (z : Input). text ++ 0 ∷ rest z) (sym found.1) ∙ sym (append_assoc text (0 ∷ []) (rest q));
        place = found.1 ∙ ap (ahead p) (sym long);
      },
      record { ends = refl; no_nul = split.0 },
    )

pub text_at-again : (p q : Input) (bytes text : List ℕ) → Between p q bytes → IsString bytes text → text_at p ≡ Ok (text, q)
text_at-again p q bytes text between spelled =
    let whole : rest p ≡ text ++ 0 ∷ rest q = between.front ∙ ap (λ xs. xs ++ rest q) spelled.ends ∙ append_assoc text (0 ∷ []) (rest q) in
    let read : before_nul (rest p) ≡ Some text = rw whole (before_nul_again text (rest q) spelled.no_nul) in
    let long : length bytes ≡ length text + 1 = ap length spelled.ends ∙ length-append text (0 ∷ []) in
    rw read (ap (λ (z : Input). Ok (text, z)) (sym (between.place ∙ ap (ahead p) long)))

one_byte : (bytes : List ℕ) (b : ℕ) → length bytes ≡ 1 → b ≡ little_endian bytes → bytes ≡ b ∷ []
one_byte [] b long is = absurd (omega arith)
one_byte (x ∷ []) b long is = let same : x ≡ b = omega arith in ap (λ n. n ∷ []) same
one_byte (x ∷ y ∷ bytes) b long is = absurd (omega arith)

pub byte_at-takes : (p q : Input) (b : ℕ) → number_at 1 p ≡ Ok (b, q) → Between p q (b ∷ [])
byte_at-takes p q b is =
    let found = number_at-takes 1 p q b is in
    subst (λ (bytes : List ℕ). Between p q bytes) (one_byte found.0 b found.2.long found.2.number) found.1

pub byte_at-again : (p q : Input) (b : ℕ) → Between p q (b ∷ []) → number_at 1 p ≡ Ok (b, q)
byte_at-again p q b between =
    let value : b ≡ b + 256 * 0 = omega arith in
    number_at-again 1 p q (b ∷ []) b between (record { long = refl; number = value })
