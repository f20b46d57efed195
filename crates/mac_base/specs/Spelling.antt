-- Which bytes spell a field (DWARF 5, 7.4 and 7.6), apart from how it is read.
use Rattle.std.specs.Prelude.{◌≡◌, ◌≢◌, ℕ, ℤ, ◌<◌, ◌≤◌, List, [], ◌∷◌, ◌++◌, length}
use Rattle.std.specs.List.{AllByRecursion}
use Rattle.mac_base.specs.Input.{Input, rest, ahead}
use Rattle.mac_base.specs.Fields.{little_endian, unsigned_leb, signed_leb}

-- each byte but the last is 128 or more
abbrev pub AreDigits : List ℕ → Type 0
AreDigits [] = ⊥
AreDigits (b ∷ []) = b < 128
AreDigits (b ∷ c ∷ bs) = (128 ≤ b) × AreDigits (c ∷ bs)

-- a number in ULEB128, which may end in needless zeros
pub record IsUleb (bytes : List ℕ) (n : ℕ) : Type 0 where
  pub digits : AreDigits bytes
  pub number : n ≡ unsigned_leb bytes

-- a number in SLEB128, which may end in needless bytes of its sign
pub record IsSleb (bytes : List ℕ) (z : ℤ) : Type 0 where
  pub digits : AreDigits bytes
  pub number : z ≡ signed_leb bytes

-- a number in so many bytes, the lowest first
pub record IsFixed (width : ℕ) (bytes : List ℕ) (n : ℕ) : Type 0 where
  pub long : length bytes ≡ width
  pub number : n ≡ little_endian bytes

-- a string and its NUL
pub record IsString (bytes text : List ℕ) : Type 0 where
  pub ends : bytes ≡ text ++ 0 ∷ []
  pub no_nul : AllByRecursion (λ b. b ≢ 0) text

-- these bytes are between two places of one input
pub record Between (old new : Input) (bytes : List ℕ) : Type 0 where
  pub front : rest old ≡ bytes ++ rest new
  pub place : new ≡ ahead old (length bytes)
