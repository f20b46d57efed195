-- What the cursor over a file finds in front of the bytes that phases 1 and 2 have not yet seen.
use Rattle.std.specs.Prelude.{◌≡◌, ◌≢◌, ℕ, zero, suc, ◌+◌, ◌==◌, ◌^◌, ◌<◌, nat_lt, Bool, true, false, ◌&&◌, if◌then◌else◌, List, [], ◌∷◌, length, drop, Option, None, Some}
use Rattle.pp_tokens.specs.Cleaning.{Char, trigraph, cleaned_from, on_line_one}

-- a byte and how many bytes spell it: three for a trigraph
abbrev pub spelled : ℕ → Option ℕ → ℕ × ℕ
spelled first None = (first, 1)
spelled first (Some byte) = (byte, 3)

-- the byte in front, with a trigraph as the byte that it stands for, and how many bytes it takes
abbrev pub decoded : List ℕ → Option (ℕ × ℕ)
decoded [] = None
decoded (a ∷ []) = Some (a, 1)
decoded (a ∷ b ∷ []) = Some (a, 1)
decoded (a ∷ b ∷ c ∷ cs) = Some (spelled a (if (a == 63) && (b == 63) then trigraph c else None))

-- how many bytes spell the line feed in front, 0 where there is none
abbrev pub feed : List ℕ → ℕ
feed [] = 0
feed (a ∷ []) = if a == 10 then 1 else 0
feed (a ∷ b ∷ bs) = if a == 10 then 1 else (if (a == 13) && (b == 10) then 2 else 0)

-- how many bytes spell the `\` and line feed in front, 0 where there are none
abbrev pub splice_by : Option (ℕ × ℕ) → List ℕ → ℕ
splice_by None bytes = 0
splice_by (Some first) bytes = if (first.0 == 92) && nat_lt 0 (feed (drop first.1 bytes)) then first.1 + feed (drop first.1 bytes) else 0

-- how many bytes a splice in front takes, or 0
abbrev pub splice : List ℕ → ℕ
splice bytes = splice_by (decoded bytes) bytes

-- nothing in front goes away
pub record IsSettled (bytes : List ℕ) : Type 0 where
  pub no_splice : splice bytes ≡ 0
  pub no_return : feed bytes ≢ 2

-- what is left of these bytes, where the text is cleaned or taken as it is
abbrev pub left_of : Bool → ℕ → List ℕ → List Char
left_of cleans line bytes = if cleans then cleaned_from line bytes else on_line_one bytes

-- the byte in front where the text is taken as it is
abbrev pub first_unit : List ℕ → Option (ℕ × ℕ)
first_unit [] = None
first_unit (a ∷ bs) = Some (a, 1)

-- the byte in front and how many bytes spell it
abbrev pub front_of : Bool → List ℕ → Option (ℕ × ℕ)
front_of cleans bytes = if cleans then decoded bytes else first_unit bytes

-- the line of the byte after this one
abbrev pub line_behind : ℕ → ℕ → ℕ
line_behind line byte = if byte == 10 then line + 1 else line

-- where a cursor is
pub record IsPlace (cleans : Bool) (line : ℕ) (bytes : List ℕ) : Type 0 where
  pub settled : cleans ≡ true → IsSettled bytes
  pub one : cleans ≡ false → line ≡ 1
  pub bound : line + length bytes < 2 ^ 64

-- one byte spells the byte in front, it ends no line, and nothing after it goes away
abbrev pub IsPlain : List ℕ → Type 0
IsPlain [] = ⊥
IsPlain (a ∷ []) = ⊥
IsPlain (a ∷ b ∷ bs) = (a ≢ 63) × (a ≢ 10) × (b ≢ 13) × (b ≢ 92) × (b ≢ 63)

-- so many bytes in front are plain, each before those after it
abbrev pub ArePlain : ℕ → List ℕ → Type 0
ArePlain zero bytes = Unit {0}
ArePlain (suc n) bytes = IsPlain bytes × ArePlain n (drop 1 bytes)
