-- Laws of positions as text: a text is read as exactly the position that it spells, so that none spells two.
use Rattle.std.specs.Prelude.{◌≡◌, ℕ, true, List, [], ◌∷◌, ◌++◌, Some, None, option_and_then}
use Rattle.std.specs.List.{slice_split, join_with_byte}
use Rattle.position_table.specs.declared.position.Position.{Position}
use Rattle.position_table.specs.declared.position.Position.TheVariants.{Chain, Named}
use Rattle.position_table.specs.Positions.{is_colon, number_of, numbers_of, chain_of, is_path, position_of}

-- the text is no chain of numbers
abbrev pub IsNoChain : List ℕ → Type 0
IsNoChain text = option_and_then chain_of (numbers_of (slice_split is_colon text)) ≡ None

-- The texts of a position. One with colons between its fields, which are numbers, is a chain: the number of the root, the lines of the inclusions, and the line. One that is no chain is a path that is not empty, a colon, and a field that is a number.
pub data Spells : Position → List ℕ → Type 0 where
  AsChain : (unit : ℕ) (lines : List ℕ) (line : ℕ) (fields : List (List ℕ)) → numbers_of fields ≡ Some (unit ∷ (lines ++ line ∷ [])) → Spells (Chain unit lines line) (join_with_byte 58 fields)
  AsPath : (path field : List ℕ) (line : ℕ) → is_path path ≡ true → number_of field ≡ Some line → IsNoChain (path ++ 58 ∷ field) → Spells (Named path line) (path ++ 58 ∷ field)

-- what is read is spelled so, and what is spelled is read
pub record PositionsAreExact : Type 0 where
  pub spelled : (text : List ℕ) (position : Position) → position_of text ≡ Some position → Spells position text
  pub read : (text : List ℕ) (position : Position) → Spells position text → position_of text ≡ Some position
