-- How tokens are printed so that they are read back.
use Rattle.std.specs.Prelude.{◌≡◌, ℕ, true, List, [], ◌∷◌, ◌++◌, ◌⊎◌, Ok}
use lib.Chars.{codes}
use Rattle.pp_tokens.specs.declared.token.Token.{Token}
use Rattle.pp_tokens.specs.Cut.{LexesText}

-- two tokens of one kind and text
pub record SameToken (t u : Token) : Type 0 where
  pub kind : t.kind ≡ u.kind
  pub text : t.text ≡ u.text

-- the same kinds and texts in order
abbrev pub SameTokens : List Token → List Token → Type 0
SameTokens [] [] = Unit {0}
SameTokens [] (u ∷ us) = ⊥
SameTokens (t ∷ ts) [] = ⊥
SameTokens (t ∷ ts) (u ∷ us) = SameToken t u × SameTokens ts us

-- the two texts, lexed together by phase 3, give these two tokens
abbrev pub GivesBoth : Token → Token → Type 0
GivesBoth t u = (found : List Token) × LexesText (t.text ++ u.text) (Ok found) × SameTokens found (t ∷ u ∷ [])

-- both are `.`
pub record AreDots (t u : Token) : Type 0 where
  pub first : t.text ≡ codes "."
  pub second : u.text ≡ codes "."

-- why white space has to be between two neighbours
abbrev pub IsParted : Token → Token → Type 0
IsParted t u = (u.space ≡ true) ⊎ (¬ GivesBoth t u) ⊎ AreDots t u

-- one space between the two where they are parted, and nothing else
abbrev pub IsGap : Token → Token → List ℕ → Type 0
IsGap t u gap = ((gap ≡ codes " ") × IsParted t u) ⊎ ((gap ≡ []) × (¬ IsParted t u))

-- the texts follow each other, with these gaps
abbrev pub Prints : List Token → List ℕ → Type 0
Prints [] text = text ≡ []
Prints (t ∷ []) text = text ≡ t.text
Prints (t ∷ u ∷ ts) text = (gap rest : List ℕ) × IsGap t u gap × Prints (u ∷ ts) rest × (text ≡ t.text ++ gap ++ rest)
