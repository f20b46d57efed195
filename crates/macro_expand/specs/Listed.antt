-- Private to the code, cited by no public contract. Names whose texts are one after the other.
use Rattle.std.specs.Prelude.{ℕ, List, [], ◌∷◌, take, drop}

-- the names in a text, by their lengths
abbrev pub names_in : List ℕ → List ℕ → List (List ℕ)
names_in [] text = []
names_in (n ∷ ns) text = take n text ∷ names_in ns (drop n text)
