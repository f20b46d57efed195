-- A line on a fault: `dwmac:` and its pieces, each after a space.
use Rattle.std.specs.Prelude.{ℕ, List, [], ◌∷◌, ◌++◌, codes, decimal}
use Rattle.std.specs.List.{flat_map}
use Rattle.mac_base.specs.ReportText.{hex}
use Rattle.dwmac_run.specs.declared.line.Piece.{Piece}
use Rattle.dwmac_run.specs.declared.line.Piece.TheVariants.{Nothing, Text, Decimal, Hex, File, Line}
use Rattle.dwmac_run.specs.declared.line.FaultLine.{FaultLine}

-- a piece after a space
abbrev pub spaced : List ℕ → List ℕ
spaced piece = codes " " ++ piece

-- the line of these pieces
abbrev pub line_text : List (List ℕ) → List ℕ
line_text pieces = codes "dwmac:" ++ (flat_map spaced pieces ++ codes "\n")

-- where a fault is: in this file
abbrev pub in_file : List ℕ → List ℕ
in_file path = path ++ codes ":"

-- where a fault is: in this line of a file
abbrev pub at_line : List ℕ → ℕ → List ℕ
at_line path line = (path ++ codes ":") ++ (decimal line ++ codes ":")

-- the texts of pieces as the code keeps them
abbrev pub pieces : List Piece → List (List ℕ)
pieces [] = []
pieces (Nothing ∷ others) = pieces others
pieces (Text text ∷ others) = text.now ∷ pieces others
pieces (Decimal number ∷ others) = decimal number ∷ pieces others
pieces (Hex number ∷ others) = hex number ∷ pieces others
pieces (File path ∷ others) = in_file path.now ∷ pieces others
pieces (Line path line ∷ others) = at_line path.now line ∷ pieces others

-- those of a line as the code keeps it
abbrev pub line_pieces : FaultLine → List (List ℕ)
line_pieces line = pieces (line.place ∷ line.words)

-- what is written for a piece as the code keeps it
abbrev pub written : Piece → List ℕ
written Nothing = []
written (Text text) = spaced text.now
written (Decimal number) = spaced (decimal number)
written (Hex number) = spaced (hex number)
written (File path) = spaced (in_file path.now)
written (Line path line) = spaced (at_line path.now line)
