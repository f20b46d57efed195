-- Which bytes of a file are left by phases 1 and 2 of translation, and the physical line of each (C17 5.1.1.2 and 5.2.1.1).
use Rattle.std.specs.Prelude.{ℕ, ◌+◌, ◌==◌, ◌&&◌, if◌then◌else◌, List, [], ◌∷◌, map, Option, None, Some}

-- a byte, and its physical line: 1 plus the number of line feeds before it in the file
pub record Char : Type 0 where
  pub byte : ℕ
  pub line : ℕ

-- the bytes alone
abbrev pub bytes_of : List Char → List ℕ
bytes_of = map (λ (c : Char). c.byte)

-- the bytes with their lines, where the first is on this line
abbrev pub numbered : ℕ → List ℕ → List Char
numbered line [] = []
numbered line (b ∷ bs) = record { byte = b; line = line } ∷ numbered (if b == 10 then line + 1 else line) bs

-- a carriage return directly before a line feed is dropped
abbrev pub without_cr : List Char → List Char
without_cr [] = []
without_cr (c ∷ []) = c ∷ []
without_cr (c ∷ d ∷ cs) = if (c.byte == 13) && (d.byte == 10) then without_cr (d ∷ cs) else c ∷ without_cr (d ∷ cs)

-- what a trigraph stands for, by its third byte: `=` `(` `/` `)` `'` `<` `!` `>` `-` after `??` are `#` `[` `\` `]` `^` `{` `|` `}` `~` (5.2.1.1)
abbrev pub trigraph : ℕ → Option ℕ
trigraph third =
    if third == 61 then Some 35
    else (if third == 40 then Some 91
    else (if third == 47 then Some 92
    else (if third == 41 then Some 93
    else (if third == 39 then Some 94
    else (if third == 60 then Some 123
    else (if third == 33 then Some 124
    else (if third == 62 then Some 125
    else (if third == 45 then Some 126
    else None))))))))

-- the trigraph of three bytes
abbrev pub trigraph_of : Char → Char → Char → Option ℕ
trigraph_of a b c = if (a.byte == 63) && (b.byte == 63) then trigraph c.byte else None

-- a byte on that line before the first list, or the second list
abbrev pub replaced : Option ℕ → ℕ → List Char → List Char → List Char
replaced (Some b) line behind kept = record { byte = b; line = line } ∷ behind
replaced None line behind kept = kept

-- each trigraph is replaced, from left to right (phase 1)
abbrev pub without_trigraphs : List Char → List Char
without_trigraphs (a ∷ b ∷ c ∷ cs) = replaced (trigraph_of a b c) a.line (without_trigraphs cs) (a ∷ without_trigraphs (b ∷ c ∷ cs))
without_trigraphs cs = cs

-- each `\` directly before a line feed goes with it (phase 2)
abbrev pub spliced : List Char → List Char
spliced [] = []
spliced (c ∷ []) = c ∷ []
spliced (c ∷ d ∷ cs) = if (c.byte == 92) && (d.byte == 10) then spliced cs else c ∷ spliced (d ∷ cs)

-- what is left of the rest of a file that begins on this line
abbrev pub cleaned_from : ℕ → List ℕ → List Char
cleaned_from line bytes = spliced (without_trigraphs (without_cr (numbered line bytes)))

-- what phases 1 and 2 leave of a file
abbrev pub cleaned : List ℕ → List Char
cleaned bytes = cleaned_from 1 bytes

-- one text, which phases 1 and 2 leave as it is, all on line 1
abbrev pub on_line_one : List ℕ → List Char
on_line_one = map (λ b. record { byte = b; line = 1 })

-- the line of the first byte 0
abbrev pub first_nul : List Char → Option ℕ
first_nul [] = None
first_nul (c ∷ cs) = if c.byte == 0 then Some c.line else first_nul cs
