-- Marks and events of a small translation unit: at each line both have the same prefix of the events.
use Rattle.std.proofs.Common.{◌≡◌, ℕ, List, [], ◌∷◌, take, Option, Some, None, Ok, Err, refl}
use Rattle.std.specs.List.{find}
use Rattle.mac_base.specs.Items.{Item, Define, Undef, Start, End}
use Rattle.macro_table.specs.FileTable.{instance, prefix}
use Rattle.pp_unit.specs.Seen.{Mark}
use Rattle.pp_unit.specs.PreTables.{is_at, files_walked}
use Rattle.pp_unit.proofs.Traces.{mark}

-- The command defines C. Of m.c line 1 defines B, line 2 includes m.h, line 4 is skipped, line 6 undefines A, lines 7 and 8 include a file that is empty and one that contributes nothing any more. Line 9 of m.h defines A; a comment makes it the first that has a token.
abbrev unit : List (Item ℕ)
unit = Define 0 (67 ∷ 32 ∷ []) ∷ Start 0 0 ∷ Define 1 (66 ∷ 32 ∷ []) ∷ Start 2 1 ∷ Define 9 (65 ∷ 32 ∷ []) ∷ End ∷ Undef 6 (65 ∷ []) ∷ Start 7 2 ∷ End ∷ End ∷ []

abbrev marks : List Mark
marks =
    mark [] (Some 1) 2
    ∷ mark [] (Some 2) 3
    ∷ mark (2 ∷ []) (Some 9) 4
    ∷ mark (2 ∷ []) None 5
    ∷ mark [] (Some 3) 6
    ∷ mark [] (Some 4) 6
    ∷ mark [] (Some 5) 6
    ∷ mark [] (Some 6) 6
    ∷ mark [] (Some 7) 7
    ∷ mark (7 ∷ []) None 8
    ∷ mark [] (Some 8) 9
    ∷ mark [] None 9
    ∷ []

-- the events before a mark
abbrev events_at : Option Mark → List (Item ℕ)
events_at None = []
events_at (Some mark) = take mark.events unit

-- line 0 has what the command says
line_0 : prefix unit 1 0 ≡ events_at (find (is_at [] 0) marks)
line_0 = refl

line_0_has_the_command : prefix unit 1 0 ≡ take 2 unit
line_0_has_the_command = refl

before_the_inclusion : prefix unit 1 2 ≡ events_at (find (is_at [] 2) marks)
before_the_inclusion = refl

after_the_inclusion : prefix unit 1 3 ≡ events_at (find (is_at [] 3) marks)
after_the_inclusion = refl

in_a_skipped_group : prefix unit 1 4 ≡ events_at (find (is_at [] 4) marks)
in_a_skipped_group = refl

after_the_last_line : prefix unit 1 100 ≡ events_at (find (is_at [] 100) marks)
after_the_last_line = refl

the_included_file : instance unit (2 ∷ []) ≡ Ok 3
the_included_file = refl

in_a_comment_of_the_included_file : prefix unit 3 5 ≡ events_at (find (is_at (2 ∷ []) 5) marks)
in_a_comment_of_the_included_file = refl

at_its_end : prefix unit 3 10 ≡ events_at (find (is_at (2 ∷ []) 10) marks)
at_its_end = refl

the_empty_file : instance unit (7 ∷ []) ≡ Ok 7
the_empty_file = refl

in_the_empty_file : prefix unit 7 1 ≡ events_at (find (is_at (7 ∷ []) 1) marks)
in_the_empty_file = refl

once_is_no_file : instance unit (8 ∷ []) ≡ Err (files_walked marks [] (8 ∷ []))
once_is_no_file = refl

once_has_no_mark : find (is_at (8 ∷ []) 1) marks ≡ None
once_has_no_mark = refl

nothing_inside_the_included_file : instance unit (2 ∷ 9 ∷ []) ≡ Err (files_walked marks [] (2 ∷ 9 ∷ []))
nothing_inside_the_included_file = refl

two_files_walked : files_walked marks [] (2 ∷ 9 ∷ 4 ∷ []) ≡ 2
two_files_walked = refl
