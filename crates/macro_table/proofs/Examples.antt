-- The definitions on two small units.
use Rattle.std.proofs.Common.{◌≡◌, ℕ, List, [], ◌∷◌, Option, Some, None, Ok, Err, refl}
use Rattle.macro_table.specs.Tables.{EntryValue}
use Rattle.mac_base.specs.Items.{Item, Define, Undef, Start, End}
use Rattle.macro_table.specs.FileTable.{instance, prefix, definition}

-- 100 stands for m.c and 101 for m.h: m.c includes m.h in line 2, which defines A as 1 in line 1; line 3 of m.c undefines A
abbrev unit : List (Item ℕ)
unit = Start 0 100 ∷ Start 2 101 ∷ Define 1 (65 ∷ 32 ∷ 49 ∷ []) ∷ End ∷ Undef 3 (65 ∷ []) ∷ End ∷ []

abbrev a : List ℕ
a = 65 ∷ []

abbrev a_is_1 : Option (EntryValue ℕ)
a_is_1 = Some (record { text = 65 ∷ 32 ∷ 49 ∷ []; files = (100, 0) ∷ (101, 2) ∷ []; line = 1 })

the_outermost_file : instance unit [] ≡ Ok 0
the_outermost_file = refl

the_included_file : instance unit (2 ∷ []) ≡ Ok 1
the_included_file = refl

no_file_in_line_5 : instance unit (5 ∷ []) ≡ Err 1
no_file_in_line_5 = refl

no_file_in_the_included_one : instance unit (2 ∷ 1 ∷ []) ≡ Err 2
no_file_in_the_included_one = refl

no_file_at_all : instance {P = ℕ} [] [] ≡ Err 0
no_file_at_all = refl

behind_the_inclusion : definition (prefix unit 0 3) a ≡ a_is_1
behind_the_inclusion = refl

behind_the_undef : definition (prefix unit 0 4) a ≡ None
behind_the_undef = refl

before_the_inclusion : definition (prefix unit 0 2) a ≡ None
before_the_inclusion = refl

before_the_define : definition (prefix unit 1 1) a ≡ None
before_the_define = refl

behind_the_define : definition (prefix unit 1 2) a ≡ a_is_1
behind_the_define = refl

-- m.c defines B in line 1 and includes m.h in lines 2 and 5; line 9 of m.h defines A, as 1 at first and then as 2, where line 10 undefines B
abbrev twice : List (Item ℕ)
twice = Start 0 100 ∷ Define 1 (66 ∷ 32 ∷ []) ∷ Start 2 101 ∷ Define 9 (65 ∷ 32 ∷ 49 ∷ []) ∷ End ∷ Start 5 101 ∷ Define 9 (65 ∷ 32 ∷ 50 ∷ []) ∷ Undef 10 (66 ∷ []) ∷ End ∷ End ∷ []

abbrev b : List ℕ
b = 66 ∷ []

abbrev first_a : Option (EntryValue ℕ)
first_a = Some (record { text = 65 ∷ 32 ∷ 49 ∷ []; files = (100, 0) ∷ (101, 2) ∷ []; line = 9 })

abbrev second_a : Option (EntryValue ℕ)
second_a = Some (record { text = 65 ∷ 32 ∷ 50 ∷ []; files = (100, 0) ∷ (101, 5) ∷ []; line = 9 })

abbrev the_b : Option (EntryValue ℕ)
the_b = Some (record { text = 66 ∷ 32 ∷ []; files = (100, 0) ∷ []; line = 1 })

the_first_inclusion : instance twice (2 ∷ []) ≡ Ok 2
the_first_inclusion = refl

the_second_inclusion : instance twice (5 ∷ []) ≡ Ok 5
the_second_inclusion = refl

lines_of_an_included_file_do_not_count : definition (prefix twice 0 3) a ≡ first_a
lines_of_an_included_file_do_not_count = refl

behind_both : definition (prefix twice 0 6) a ≡ second_a
behind_both = refl

in_the_second_one : definition (prefix twice 5 9) a ≡ first_a
in_the_second_one = refl

before_the_line_is_over : definition (prefix twice 5 10) b ≡ the_b
before_the_line_is_over = refl

to_the_end_of_the_file : definition (prefix twice 5 11) b ≡ None
to_the_end_of_the_file = refl
