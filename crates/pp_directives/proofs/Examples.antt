-- Worked cases of groups (C17 6.10.1), computed.
use Rattle.std.proofs.Common.{◌≡◌, ℕ, Bool, true, false, [], ◌∷◌, Some, None, refl}
use Rattle.pp_directives.specs.declared.fault.StructFault.TheVariants.{StrayElse, ElifAfterElse, OpenIf}
use Rattle.pp_directives.specs.Groups.{OtherLine, IfLine, ElifLine, ElseLine, EndifLine, line, Group, Empty, Other, Section, Elif, Else, Endif, lines_of, Spot}
use Rattle.pp_directives.specs.Reached.{reached}
use Rattle.pp_directives.specs.Conditions.{fault_after}

-- the line of this number, with an answer
abbrev at : ℕ → Bool → Spot
at number answer = record { number = number; answer = answer }

-- a section with `#elif` and `#else`, in a file
abbrev file : (first second : Bool) → Group Spot
file first second =
    Section (at 1 first) (Other (at 2 false) Empty)
    (Elif (at 3 second) (Section (at 4 true) (Other (at 5 false) Empty) (Endif (at 6 false)) Empty)
    (Else (at 7 false) (Other (at 8 false) Empty) (at 9 false)))
    (Other (at 10 false) Empty)

-- the first group is taken, and the condition of `#elif` isn't looked at
first_taken : reached (file true true) ≡ line IfLine (at 1 true) ∷ line OtherLine (at 2 false) ∷ line OtherLine (at 10 false) ∷ []
first_taken = refl

-- the second group is taken
second_taken : reached (file false true) ≡ line IfLine (at 1 false) ∷ line ElifLine (at 3 true) ∷ line IfLine (at 4 true) ∷ line OtherLine (at 5 false) ∷ line OtherLine (at 10 false) ∷ []
second_taken = refl

-- that of `#else` is taken
else_taken : reached (file false false) ≡ line IfLine (at 1 false) ∷ line ElifLine (at 3 false) ∷ line OtherLine (at 8 false) ∷ line OtherLine (at 10 false) ∷ []
else_taken = refl

-- its lines end in no fault
no_fault : fault_after [] (lines_of (file false true)) ≡ None
no_fault = refl

stray : fault_after [] (line ElseLine (at 1 false) ∷ []) ≡ Some (1, StrayElse)
stray = refl

after_else : fault_after [] (line IfLine (at 1 true) ∷ line ElseLine (at 2 false) ∷ line ElifLine (at 3 true) ∷ []) ≡ Some (3, ElifAfterElse)
after_else = refl

unclosed : fault_after [] (line IfLine (at 1 true) ∷ line IfLine (at 2 false) ∷ line EndifLine (at 3 true) ∷ line ElseLine (at 4 false) ∷ []) ≡ Some (1, OpenIf)
unclosed = refl
