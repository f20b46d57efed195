-- The definitions on small files.
use Rattle.std.proofs.Common.{◌≡◌, ℕ, Bool, true, false, cond, List, [], ◌∷◌, Option, Some, None, Result, Ok, Err, refl}
use Rattle.pp_directives.specs.declared.fault.StructFault.{StructFault}
use Rattle.pp_directives.specs.declared.fault.StructFault.TheVariants.{ElseAfterElse, OpenIf}
use Rattle.pp_directives.specs.Groups.{OtherLine, IfLine, ElifLine, ElseLine, EndifLine, line, Empty, Other, Section, Elif, Else, Endif}
use Rattle.pp_directives.specs.Following.{Ways, Stops, Goes, FollowsFile, Whole}
use Rattle.pp_directives.specs.Running.{Runs}
use Rattle.pp_directives.proofs.FileLemmas.{file_same}

-- a line with its number, and whether it goes well; a condition has its answer
record Item : Type 0 where
  number : ℕ
  good : Bool
  answer : Bool

-- a fault of the structure, or of a line itself
record Fault : Type 0 where
  kind : Option StructFault
  number : ℕ

-- the numbers of the lines that did something, the last first; a line that is passed is not among them
abbrev ways : Ways Item (List ℕ) Fault
ways = record {
  passes = λ here s. s;
  Does = λ here s r. r ≡ cond {A = Result (List ℕ) Fault} here.good (Ok (here.number ∷ s)) (Err (record { kind = None; number = here.number }));
  Asks = λ here s r. r ≡ cond {A = Result Bool Fault} here.good (Ok here.answer) (Err (record { kind = None; number = here.number }));
  breaks = λ fault number. record { kind = Some fault; number = number };
  spot = λ here. here.number;
}

abbrev good : ℕ → Item
good n = record { number = n; good = true; answer = true }

abbrev refuted : ℕ → Item
refuted n = record { number = n; good = true; answer = false }

abbrev bad : ℕ → Item
bad n = record { number = n; good = false; answer = true }

-- a group whose condition is true is taken, and its `#else` is not
first_taken : FollowsFile ways (line IfLine (good 1) ∷ line OtherLine (good 2) ∷ line ElseLine (good 3) ∷ line OtherLine (bad 4) ∷ line EndifLine (good 5) ∷ []) [] (Ok (2 ∷ []))
first_taken =
    Whole (Section (good 1) (Other (good 2) Empty) (Else (good 3) (Other (bad 4) Empty) (good 5)) Empty) refl
    (Goes {s = 2 ∷ []} (Goes {s = true} refl (Goes {s = 2 ∷ []} (Goes {s = 2 ∷ []} refl refl) refl)) refl)

-- in a group that is not taken no condition is asked, and `#elif` is asked once
none_asked : FollowsFile ways (line IfLine (refuted 1) ∷ line IfLine (bad 2) ∷ line EndifLine (good 3) ∷ line ElifLine (good 4) ∷ line OtherLine (good 5) ∷ line ElifLine (bad 6) ∷ line EndifLine (good 7) ∷ []) [] (Ok (5 ∷ []))
none_asked =
    Whole (Section (refuted 1) (Section (bad 2) Empty (Endif (good 3)) Empty) (Elif (good 4) (Other (good 5) Empty) (Elif (bad 6) Empty (Endif (good 7)))) Empty) refl
    (Goes {s = 5 ∷ []} (Goes {s = false} refl (Goes {s = true} refl (Goes {s = 5 ∷ []} (Goes {s = 5 ∷ []} refl refl) refl))) refl)

-- a condition that fails ends all
fails : FollowsFile ways (line OtherLine (good 1) ∷ line IfLine (bad 2) ∷ line EndifLine (good 3) ∷ []) [] (Err (record { kind = None; number = 2 }))
fails = Whole (Other (good 1) (Section (bad 2) Empty (Endif (good 3)) Empty)) refl (Goes {s = 1 ∷ []} refl (Stops (Stops refl)))

-- the fault of the structure comes after the lines before it
second_else : FollowsFile ways (line IfLine (refuted 1) ∷ line ElseLine (good 2) ∷ line OtherLine (good 3) ∷ line ElseLine (good 4) ∷ []) [] (Err (record { kind = Some ElseAfterElse; number = 4 }))
second_else =
    let lines = line IfLine (refuted 1) ∷ line ElseLine (good 2) ∷ line OtherLine (good 3) ∷ line ElseLine (good 4) ∷ [] in
    let runs : Runs ways [] lines [] (Err (record { kind = Some ElseAfterElse; number = 4 })) =
    Goes (Goes {s = false} refl refl) (Goes (Goes {s = false} refl refl) (Goes (Goes {s = 3 ∷ []} refl refl) (Stops (Goes {s = false} refl refl)))) in
    (file_same ways lines [] (Err (record { kind = Some ElseAfterElse; number = 4 }))).0 runs

-- a line that fails before it comes first
fails_before : FollowsFile ways (line OtherLine (bad 1) ∷ line EndifLine (good 2) ∷ []) [] (Err (record { kind = None; number = 1 }))
fails_before =
    (file_same ways (line OtherLine (bad 1) ∷ line EndifLine (good 2) ∷ []) [] (Err (record { kind = None; number = 1 }))).0 (Stops (Stops refl))

-- a section that nothing closes, by the line of its `#if`
unclosed : FollowsFile ways (line OtherLine (good 1) ∷ line IfLine (good 2) ∷ line OtherLine (good 3) ∷ []) [] (Err (record { kind = Some OpenIf; number = 2 }))
unclosed =
    let lines = line OtherLine (good 1) ∷ line IfLine (good 2) ∷ line OtherLine (good 3) ∷ [] in
    let runs : Runs ways [] lines [] (Err (record { kind = Some OpenIf; number = 2 })) =
    Goes (Goes {s = 1 ∷ []} refl refl) (Goes (Goes {s = true} refl refl) (Goes (Goes {s = 3 ∷ 1 ∷ []} refl refl) refl)) in
    (file_same ways lines [] (Err (record { kind = Some OpenIf; number = 2 }))).0 runs
