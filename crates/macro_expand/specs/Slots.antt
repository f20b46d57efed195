-- Private to the code, cited by no public contract. The lists of tokens that wait, one after another, as the code's stack holds them.
use Rattle.std.specs.Prelude.{ℕ, zero, suc, ◌+◌, ◌-◌, ◌≡◌, ◌≤◌, ◌⊎◌, Bool, true, false, map, if◌then◌else◌, List, [], ◌∷◌, ◌++◌, Option, Some, None}
use Rattle.macro_expand.specs.declared.rescan.slots.Slot.{Slot}
use Rattle.macro_expand.specs.declared.rescan.slots.Slot.TheVariants as slot
use Rattle.macro_expand.specs.declared.rescan.slots.Cut.{Cut}
use Rattle.macro_expand.specs.declared.delimiter.Delimiter.{Delimiter}
use Rattle.macro_expand.specs.declared.delimiter.Delimiter.TheVariants.{Opens}
use Rattle.macro_expand.specs.Marked.{Names, no_names, Marked, delimiter_of}
use Rattle.macro_expand.specs.Calls.{to_first, depth_behind, ends_call, parts, first_list, other_lists}
use Rattle.macro_expand.specs.States.{backwards, marked, hidden_names}

-- a token of a list, or the end of one
pub data Place : Type 0 where
  Stands : Marked → Place
  Ends : Place

-- what a slot of the code holds
abbrev pub place_of : Slot → Place
place_of (slot.Word h j) = Stands (marked h)
place_of slot.End = Ends

-- the lists, of which each ends at a mark
abbrev pub lists_of : List Place → List (List Marked)
lists_of [] = []
lists_of (Stands m ∷ ps) = to_first m (lists_of ps)
lists_of (Ends ∷ ps) = [] ∷ lists_of ps

-- what the stack holds, from its top down
abbrev pub places : List Slot → List Place
places slots = backwards place_of slots

-- the lists that the stack holds
abbrev pub lists : List Slot → List (List Marked)
lists slots = lists_of (places slots)

-- the lists with tokens before the first
abbrev pub in_front : List Marked → List (List Marked) → List (List Marked)
in_front [] ls = ls
in_front (m ∷ ms) ls = to_first m (in_front ms ls)

-- the token that is taken from the first list, or none where the list is empty and goes
abbrev pub Takes : Option Marked → List (List Marked) → List (List Marked) → Type 0
Takes (Some m) old new = old ≡ to_first m new
Takes None old new = (first_list old ≡ []) × (new ≡ other_lists old)

-- what the next token of a list is to the arguments of a call
abbrev pub first_delimiter : List Marked → Option Delimiter
first_delimiter [] = None
first_delimiter (m ∷ ms) = Some (delimiter_of m.token)

-- what a place is to the arguments of a call
abbrev pub place_delimiter : Place → Option Delimiter
place_delimiter (Stands m) = Some (delimiter_of m.token)
place_delimiter Ends = None

-- the names that the token of a place hides
abbrev pub place_hides : Place → Names
place_hides (Stands m) = m.hides
place_hides Ends = no_names

-- how many arguments a call has, the names that its closing parenthesis hides, and the stack with the ends of the arguments
pub record Opened : Type 0 where
  pub count : ℕ
  pub close : Names
  pub places : List Place

-- the same with a token that stays on top
abbrev pub stands_too : Marked → Option Opened → Option Opened
stands_too m None = None
stands_too m (Some o) = Some (record { count = o.count; close = o.close; places = Stands m ∷ o.places })

-- the same with the end of a list on top
abbrev pub ends_too : Option Opened → Option Opened
ends_too None = None
ends_too (Some o) = Some (record { count = o.count + 1; close = o.close; places = Ends ∷ o.places })

-- the stack after the `(` of a call, where each comma that parts two arguments and the parenthesis that closes become ends of lists
abbrev pub opened : List Place → ℕ → ℕ → Option Opened
opened [] commas depth = None
opened (Ends ∷ ps) commas depth = None
opened (Stands m ∷ ps) commas depth =
    if ends_call (delimiter_of m.token) depth then Some (record { count = 1; close = m.hides; places = Ends ∷ ps })
    else (if parts (delimiter_of m.token) commas depth then ends_too (opened ps (commas - 1) depth)
    else stands_too m (opened ps commas (depth_behind (delimiter_of m.token) depth)))

-- the same after places that were passed, with so many commas among them
abbrev pub passed : ℕ → List Place → Option Opened → Option Opened
passed count before None = None
passed count before (Some o) = Some (record { count = count + o.count; close = o.close; places = before ++ o.places })

-- what the code's cut of this stack is
abbrev pub IsOpened : Option Cut → List Slot → Option Opened → Type 0
IsOpened None new o = o ≡ None
IsOpened (Some cut) new o = o ≡ Some (record { count = cut.count; close = hidden_names cut.hides; places = places new })

-- the stack from its top down
abbrev pub turned : List Slot → List Slot
turned slots = backwards (λ s. s) slots

-- how many slots after this one are said to go up to the parenthesis that closes it; 0 where nothing is said
abbrev pub leap : Slot → ℕ
leap (slot.Word h j) = j
leap slot.End = 0

-- whether none is left
abbrev pub is_none_left : ℕ → Bool
is_none_left zero = true
is_none_left (suc k) = false

-- whether the parenthesis that closes this depth is the last of so many places
abbrev pub closes_at : ℕ → List Place → ℕ → Bool
closes_at zero ps depth = false
closes_at (suc k) [] depth = false
closes_at (suc k) (Ends ∷ ps) depth = false
closes_at (suc k) (Stands m ∷ ps) depth =
    if ends_call (delimiter_of m.token) depth then is_none_left k else closes_at k ps (depth_behind (delimiter_of m.token) depth)

-- there are so many slots, and what is said in them is of these slots alone
abbrev pub StaysWithin : ℕ → List Slot → Type 0
StaysWithin zero ss = Unit {0}
StaysWithin (suc k) [] = ⊥
StaysWithin (suc k) (s ∷ ss) = (leap s ≤ k) × StaysWithin k ss

-- what a slot says of those after it is nothing, or that it is a parenthesis which is closed there
abbrev pub IsRight : Slot → List Slot → Type 0
IsRight s ss = (leap s ≡ 0) ⊎ ((place_delimiter (place_of s) ≡ Some Opens) × (closes_at (leap s) (map place_of ss) 0 ≡ true) × StaysWithin (leap s) ss)

-- what the slots say from the top down is right
abbrev pub AreRight : List Slot → Type 0
AreRight [] = Unit {0}
AreRight (s ∷ ss) = IsRight s ss × AreRight ss

-- what the slots of a stack say is right
abbrev pub AllRight : List Slot → Type 0
AllRight slots = AreRight (turned slots)

-- so many slots go up to the parenthesis that closes one before them, or nothing is said
abbrev pub IsClosing : ℕ → List Slot → Type 0
IsClosing n ss = (n ≡ 0) ⊎ ((closes_at n (map place_of ss) 0 ≡ true) × StaysWithin n ss)
