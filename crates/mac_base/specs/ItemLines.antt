-- What an event says as an item, and the line that is printed of an item.
use Rattle.std.specs.Prelude.{ℕ, List, [], ◌++◌, codes, decimal, slice_get, unwrap_or}
use Rattle.std.specs.List.{flat_map}
use Rattle.mac_base.specs.Items.{Item, Define, Undef, Start, End}
use Rattle.mac_base.specs.declared.events.Event.{Event}
use Rattle.mac_base.specs.declared.events.Event.TheVariants.{Define as HeldDefine, Undef as HeldUndef, Start as HeldStart, End as HeldEnd}

-- an event, in which a file is named by the number of its path
abbrev pub item_of : Event → Item ℕ
item_of (HeldDefine line text) = Define line text
item_of (HeldUndef line name) = Undef line name
item_of (HeldStart line file) = Start line file
item_of HeldEnd = End

-- the path of a number, which is empty where there is none
abbrev pub path_in : List (List ℕ) → ℕ → List ℕ
path_in paths number = unwrap_or (slice_get paths number) []

-- the line of an item
abbrev pub item_line : Item (List ℕ) → List ℕ
item_line (Define line text) = codes "define" ++ codes " " ++ decimal line ++ codes " " ++ text ++ codes "\n"
item_line (Undef line name) = codes "undef" ++ codes " " ++ decimal line ++ codes " " ++ name ++ codes "\n"
item_line (Start line path) = codes "start" ++ codes " " ++ decimal line ++ codes " " ++ path ++ codes "\n"
item_line End = codes "end\n"

-- the lines of items
abbrev pub item_lines : List (Item (List ℕ)) → List ℕ
item_lines items = flat_map item_line items
