-- The conditions that are open after lines, the innermost first, and how each further line changes them (C17 6.10.1).
use Rattle.std.specs.Prelude.{ℕ, Bool, true, false, not, ◌&&◌, if◌then◌else◌, List, [], ◌∷◌, Option, Some, None, Result, Ok, Err}
use Rattle.std.specs.Option.{option_map}
use Rattle.mac_base.specs.Input.{◌>>=◌}
use Rattle.pp_directives.specs.declared.fault.StructFault.{StructFault}
use Rattle.pp_directives.specs.declared.fault.StructFault.TheVariants.{StrayElse, StrayElif, StrayEndif, ElseAfterElse, ElifAfterElse, OpenIf}
use Rattle.pp_directives.specs.declared.conditional.open_section.OpenSection.{OpenSection}
use Rattle.pp_directives.specs.Groups.{LineRole, OtherLine, IfLine, ElifLine, ElseLine, EndifLine, Spot, CondLine}
use Rattle.pp_directives.specs.Reached.{Sight, sight}

-- the innermost section
abbrev pub first_open : List OpenSection → Option OpenSection
first_open [] = None
first_open (innermost ∷ others) = Some innermost

-- this section in the place of the innermost
abbrev pub with_first : OpenSection → List OpenSection → List OpenSection
with_first o [] = []
with_first o (innermost ∷ others) = o ∷ others

-- whether the group that is open is taken; where no condition is open it is the whole file
abbrev pub is_active : List OpenSection → Bool
is_active [] = true
is_active (innermost ∷ others) = innermost.active

-- the line of the innermost condition that is open
abbrev pub open_line : List OpenSection → Option ℕ
open_line [] = None
open_line (innermost ∷ others) = Some innermost.line

-- whether the condition of a line of this role decides a group: of `#if` in a taken group, and of `#elif` while its section waits
abbrev pub is_due : LineRole → List OpenSection → Bool
is_due OtherLine pending = false
is_due IfLine pending = is_active pending
is_due ElifLine [] = false
is_due ElifLine (innermost ∷ others) = innermost.waiting
is_due ElseLine pending = false
is_due EndifLine pending = false

-- what `active` and `due` say before a line
abbrev pub sight_of : List OpenSection → CondLine Spot → Sight
sight_of pending here = sight (is_active pending) (is_due here.role pending)

-- the section that an `#if` on this line begins, in a group that is taken or not
abbrev pub opened : (taken : Bool) → Spot → OpenSection
opened taken spot = record { line = spot.number; active = taken && spot.answer; waiting = taken && not spot.answer; has_else = false }

-- the section after an `#elif` with this answer
abbrev pub after_elif : (answer : Bool) → OpenSection → OpenSection
after_elif answer o = record o { active = o.waiting && answer; waiting = o.waiting && not answer }

-- the section after its `#else`
abbrev pub after_else : OpenSection → OpenSection
after_else o = record o { active = o.waiting; waiting = false; has_else = true }

-- what is pending after an `#elif` with this answer
abbrev pub elif_turned : (answer : Bool) → List OpenSection → Result (List OpenSection) StructFault
elif_turned answer [] = Err StrayElif
elif_turned answer (o ∷ others) = if o.has_else then Err ElifAfterElse else Ok (after_elif answer o ∷ others)

-- what is pending after an `#else`
abbrev pub else_turned : List OpenSection → Result (List OpenSection) StructFault
else_turned [] = Err StrayElse
else_turned (o ∷ others) = if o.has_else then Err ElseAfterElse else Ok (after_else o ∷ others)

-- what is pending after an `#endif`
abbrev pub endif_turned : List OpenSection → Result (List OpenSection) StructFault
endif_turned [] = Err StrayEndif
endif_turned (o ∷ others) = Ok others

-- what is pending after a line of this role, or how it breaks the structure
abbrev pub turned_by : LineRole → Spot → List OpenSection → Result (List OpenSection) StructFault
turned_by OtherLine spot pending = Ok pending
turned_by IfLine spot pending = Ok (opened (is_active pending) spot ∷ pending)
turned_by ElifLine spot pending = elif_turned spot.answer pending
turned_by ElseLine spot pending = else_turned pending
turned_by EndifLine spot pending = endif_turned pending

-- the same of a line
abbrev pub turned : List OpenSection → CondLine Spot → Result (List OpenSection) StructFault
turned pending here = turned_by here.role here.item pending

-- what is pending after lines that are turned one after another, or the fault of the first that is rejected
abbrev pub turned_all : List OpenSection → List (CondLine Spot) → Result (List OpenSection) StructFault
turned_all pending [] = Ok pending
turned_all pending (here ∷ lines) = turned pending here >>= λ after. turned_all after lines

-- the fault of a line that is rejected, or that of the lines after it
abbrev pub fault_or : ℕ → Result (List OpenSection) StructFault → (List OpenSection → Option (ℕ × StructFault)) → Option (ℕ × StructFault)
fault_or number (Ok after) later = later after
fault_or number (Err fault) later = Some (number, fault)

-- the fault in which lines end that are turned one after another, with its line: of the first that is rejected, or of what is open after them
abbrev pub fault_after : List OpenSection → List (CondLine Spot) → Option (ℕ × StructFault)
fault_after pending [] = option_map (λ number. (number, OpenIf)) (open_line pending)
fault_after pending (here ∷ lines) = fault_or here.item.number (turned pending here) (λ after. fault_after after lines)
