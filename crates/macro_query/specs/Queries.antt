-- What there is to be said to each query about the bytes of a file: a report or the first fault.
use Rattle.std.specs.Prelude.{◌≡◌, ℕ, nat_lt, List, length, Option, Some, None, Result, Ok, Err}
use Rattle.std.specs.Bool.{MatchBool}
use Rattle.mac_base.specs.SectionBytes.{SectionBytes}
use Rattle.section_views.specs.declared.fault.ElfFault.{ElfFault}
use Rattle.section_views.specs.Faults.{first_fault}
use Rattle.section_views.specs.View.{view_of}
use Rattle.unit_header.specs.declared.fault.UnitKind.TheVariants.{ImportRange}
use Rattle.macro_expand.specs.Rules.{ExpandsTo, ExpandsOnceTo}
use Rattle.macro_query.specs.declared.fault.QueryFault.{QueryFault}
use Rattle.macro_query.specs.declared.fault.QueryFault.TheVariants.{Elf, Info, Line, Unit as BadUnit, NoSuchUnit, Position as BadPosition, Text, Expand, ReportTooLong, NoMemory as RanOut}
use Rattle.position_table.specs.declared.position.Position.{Position}
use Rattle.macro_query.specs.Unit.{IsReportOf, IsFirstFault}
use Rattle.macro_query.specs.Roots.{RootsSay, DumpOf}
use Rattle.macro_query.specs.Scopes.{PositionLeads}
use Rattle.position_table.specs.Scopes.{Scope}
use Rattle.macro_query.specs.Tables.{info_text, list_text}
use Rattle.macro_query.specs.Expansions.{TextSays}

-- of the unit at an offset of a section: the report, or its first fault
abbrev pub UnitSays : Option (List ℕ) → List ℕ → ℕ → Result (List ℕ) QueryFault → Type 0
UnitSays strs section offset (Ok text) = IsReportOf strs section offset text
UnitSays strs section offset (Err (BadUnit fault)) = IsFirstFault strs section offset fault
UnitSays strs section offset (Err (Elf fault)) = ⊥
UnitSays strs section offset (Err (Info fault)) = ⊥
UnitSays strs section offset (Err (Line fault)) = ⊥
UnitSays strs section offset (Err NoSuchUnit) = ⊥
UnitSays strs section offset (Err (BadPosition fault)) = ⊥
UnitSays strs section offset (Err (Text fault)) = ⊥
UnitSays strs section offset (Err (Expand fault)) = ⊥
UnitSays strs section offset (Err ReportTooLong) = ⊥
UnitSays strs section offset (Err RanOut) = ⊥

-- `raw`: of the unit at the start of these bytes
abbrev pub RawSays : List ℕ → Result (List ℕ) QueryFault → Type 0
RawSays bytes said = UnitSays None bytes 0 said

-- what sections say, or the fault of the file's headers and sections
abbrev pub ByElf : {A : Type 0} → Option ElfFault → (Result A QueryFault → Type 0) → Result A QueryFault → Type 0
ByElf (Some fault) Says said = said ≡ Err (Elf fault)
ByElf None Says said = Says said

-- the same of the bytes of an ELF file
abbrev pub FileSays : {A : Type 0} → (SectionBytes → Result A QueryFault → Type 0) → List ℕ → Result A QueryFault → Type 0
FileSays Says file said = ByElf (first_fault file) (Says (view_of file)) said

-- An offset that is not inside the section of macro units names no unit.
abbrev pub SectionSays : ℕ → SectionBytes → Result (List ℕ) QueryFault → Type 0
SectionSays offset s said = MatchBool (nat_lt offset (length s.macros)) (UnitSays (Some s.strs) s.macros offset said) (said ≡ Err (BadUnit (record { at = offset; what = ImportRange })))

-- `unit`: of the unit at this offset of the file's section of macro units
abbrev pub UnitAtSays : ℕ → List ℕ → Result (List ℕ) QueryFault → Type 0
UnitAtSays offset file said = FileSays (SectionSays offset) file said

-- `dump`: the lines of all roots
abbrev pub DumpSays : List ℕ → Result (List ℕ) QueryFault → Type 0
DumpSays file said = FileSays (RootsSay (λ s. DumpOf s 0)) file said

-- where a position in a file leads
abbrev pub LeadsTo : Position → List ℕ → Result Scope QueryFault → Type 0
LeadsTo position file found = FileSays (RootsSay (PositionLeads position)) file found

-- what is to be said in a scope, or why there is none
abbrev pub ByScope : Result Scope QueryFault → (Scope → Result (List ℕ) QueryFault → Type 0) → Result (List ℕ) QueryFault → Type 0
ByScope (Ok scope) Says said = Says scope said
ByScope (Err fault) Says said = said ≡ Err fault

-- the same at a position in a file
abbrev pub ScopeSays : (Scope → Result (List ℕ) QueryFault → Type 0) → Position → List ℕ → Result (List ℕ) QueryFault → Type 0
ScopeSays Says position file said = (found : Result Scope QueryFault) × LeadsTo position file found × ByScope found Says said

-- `info`: the definition of a name there
abbrev pub InfoSays : Position → List ℕ → List ℕ → Result (List ℕ) QueryFault → Type 0
InfoSays position name file said = ScopeSays (λ scope text. text ≡ Ok (info_text name scope.table)) position file said

-- `list`: all definitions there
abbrev pub ListSays : Position → List ℕ → Result (List ℕ) QueryFault → Type 0
ListSays position file said = ScopeSays (λ scope text. text ≡ Ok (list_text scope.table)) position file said

-- `expand`: the expansion of a text there
abbrev pub ExpandSays : Position → List ℕ → List ℕ → Result (List ℕ) QueryFault → Type 0
ExpandSays position text file said = ScopeSays (TextSays ExpandsTo text) position file said

-- `once`: a single level of it
abbrev pub OnceSays : Position → List ℕ → List ℕ → Result (List ℕ) QueryFault → Type 0
OnceSays position text file said = ScopeSays (TextSays ExpandsOnceTo text) position file said
