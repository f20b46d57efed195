-- How the table changes that the walk of a translation unit sees: a `#define` sets one entry, an `#undef` removes one, and nothing else changes it (C17 6.10.3, 6.10.3.5; DWARF 5, 6.3.2).
use Rattle.std.specs.Prelude.{◌≡◌, ℕ, List, [], ◌∷◌, ◌++◌, map, take, Option, None, Some, Result, Ok}
use Rattle.std.specs.FinMap as finite
use Rattle.mac_base.specs.Items.{Item, Define, Undef, Start, End}
use Rattle.mac_base.specs.Names.{name_of}
use Rattle.pp_tokens.specs.declared.line.Line.{Line}
use Rattle.macro_table.specs.Definitions.{DefValue, def_of}
use Rattle.macro_table.specs.Tables.{TableOf}
use Rattle.macro_table.specs.FileTable.{table_of, open_behind}
use Rattle.macro_table.specs.Texts.{text_of, def_of_text}
use Rattle.pp_directives.specs.declared.directive.Directive.{Directive}
use Rattle.pp_directives.specs.declared.directive.Directive.TheVariants.{Define as DefineDirective, Undef as UndefDirective, Include}
use Rattle.pp_directives.specs.Directives.{directive_of}
use Rattle.pp_unit.specs.declared.open_file.OpenFile.{OpenFile}
use Rattle.pp_unit.specs.declared.request.Command.{Command}
use Rattle.pp_unit.specs.declared.request.Command.TheVariants.{Define as DefineWord, Undef as UndefWord}
use Rattle.pp_unit.specs.declared.request.UnitSpec.{UnitSpec}
use Rattle.pp_unit.specs.Seen.{Seen, Mark, Marked, table, started}
use Rattle.pp_unit.specs.Definitions.{define_text, commanded, all_commanded, predefined}
use Rattle.pp_unit.specs.LineConditions.{operands}
use Rattle.pp_unit.specs.Files.{Stores, Walks, ways, ended}
use Rattle.pp_unit.specs.Walk.{Walk}

-- the files that are open after these events, where these are open before: the outermost first, each with the line of its inclusion
abbrev pub files_open : List (ℕ × ℕ) → List (Item ℕ) → List (ℕ × ℕ)
files_open files [] = files
files_open files (item ∷ items) = files_open (open_behind files item) items

-- a table with one entry set: that of the name which the text defines, with the text, and its place after these events
abbrev pub with_definition : TableOf ℕ → List (Item ℕ) → ℕ → List ℕ → TableOf ℕ
with_definition entries items line text = finite.insert entries (name_of text) (record { text = text; files = files_open [] items; line = line })

-- ChangesTable directive here before after: by the directive that the line is, what it does to the table. What an `#include` does, the lines of the included file do.
abbrev pub ChangesTable : Directive → Line → Seen → Seen → Type 0
ChangesTable DefineDirective here before after = (def : DefValue) × (def_of (operands here) ≡ Ok def) × (table after ≡ with_definition (table before) before.items here.number (text_of def))
ChangesTable (UndefDirective name) here before after = (undefined : List ℕ) × (name ≡ Some undefined) × (table after ≡ finite.remove (table before) undefined)
ChangesTable Include here before after = Unit {0}
ChangesTable _ here before after = table after ≡ table before

-- the same of a word of the command
abbrev pub WordChangesTable : Command → Seen → Seen → Type 0
WordChangesTable (DefineWord word) before after = (def : DefValue) × (def_of_text (define_text word) ≡ Ok def) × (table after ≡ with_definition (table before) before.items 0 (text_of def))
WordChangesTable (UndefWord word) before after = table after ≡ finite.remove (table before) word

-- The table changes as the directives and the words say.
pub record TableFollowsDirectives : Type 0 where
  -- a line of a taken group that is no conditional directive does what its directive does
  pub lines : (stores : Stores) (left : ℕ) (open_file : OpenFile) (here : Line) (m next : Marked) →
      (ways stores left (Walks stores left) open_file).Does here m (Ok next) → ChangesTable (directive_of here.tokens) here m.seen next.seen
  -- a conditional directive, and a line of a group that is not taken, changes nothing
  pub passed : (stores : Stores) (left : ℕ) (open_file : OpenFile) (here : Line) (m : Marked) → table ((ways stores left (Walks stores left) open_file).passes here m).seen ≡ table m.seen
  -- the start of a file changes nothing
  pub starts : (line : ℕ) (path : List ℕ) (before after : Seen) → started before line path ≡ Ok after → table after ≡ table before
  -- nor does its end
  pub ends : (open_file : OpenFile) (lines : List Line) (m next : Marked) → ended open_file lines m ≡ Ok next → table next.seen ≡ table m.seen
  -- a word of the command does what a directive of its kind does
  pub words : (command : Command) (before after : Seen) → commanded before command ≡ Ok after → WordChangesTable command before after

-- the events before a mark
abbrev pub events_before : Marked → Mark → List (Item ℕ)
events_before m mark = take mark.events m.seen.items

-- the table that is seen at a mark
abbrev pub table_seen : Marked → Mark → TableOf ℕ
table_seen m mark = table_of (events_before m mark)

-- exactly this event is between two marks
abbrev pub IsBetween : Marked → Item ℕ → Mark → Mark → Type 0
IsBetween m item here next = events_before m next ≡ events_before m here ++ item ∷ []

-- NextTable m here next: what comes between a mark and the next one, and what that does to the table
pub data NextTable (m : Marked) (here next : Mark) : Type 0 where
  -- a line without an event
  Unchanged : next.chain ≡ here.chain → events_before m next ≡ events_before m here → table_seen m next ≡ table_seen m here → NextTable m here next
  -- a definition in this line sets one entry; the files that are open are those of the mark's chain, and the primary file
  Sets : (line : ℕ) (text : List ℕ) → here.line ≡ Some line → next.chain ≡ here.chain → IsBetween m (Define line text) here next →
      map (λ (file : ℕ × ℕ). file.1) (files_open [] (events_before m here)) ≡ 0 ∷ here.chain →
      table_seen m next ≡ with_definition (table_seen m here) (events_before m here) line text → NextTable m here next
  -- an `#undef` in this line removes one entry
  Removes : (line : ℕ) (name : List ℕ) → here.line ≡ Some line → next.chain ≡ here.chain → IsBetween m (Undef line name) here next →
      table_seen m next ≡ finite.remove (table_seen m here) name → NextTable m here next
  -- a file begins that is included in this line
  Begins : (line path : ℕ) → here.line ≡ Some line → next.chain ≡ here.chain ++ line ∷ [] → IsBetween m (Start line path) here next →
      table_seen m next ≡ table_seen m here → NextTable m here next
  -- a file ends that is included in this line, and the file around it goes on
  Ends : (line : ℕ) → here.line ≡ None → here.chain ≡ next.chain ++ line ∷ [] → IsBetween m End here next →
      table_seen m next ≡ table_seen m here → NextTable m here next

-- the first mark, if there is one
abbrev pub OfFirst : (Mark → Type 0) → List Mark → Type 0
OfFirst P [] = Unit {0}
OfFirst P (first ∷ marks) = P first

-- each mark and the next one
abbrev pub AllNext : (Mark → Mark → Type 0) → List Mark → Type 0
AllNext P [] = Unit {0}
AllNext P (here ∷ marks) = OfFirst (P here) marks × AllNext P marks

-- From each mark of a translation unit that is walked without a fault to the next one, the table changes by one event at most, and exactly so.
abbrev pub MarksChangeTables : Type 0
MarksChangeTables = (stores : Stores) (spec : UnitSpec) (m : Marked) → Walk stores spec (Ok m) → AllNext (NextTable m) m.marks

-- the mark is one of the primary file, and has the table that the words of the command leave
pub record HasCommandTable (spec : UnitSpec) (m : Marked) (first : Mark) : Type 0 where
  pub before : Seen
  pub words : all_commanded predefined spec.commands ≡ Ok before
  pub primary : first.chain ≡ []
  pub same : table_seen m first ≡ table before

-- The first mark has the table that the words of the command leave.
abbrev pub FirstMarkHasCommandTable : Type 0
FirstMarkHasCommandTable = (stores : Stores) (spec : UnitSpec) (m : Marked) → Walk stores spec (Ok m) → OfFirst (HasCommandTable spec m) m.marks
