-- The directories and files of a line header (DWARF 5, 6.2.4, items 16, 17, 20 and 21, and 6.2.4.1).
use Rattle.std.specs.Prelude.{ℕ, ◌==◌, ◌||◌, nat_lt, if◌then◌else◌, List, [], ◌∷◌, Option, Some, None, unwrap_or, Result, Ok, Err}
use Rattle.mac_base.specs.Input.{Input, ◌>>=◌}
use Rattle.mac_base.specs.SectionBytes.{SectionBytes}
use Rattle.string_sections.specs.Strings.{string_of}
use Rattle.mac_base.specs.declared.form.Form.{Form}
use Rattle.mac_base.specs.declared.form.Form.TheVariants.{LineStrp}
use Rattle.mac_base.specs.Forms.{layout_by_form}
use Rattle.mac_base.specs.Values.{Value, Number, Text, value_at}
use Rattle.line_names.specs.declared.fault.LineFault.{LineFault}
use Rattle.line_names.specs.declared.fault.LineKind.TheVariants.{StrRange, DirIndex}
use Rattle.line_names.specs.declared.format.Role.{Role}
use Rattle.line_names.specs.declared.format.Role.TheVariants.{Path, Directory, Other}
use Rattle.line_names.specs.declared.format.Content.{Content}
use Rattle.line_names.specs.declared.entry.Name.{Name}
use Rattle.line_names.specs.declared.entry.Name.TheVariants.{Here, At}
use Rattle.line_names.specs.declared.entry.Entry.{Entry as HeldEntry}
use Rattle.line_names.specs.declared.entry.Measures.{Measures}
use Rattle.line_names.specs.declared.sections.LineTables.{LineTables}
use Rattle.line_names.specs.Faults.{field, fault_at}

-- the sections of line tables, as lists of bytes
pub record Tables : Type 0 where
  pub lines : List ℕ
  pub strs : List ℕ
  pub line_strs : List ℕ

-- the sections that held ones are
abbrev pub tables_of : LineTables → Tables
tables_of t = record { lines = t.lines.now; strs = t.strs; line_strs = t.line_strs }

-- those of a file
abbrev pub tables_in : SectionBytes → Tables
tables_in s = record { lines = s.lines; strs = s.strs; line_strs = s.line_strs }

-- a directory or a file: its path, and the index of its directory
pub record Entry : Type 0 where
  pub path : List ℕ
  pub directory : ℕ

-- a path without where it lies in memory
abbrev pub name_of : Name → List ℕ
name_of (Here text) = text.now
name_of (At section off) = unwrap_or (string_of section.now off) []

-- the entry that a held one is
abbrev pub entry_of : HeldEntry → Entry
entry_of e = record { path = name_of e.path; directory = e.directory }

-- an entry of which nothing was read
abbrev pub no_entry : Entry
no_entry = record { path = []; directory = 0 }

-- the section into which an offset in this form goes
abbrev pub strings_of : Tables → Form → List ℕ
strings_of t LineStrp = t.line_strs
strings_of t _ = t.strs

-- the string that was looked up
abbrev pub found_at : ℕ → Option (List ℕ) → Result (List ℕ) LineFault
found_at at (Some text) = Ok text
found_at at None = Err (fault_at at StrRange)

-- the path that a value says, itself or by its offset
abbrev pub path_by : List ℕ → ℕ → Value → Result (List ℕ) LineFault
path_by section at (Text text) = Ok text
path_by section at (Number off) = found_at at (string_of section off)
path_by section at _ = Ok []

-- the number that a value is
abbrev pub number_in : Value → ℕ
number_in (Number n) = n
number_in _ = 0

-- the index of a file's directory: 0, or one below their number. That of a directory is not used.
abbrev pub index_by : Option ℕ → ℕ → ℕ → Result ℕ LineFault
index_by None at index = Ok index
index_by (Some directories) at index = if index == 0 || nat_lt index directories then Ok index else Err (fault_at at DirIndex)

-- an entry with one more content, which is for this
abbrev pub with_value : Tables → Measures → Role → Form → ℕ → Value → Entry → Result Entry LineFault
with_value t m Path form at value entry = path_by (strings_of t form) at value >>= λ path. Ok (record entry { path = path })
with_value t m Directory form at value entry = index_by m.directories at (number_in value) >>= λ index. Ok (record entry { directory = index })
with_value t m Other form at value entry = Ok entry

-- the next content of an entry: its value is read, and then looked up
abbrev pub content_read : Tables → Measures → Content → Entry → Input → Result (Entry × Input) LineFault
content_read t m content entry p = do
  value ← field (value_at m.sizes (layout_by_form content.form) p)
  next ← with_value t m content.role content.form p.at value.0 entry
  Ok (next, value.1)

-- an entry, content by content
abbrev pub entry_at : Tables → Measures → List Content → Entry → Input → Result (Entry × Input) LineFault
entry_at t m [] entry p = Ok (entry, p)
entry_at t m (content ∷ contents) entry p = content_read t m content entry p >>= λ next. entry_at t m contents next.0 next.1
