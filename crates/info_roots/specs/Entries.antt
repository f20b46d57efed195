-- What the first entry of a unit says of its macro information (DWARF 5, 3.1.1 and 7.5.4 to 7.5.6).
use Rattle.std.specs.Prelude.{ℕ, ◌==◌, Bool, true, false, if◌then◌else◌, List, [], ◌∷◌, Option, Some, None, is_none, Result, Ok, Err}
use Rattle.std.specs.Option.{option_map}
use Rattle.mac_base.specs.Input.{Input, ◌>>=◌}
use Rattle.mac_base.specs.Fields.{uleb_at}
use Rattle.mac_base.specs.declared.form.Form.{Form}
use Rattle.mac_base.specs.declared.form.Form.TheVariants.{String, Strp, LineStrp, Strx, Strx1, Strx2, Strx3, Strx4, SecOffset, ImplicitConst}
use Rattle.mac_base.specs.declared.value.Sizes.{Sizes}
use Rattle.mac_base.specs.Forms.{form_by_code, layout_by_form}
use Rattle.mac_base.specs.Values.{Value, Number, Text as Characters, value_at}
use Rattle.info_roots.specs.declared.fault.InfoFault.{InfoFault}
use Rattle.info_roots.specs.declared.fault.InfoKind.TheVariants.{Form as UnfitForm}
use Rattle.info_roots.specs.declared.abbreviation.Attribute.{Attribute}
use Rattle.info_roots.specs.declared.entry.Role.{Role}
use Rattle.info_roots.specs.declared.entry.Role.TheVariants.{Name, Line, Dir, StrBase, Macros, Other}
use Rattle.info_roots.specs.declared.entry.Text.{Text as HeldText}
use Rattle.info_roots.specs.declared.entry.Text.TheVariants.{Here as HeldHere, Str as HeldStr, LineStr as HeldLineStr, Index as HeldIndex}
use Rattle.info_roots.specs.declared.entry.Entry.{Entry as HeldEntry}
use Rattle.info_roots.specs.Dwarf.{DW_AT_name, DW_AT_stmt_list, DW_AT_comp_dir, DW_AT_str_offsets_base, DW_AT_macros, DW_FORM_indirect}
use Rattle.info_roots.specs.Faults.{field, fault_at}

-- a string as an attribute says it: itself, an offset into .debug_str or .debug_line_str, or an index
pub data Text : Type 0 where
  Here : List ℕ → Text
  Str : ℕ → Text
  LineStr : ℕ → Text
  Index : ℕ → Text

-- a string without where it lies in memory
abbrev pub text_of : HeldText → Text
text_of (HeldHere text) = Here text.now
text_of (HeldStr off) = Str off
text_of (HeldLineStr off) = LineStr off
text_of (HeldIndex index) = Index index

-- the attributes that are read, each where the entry has it, and whether the directory comes before the name
pub record Entry : Type 0 where
  pub name : Option Text
  pub dir : Option Text
  pub line : Option ℕ
  pub str_base : Option ℕ
  pub macros : Option ℕ
  pub dir_first : Bool

-- the entry of a held one
abbrev pub entry_of : HeldEntry → Entry
entry_of e = record { name = option_map text_of e.name; dir = option_map text_of e.dir; line = e.line; str_base = e.str_base; macros = e.macros; dir_first = e.dir_first }

-- an entry of which nothing was read
abbrev pub no_entry : Entry
no_entry = record { name = None; dir = None; line = None; str_base = None; macros = None; dir_first = false }

-- of two equal names the first counts, and the second is like another name
abbrev pub unless_there : {A : Type 0} → Option A → Role → Role
unless_there before role = if is_none before then role else Other

-- what an attribute of this name is read for (table 7.5)
abbrev pub role_by_name : Entry → ℕ → Role
role_by_name e name =
    if name == DW_AT_name then unless_there e.name Name
    else if name == DW_AT_stmt_list then unless_there e.line Line
    else if name == DW_AT_comp_dir then unless_there e.dir Dir
    else if name == DW_AT_str_offsets_base then unless_there e.str_base StrBase
    else if name == DW_AT_macros then unless_there e.macros Macros
    else Other

-- the forms of a string
abbrev pub form_names : Form → Bool
form_names String = true
form_names Strp = true
form_names LineStrp = true
form_names Strx = true
form_names Strx1 = true
form_names Strx2 = true
form_names Strx3 = true
form_names Strx4 = true
form_names _ = false

-- the form of an offset
abbrev pub form_offsets : Form → Bool
form_offsets SecOffset = true
form_offsets _ = false

-- whether an attribute of this meaning can have the form: names and directories have strings, the others offsets
abbrev pub form_fits : Role → Form → Bool
form_fits Name form = form_names form
form_fits Dir form = form_names form
form_fits _ form = form_offsets form

-- the form that is named before an indirect value; DW_FORM_implicit_const is none
abbrev pub not_implicit : Option Form → Option Form
not_implicit None = None
not_implicit (Some ImplicitConst) = None
not_implicit (Some form) = Some form

-- the form that this code names after DW_FORM_indirect
abbrev pub inner_by_code : ℕ → Option Form
inner_by_code code = not_implicit (form_by_code code)

-- where the next value begins after one in a known form; at is the place of an unknown one
abbrev pub passed_in : Sizes → ℕ → Option Form → Input → Result Input InfoFault
passed_in sizes at None p = Err (fault_at at UnfitForm)
passed_in sizes at (Some form) p = field (value_at sizes (layout_by_form form) p) >>= λ value. Ok value.1

-- the same of any value: one in DW_FORM_indirect begins with its form
abbrev pub passed_at : Sizes → ℕ → Input → Result Input InfoFault
passed_at sizes code p =
    if code == DW_FORM_indirect then (field (uleb_at p) >>= λ inner. passed_in sizes p.at (inner_by_code inner.0) inner.1)
    else passed_in sizes p.at (form_by_code code) p

-- the number that a value is
abbrev pub number_in : Value → ℕ
number_in (Number n) = n
number_in _ = 0

-- a number in a form of strings
abbrev pub text_in : Form → ℕ → Text
text_in Strp n = Str n
text_in LineStrp n = LineStr n
text_in _ n = Index n

-- the string that a value in this form is, or where it is found
abbrev pub text_by : Form → Value → Text
text_by form (Characters text) = Here text
text_by form (Number n) = text_in form n
text_by form _ = Here []

-- an entry with one more value, which is for this
abbrev pub with_role : Role → Form → Value → Entry → Entry
with_role Name form value e = record e { name = Some (text_by form value) }
with_role Dir form value e = record e { dir = Some (text_by form value); dir_first = is_none e.name }
with_role Line form value e = record e { line = Some (number_in value) }
with_role StrBase form value e = record e { str_base = Some (number_in value) }
with_role Macros form value e = record e { macros = Some (number_in value) }
with_role Other form value e = e

-- the value of an attribute that is read, in a form that it can have
abbrev pub fitting_in : Sizes → Role → Form → Entry → Input → Result (Entry × Input) InfoFault
fitting_in sizes role form e p =
    if form_fits role form then (field (value_at sizes (layout_by_form form) p) >>= λ value. Ok (with_role role form value.0 e, value.1))
    else Err (fault_at p.at UnfitForm)

-- the entry with the value at this place, where the form fits
abbrev pub fitting : Sizes → Role → Option Form → Entry → Input → Result (Entry × Input) InfoFault
fitting sizes role None e p = Err (fault_at p.at UnfitForm)
fitting sizes role (Some form) e p = fitting_in sizes role form e p

-- an attribute that is not read is passed over
abbrev pub by_role : Sizes → ℕ → Role → Entry → Input → Result (Entry × Input) InfoFault
by_role sizes code Other e p = passed_at sizes code p >>= λ next. Ok (e, next)
by_role sizes code role e p = fitting sizes role (form_by_code code) e p

-- the next attribute of an entry
abbrev pub attribute_read : Sizes → Attribute → Entry → Input → Result (Entry × Input) InfoFault
attribute_read sizes a e p = by_role sizes a.form (role_by_name e a.name) e p

-- an entry, attribute by attribute
abbrev pub entry_at : Sizes → List Attribute → Entry → Input → Result (Entry × Input) InfoFault
entry_at sizes [] e p = Ok (e, p)
entry_at sizes (a ∷ attributes) e p = attribute_read sizes a e p >>= λ next. entry_at sizes attributes next.0 next.1
