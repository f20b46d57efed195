-- The format of the entries of a line header (DWARF 5, 6.2.4, items 14, 15, 18 and 19, and 6.2.4.1).
use Rattle.std.specs.Prelude.{ℕ, zero, suc, ◌==◌, Bool, true, false, if◌then◌else◌, List, [], ◌∷◌, ◌++◌, Option, Some, None, Result, Ok, Err}
use Rattle.std.specs.List.{list_any}
use Rattle.mac_base.specs.Input.{Input, ◌>>=◌}
use Rattle.mac_base.specs.Fields.{number_at, uleb_at}
use Rattle.mac_base.specs.declared.form.Form.{Form}
use Rattle.mac_base.specs.declared.form.Form.TheVariants.{String, Strp, LineStrp, Udata, Data1, Data2, Data4, Data8, Data16, Block}
use Rattle.mac_base.specs.Forms.{form_by_code}
use Rattle.line_names.specs.declared.fault.LineFault.{LineFault}
use Rattle.line_names.specs.declared.fault.LineKind.TheVariants.{Form as UnfitForm}
use Rattle.line_names.specs.declared.format.Role.{Role}
use Rattle.line_names.specs.declared.format.Role.TheVariants.{Path, Directory, Other}
use Rattle.line_names.specs.declared.format.Content.{Content}
use Rattle.line_names.specs.Faults.{field, fault_at}

-- whether two meanings are one
abbrev pub is_role : Role → Role → Bool
is_role Path Path = true
is_role Directory Directory = true
is_role Other Other = true
is_role _ _ = false

-- whether one of the contents is for this
abbrev pub has_role : Role → List Content → Bool
has_role role contents = list_any (λ content. is_role content.role role) contents

-- of two equal types the first counts, and the second is like another type
abbrev pub first_of : List Content → Role → Role
first_of contents role = if has_role role contents then Other else role

-- DW_LNCT_path is 1, DW_LNCT_directory_index is 2 (7.22)
abbrev pub role_by_code : List Content → ℕ → Role
role_by_code contents code = if code == 1 then first_of contents Path else if code == 2 then first_of contents Directory else Other

-- the forms of a path
abbrev pub form_names : Form → Bool
form_names String = true
form_names Strp = true
form_names LineStrp = true
form_names _ = false

-- the forms of a directory index
abbrev pub form_counts : Form → Bool
form_counts Data1 = true
form_counts Data2 = true
form_counts Udata = true
form_counts _ = false

-- the forms of other contents
abbrev pub form_passes : Form → Bool
form_passes String = true
form_passes Strp = true
form_passes LineStrp = true
form_passes Udata = true
form_passes Data1 = true
form_passes Data2 = true
form_passes Data4 = true
form_passes Data8 = true
form_passes Data16 = true
form_passes Block = true
form_passes _ = false

-- whether a content of this meaning can have the form
abbrev pub form_fits : Role → Form → Bool
form_fits Path form = form_names form
form_fits Directory form = form_counts form
form_fits Other form = form_passes form

-- a content in a form that it can have, or the place of the form
abbrev pub fitting : Role → ℕ → Input → Option Form → Result (Content × Input) LineFault
fitting role at p None = Err (fault_at at UnfitForm)
fitting role at p (Some form) = if form_fits role form then Ok (record { role = role; form = form }, p) else Err (fault_at at UnfitForm)

-- the next content after those that were read: its type and its form
unfoldable pub content_at : List Content → Input → Result (Content × Input) LineFault
content_at contents p = do
  code ← field (uleb_at p)
  form ← field (uleb_at code.1)
  fitting (role_by_code contents code.0) code.1.at form.1 (form_by_code form.0)

-- so many contents, after those that were read
abbrev pub contents_at : ℕ → List Content → Input → Result (List Content × Input) LineFault
contents_at zero contents p = Ok (contents, p)
contents_at (suc n) contents p = content_at contents p >>= λ content. contents_at n (contents ++ content.0 ∷ []) content.1

-- the number of contents, and the contents
abbrev pub format_at : Input → Result (List Content × Input) LineFault
format_at p = field (number_at 1 p) >>= λ count. contents_at count.0 [] count.1
