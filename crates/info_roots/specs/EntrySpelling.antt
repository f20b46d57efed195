-- Which bytes spell the first entry of a unit, and the root that it says (DWARF 5, 3.1.1 and 7.5.3 to 7.5.6).
use Rattle.std.specs.Prelude.{◌≡◌, ℕ, ◌==◌, Bool, true, false, List, [], ◌∷◌, ◌++◌, find, Option, Some, None, IsTrue}
use Rattle.std.specs.Option.{option_map}
use Rattle.mac_base.specs.declared.form.Form.{Form}
use Rattle.mac_base.specs.declared.value.Sizes.{Sizes}
use Rattle.mac_base.specs.SectionBytes.{SectionBytes}
use Rattle.mac_base.specs.Forms.{form_by_code, layout_by_form}
use Rattle.mac_base.specs.Values.{Value}
use Rattle.mac_base.specs.ValueSpelling.{IsValue}
use Rattle.string_sections.specs.Strings.{string_of}
use Rattle.string_sections.specs.Offsets.{offset_of}
use Rattle.info_roots.specs.declared.abbreviation.Attribute.{Attribute}
use Rattle.info_roots.specs.declared.root.Root.{Root}
use Rattle.info_roots.specs.Dwarf.{DW_AT_name, DW_AT_stmt_list, DW_AT_comp_dir, DW_AT_str_offsets_base, DW_AT_macros, DW_FORM_indirect}
use Rattle.info_roots.specs.AbbreviationSpelling.{IsUnsigned}
use Rattle.info_roots.specs.Entries.{Text, Here, Str, LineStr, Index, form_names, form_offsets, inner_by_code, text_by, number_in}

-- an attribute of an entry with its value
pub record AttributeValue : Type 0 where
  pub attribute : Attribute
  pub value : Value

-- the bytes spell a value in a form, which has to be a known one
abbrev pub IsInForm : Sizes → Option Form → List ℕ → Value → Type 0
IsInForm sizes None bytes v = ⊥
IsInForm sizes (Some form) bytes v = IsValue sizes (layout_by_form form) bytes v

-- the same by the form's code: after DW_FORM_indirect the code of another form precedes the value
abbrev pub IsCoded : Sizes → Bool → ℕ → List ℕ → Value → Type 0
IsCoded sizes true code bytes v = (inner : ℕ) × (front back : List ℕ) × (bytes ≡ front ++ back) × IsUnsigned front inner × IsInForm sizes (inner_by_code inner) back v
IsCoded sizes false code bytes v = IsInForm sizes (form_by_code code) bytes v

-- the bytes spell the value of an attribute
abbrev pub IsAttributeValue : Sizes → List ℕ → AttributeValue → Type 0
IsAttributeValue sizes bytes v = IsCoded sizes (v.attribute.form == DW_FORM_indirect) v.attribute.form bytes v.value

-- the bytes spell the values of an entry, one after another
abbrev pub AreValues : Sizes → List ℕ → List AttributeValue → Type 0
AreValues sizes bytes [] = bytes ≡ []
AreValues sizes bytes (v ∷ values) = (front back : List ℕ) × (bytes ≡ front ++ back) × IsAttributeValue sizes front v × AreValues sizes back values

-- of equal names the first counts
abbrev pub first_named : ℕ → List AttributeValue → Option AttributeValue
first_named name values = find (λ v. v.attribute.name == name) values

-- whether a code names a form that passes the test
abbrev pub names_form : (Form → Bool) → Option Form → Bool
names_form test None = false
names_form test (Some form) = test form

-- an attribute, where the entry has it, has a form that passes the test
abbrev pub HasForm : (Form → Bool) → Option AttributeValue → Type 0
HasForm test None = Unit {0}
HasForm test (Some v) = IsTrue (names_form test (form_by_code v.attribute.form))

-- the name and the directory have forms of strings, and the three offsets have the form of an offset
pub record HaveForms (values : List AttributeValue) : Type 0 where
  pub name : HasForm form_names (first_named DW_AT_name values)
  pub dir : HasForm form_names (first_named DW_AT_comp_dir values)
  pub line : HasForm form_offsets (first_named DW_AT_stmt_list values)
  pub str_base : HasForm form_offsets (first_named DW_AT_str_offsets_base values)
  pub macros : HasForm form_offsets (first_named DW_AT_macros values)

-- the string that a value in this form is, or where it is found
abbrev pub text_in_form : Option Form → Value → Text
text_in_form None value = Here []
text_in_form (Some form) value = text_by form value

abbrev pub text_said : AttributeValue → Text
text_said v = text_in_form (form_by_code v.attribute.form) v.value

abbrev pub number_said : AttributeValue → ℕ
number_said v = number_in v.value

-- what the attribute of this name says, where the entry has one
abbrev pub text_named : ℕ → List AttributeValue → Option Text
text_named name values = option_map text_said (first_named name values)

abbrev pub number_named : ℕ → List AttributeValue → Option ℕ
number_named name values = option_map number_said (first_named name values)

-- The string at an offset of .debug_str or .debug_line_str, or at the offset that .debug_str_offsets has under an index, counted from the base (7.26).
abbrev pub IsText : SectionBytes → Bool → Option ℕ → Text → List ℕ → Type 0
IsText s wide base (Here here) text = text ≡ here
IsText s wide base (Str offset) text = string_of s.strs offset ≡ Some text
IsText s wide base (LineStr offset) text = string_of s.line_strs offset ≡ Some text
IsText s wide base (Index index) text =
    (start offset : ℕ) × (base ≡ Some start) × (offset_of (record { section = s.str_offsets; wide = wide }) start index ≡ Some offset) × (string_of s.strs offset ≡ Some text)

-- the string of an attribute that the entry lacks is empty
abbrev pub IsTextOrNone : SectionBytes → Bool → Option ℕ → Option Text → List ℕ → Type 0
IsTextOrNone s wide base None text = text ≡ []
IsTextOrNone s wide base (Some found) text = IsText s wide base found text

-- the root is what the entry with these values says
pub record IsRoot (s : SectionBytes) (wide : Bool) (values : List AttributeValue) (root : Root) : Type 0 where
  pub name : IsTextOrNone s wide root.str_base (text_named DW_AT_name values) root.name
  pub dir : IsTextOrNone s wide root.str_base (text_named DW_AT_comp_dir values) root.dir
  pub macros : number_named DW_AT_macros values ≡ Some root.macros
  pub line : number_named DW_AT_stmt_list values ≡ root.line
  pub str_base : number_named DW_AT_str_offsets_base values ≡ root.str_base
  pub is_wide : wide ≡ root.wide

-- an entry without DW_AT_macros says none
abbrev pub IsRootOrNone : SectionBytes → Bool → List AttributeValue → Option Root → Type 0
IsRootOrNone s wide values None = number_named DW_AT_macros values ≡ None
IsRootOrNone s wide values (Some root) = IsRoot s wide values root
