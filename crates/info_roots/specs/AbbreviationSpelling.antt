-- Which bytes spell the abbreviations of a table (DWARF 5, 7.5.3), apart from how they are read.
use Rattle.std.specs.Prelude.{◌≡◌, ◌≢◌, ℕ, ℤ, ◌<◌, ◌^◌, ◌==◌, Bool, true, false, List, [], ◌∷◌, ◌++◌, IsTrue, IsFalse}
use Rattle.std.specs.List.{AllByRecursion}
use Rattle.mac_base.specs.Fields.{fits_i64}
use Rattle.mac_base.specs.Spelling.{IsUleb, IsSleb}
use Rattle.info_roots.specs.declared.abbreviation.Attribute.{Attribute}
use Rattle.info_roots.specs.Dwarf.{DW_FORM_implicit_const}
use Rattle.info_roots.specs.Abbreviations.{Abbreviation, Declaration, ends}

-- an unsigned LEB128 number that fits 64 bits
abbrev pub IsUnsigned : List ℕ → ℕ → Type 0
IsUnsigned bytes n = IsUleb bytes n × (n < 2 ^ 64)

-- the constant that follows a form in the table: DW_FORM_implicit_const has one, a signed LEB128 number, and the others have none
abbrev pub IsConstant : Bool → List ℕ → Type 0
IsConstant true bytes = (value : ℤ) × IsSleb bytes value × IsTrue (fits_i64 value)
IsConstant false bytes = bytes ≡ []

-- the bytes spell an attribute: its name, its form, and the constant where the form has one
pub record IsAttribute (bytes : List ℕ) (a : Attribute) : Type 0 where
  pub name : List ℕ
  pub form : List ℕ
  pub constant : List ℕ
  pub spelled : bytes ≡ name ++ (form ++ constant)
  pub is_name : IsUnsigned name a.name
  pub is_form : IsUnsigned form a.form
  pub is_constant : IsConstant (a.form == DW_FORM_implicit_const) constant

-- the bytes spell a list of attributes, which ends with a name and a form that are both 0
abbrev pub AreAttributes : List ℕ → List Attribute → Type 0
AreAttributes bytes [] = IsAttribute bytes (record { name = 0; form = 0 })
AreAttributes bytes (a ∷ attributes) = (front back : List ℕ) × (bytes ≡ front ++ back) × IsAttribute front a × IsFalse (ends a) × AreAttributes back attributes

-- the bytes spell an abbreviation: its code, which is not 0, its tag, a byte that says whether its entries have children, and its attributes
pub record IsDeclaration (bytes : List ℕ) (d : Declaration) : Type 0 where
  pub code : List ℕ
  pub tag : List ℕ
  pub children : ℕ
  pub attributes : List ℕ
  pub spelled : bytes ≡ code ++ (tag ++ children ∷ attributes)
  pub is_code : IsUnsigned code d.code
  pub no_end : d.code ≢ 0
  pub is_tag : IsUnsigned tag d.abbreviation.tag
  pub are_attributes : AreAttributes attributes d.abbreviation.attributes

-- the bytes spell these abbreviations, one after another
abbrev pub AreDeclarations : List ℕ → List Declaration → Type 0
AreDeclarations bytes [] = bytes ≡ []
AreDeclarations bytes (d ∷ declarations) = (front back : List ℕ) × (bytes ≡ front ++ back) × IsDeclaration front d × AreDeclarations back declarations

-- The abbreviation is the first of the table that has the code. What follows it in the table is free.
pub record IsDeclared (table : List ℕ) (code : ℕ) (abbreviation : Abbreviation) : Type 0 where
  pub before : List Declaration
  pub front : List ℕ
  pub own : List ℕ
  pub after : List ℕ
  pub spelled : table ≡ front ++ (own ++ after)
  pub are_before : AreDeclarations front before
  pub have_others : AllByRecursion (λ d. d.code ≢ code) before
  pub is_own : IsDeclaration own (record { code = code; abbreviation = abbreviation })
