-- The tables of abbreviations (DWARF 5, 7.5.3).
use Rattle.std.specs.Prelude.{◌≡◌, ℕ, zero, suc, ◌==◌, ◌&&◌, Bool, if◌then◌else◌, List, [], ◌∷◌, ◌++◌, length, Option, Some, None, option_and_then, Result, Ok, Err}
use Rattle.mac_base.specs.Input.{Input, ◌>>=◌}
use Rattle.mac_base.specs.Fields.{number_at, uleb_at, sleb_at}
use Rattle.mac_base.specs.declared.cursor.CursorFault.{CursorFault}
use Rattle.mac_base.specs.declared.cursor.CursorFault.TheVariants.{Cut}
use Rattle.info_roots.specs.Dwarf.{DW_FORM_implicit_const}
use Rattle.info_roots.specs.declared.abbreviation.Attribute.{Attribute}
use Rattle.info_roots.specs.declared.abbreviation.Abbreviation.{Abbreviation as HeldAbbreviation}
use Rattle.info_roots.specs.declared.abbreviation.Declaration.{Declaration as HeldDeclaration}

-- the tag of its entries, and their attributes
pub record Abbreviation : Type 0 where
  pub tag : ℕ
  pub attributes : List Attribute

-- the abbreviation of a held one
abbrev pub abbreviation_of : HeldAbbreviation → Abbreviation
abbreviation_of a = record { tag = a.tag; attributes = a.attributes.items }

-- an abbreviation and its code
pub record Declaration : Type 0 where
  pub code : ℕ
  pub abbreviation : Abbreviation

-- and a held declaration
abbrev pub declaration_of : HeldDeclaration → Declaration
declaration_of d = record { code = d.code; abbreviation = abbreviation_of d.abbreviation }

-- a value follows the form DW_FORM_implicit_const
abbrev pub after_form : ℕ → ℕ × Input → Result (Attribute × Input) CursorFault
after_form name form =
    if form.0 == DW_FORM_implicit_const then (sleb_at form.1 >>= λ value. Ok (record { name = name; form = form.0 }, value.1))
    else Ok (record { name = name; form = form.0 }, form.1)

-- the name of an attribute, and its form
unfoldable pub attribute_at : Input → Result (Attribute × Input) CursorFault
attribute_at p = do
  name ← uleb_at p
  form ← uleb_at name.1
  after_form name.0 form

-- a name and a form that are both 0 end the list
abbrev pub ends : Attribute → Bool
ends a = a.name == 0 && a.form == 0

-- the attributes after these, up to the end of the list; at most so many
abbrev pub attributes_at : ℕ → List Attribute → Input → Result (List Attribute × Input) CursorFault
attributes_at zero attributes p = Err (Cut p.at)
attributes_at (suc n) attributes p =
    attribute_at p >>= λ a. if ends a.0 then Ok (attributes, a.1) else attributes_at n (attributes ++ a.0 ∷ []) a.1

-- the tag, the byte that says whether there are children, and the attributes
abbrev pub after_code : ℕ → ℕ × Input → Result (Option Declaration × Input) CursorFault
after_code most code = do
  tag ← uleb_at code.1
  children ← number_at 1 tag.1
  attributes ← attributes_at most [] children.1
  Ok (Some (record { code = code.0; abbreviation = record { tag = tag.0; attributes = attributes.0 } }), attributes.1)

-- the declaration at a place, or nothing at the 0 that closes the table
unfoldable pub declaration_at : ℕ → Input → Result (Option Declaration × Input) CursorFault
declaration_at most p = do
  code ← uleb_at p
  if code.0 == 0 then Ok (None, code.1) else after_code most code

-- what is found at a declaration, or after it: nothing after the end of the table, nor after what can't be read
abbrev pub found_by : ℕ → (Input → Option Abbreviation) → Result (Option Declaration × Input) CursorFault → Option Abbreviation
found_by code after (Err fault) = None
found_by code after (Ok read) = option_and_then (λ d. if d.code == code then Some d.abbreviation else after read.1) read.0

-- the first abbreviation with the code, among so many declarations, of so many attributes at most
abbrev pub declared_in : ℕ → ℕ → ℕ → Input → Option Abbreviation
declared_in most zero code p = None
declared_in most (suc n) code p = found_by code (declared_in most n code) (declaration_at most p)

-- the first abbreviation with the code in the table at an offset of the section, which has fewer attributes and declarations than bytes
abbrev pub abbreviation_in : List ℕ → ℕ → ℕ → Option Abbreviation
abbreviation_in section offset code = declared_in (length section) (length section) code (record { bytes = section; at = offset })

-- the tables of a section, and what was found last
pub record LookedUp : Type 0 where
  pub section : List ℕ
  pub found : Option Abbreviation

-- what was found was looked up under this table and code
abbrev pub IsFoundAt : List ℕ → Option Abbreviation → Option (ℕ × ℕ) → Type 0
IsFoundAt section found None = Unit {0}
IsFoundAt section found (Some key) = found ≡ abbreviation_in section key.0 key.1
