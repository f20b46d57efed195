-- The forms of attributes: their codes, and which bytes a value has (DWARF 5, 7.5.6 and table 7.6).
use Rattle.std.specs.Prelude.{ℕ, ◌==◌, if◌then◌else◌, List, [], ◌∷◌, Option, Some, None}
use Rattle.mac_base.specs.declared.form.Form.{Form}
use Rattle.mac_base.specs.declared.form.Form.TheVariants.{Addr, Block2, Block4, Data2, Data4, Data8, String, Block, Block1, Data1, Flag, Sdata, Strp, Udata, RefAddr, Ref1, Ref2, Ref4, Ref8, RefUdata, SecOffset, Exprloc, FlagPresent, Strx, Addrx, RefSup4, StrpSup, Data16, LineStrp, RefSig8, ImplicitConst, Loclistx, Rnglistx, RefSup8, Strx1, Strx2, Strx3, Strx4, Addrx1, Addrx2, Addrx3, Addrx4}
use Rattle.mac_base.specs.declared.form.Layout.{Layout}
use Rattle.mac_base.specs.declared.form.Layout.TheVariants.{Nothing, One, Two, Three, Four, Eight, Sixteen, Address, Offset, Uleb, Sleb, Text, Counted1, Counted2, Counted4, CountedUleb}

-- the codes of the forms, all but that of DW_FORM_indirect
abbrev pub form_codes : List (ℕ × Form)
form_codes =
    (0x01, Addr) ∷ (0x03, Block2) ∷ (0x04, Block4) ∷ (0x05, Data2) ∷ (0x06, Data4) ∷ (0x07, Data8) ∷ (0x08, String) ∷ (0x09, Block) ∷ (0x0a, Block1) ∷ (0x0b, Data1) ∷ (0x0c, Flag) ∷ (0x0d, Sdata) ∷ (0x0e, Strp) ∷ (0x0f, Udata) ∷ (0x10, RefAddr) ∷ (0x11, Ref1) ∷ (0x12, Ref2) ∷ (0x13, Ref4) ∷ (0x14, Ref8) ∷ (0x15, RefUdata) ∷ (0x17, SecOffset) ∷ (0x18, Exprloc) ∷ (0x19, FlagPresent) ∷ (0x1a, Strx) ∷ (0x1b, Addrx) ∷ (0x1c, RefSup4) ∷ (0x1d, StrpSup) ∷ (0x1e, Data16) ∷ (0x1f, LineStrp) ∷ (0x20, RefSig8) ∷ (0x21, ImplicitConst) ∷ (0x22, Loclistx) ∷ (0x23, Rnglistx) ∷ (0x24, RefSup8) ∷ (0x25, Strx1) ∷ (0x26, Strx2) ∷ (0x27, Strx3) ∷ (0x28, Strx4) ∷ (0x29, Addrx1) ∷ (0x2a, Addrx2) ∷ (0x2b, Addrx3) ∷ (0x2c, Addrx4) ∷ []

-- the form of a code in such a table
abbrev pub form_in : List (ℕ × Form) → ℕ → Option Form
form_in [] code = None
form_in (entry ∷ entries) code = if code == entry.0 then Some entry.1 else form_in entries code

-- the form of a code, where there is one
abbrev pub form_by_code : ℕ → Option Form
form_by_code = form_in form_codes

-- which bytes a value in a form has
abbrev pub layout_by_form : Form → Layout
layout_by_form FlagPresent = Nothing
layout_by_form ImplicitConst = Nothing
layout_by_form Data1 = One
layout_by_form Flag = One
layout_by_form Ref1 = One
layout_by_form Strx1 = One
layout_by_form Addrx1 = One
layout_by_form Data2 = Two
layout_by_form Ref2 = Two
layout_by_form Strx2 = Two
layout_by_form Addrx2 = Two
layout_by_form Strx3 = Three
layout_by_form Addrx3 = Three
layout_by_form Data4 = Four
layout_by_form Ref4 = Four
layout_by_form RefSup4 = Four
layout_by_form Strx4 = Four
layout_by_form Addrx4 = Four
layout_by_form Data8 = Eight
layout_by_form Ref8 = Eight
layout_by_form RefSig8 = Eight
layout_by_form RefSup8 = Eight
layout_by_form Data16 = Sixteen
layout_by_form Addr = Address
layout_by_form Strp = Offset
layout_by_form RefAddr = Offset
layout_by_form SecOffset = Offset
layout_by_form StrpSup = Offset
layout_by_form LineStrp = Offset
layout_by_form Udata = Uleb
layout_by_form RefUdata = Uleb
layout_by_form Strx = Uleb
layout_by_form Addrx = Uleb
layout_by_form Loclistx = Uleb
layout_by_form Rnglistx = Uleb
layout_by_form Sdata = Sleb
layout_by_form String = Text
layout_by_form Block1 = Counted1
layout_by_form Block2 = Counted2
layout_by_form Block4 = Counted4
layout_by_form Block = CountedUleb
layout_by_form Exprloc = CountedUleb
