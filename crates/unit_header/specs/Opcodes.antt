-- The opcodes of macro entries and the forms of their operands (DWARF 5, 6.3.2 and 7.23).
use Rattle.std.specs.Prelude.{ℕ, ◌==◌, Bool, true, false, if◌then◌else◌, List, [], ◌∷◌, Option, Some, None}
use Rattle.mac_base.specs.Forms.{form_by_code}
use Rattle.mac_base.specs.declared.form.Form.{Form}
use Rattle.mac_base.specs.declared.form.Form.TheVariants.{Addr, Block2, Block4, Data2, Data4, Data8, String, Block, Block1, Data1, Flag, Sdata, Strp, Udata, RefAddr, Ref1, Ref2, Ref4, Ref8, RefUdata, SecOffset, Exprloc, FlagPresent, Strx, Addrx, RefSup4, StrpSup, Data16, LineStrp, RefSig8, ImplicitConst, Loclistx, Rnglistx, RefSup8, Strx1, Strx2, Strx3, Strx4, Addrx1, Addrx2, Addrx3, Addrx4}
use Rattle.unit_header.specs.declared.opcode.Opcode.{Opcode}
use Rattle.unit_header.specs.declared.opcode.Opcode.TheVariants.{Define, Undef, StartFile, EndFile, DefineStrp, UndefStrp, Import, DefineSup, UndefSup, ImportSup, DefineStrx, UndefStrx, Other}

-- the opcode of a byte (7.23)
abbrev pub opcode_by_byte : ℕ → Opcode
opcode_by_byte byte =
    if byte == 0x01 then Define
    else if byte == 0x02 then Undef
    else if byte == 0x03 then StartFile
    else if byte == 0x04 then EndFile
    else if byte == 0x05 then DefineStrp
    else if byte == 0x06 then UndefStrp
    else if byte == 0x07 then Import
    else if byte == 0x08 then DefineSup
    else if byte == 0x09 then UndefSup
    else if byte == 0x0a then ImportSup
    else if byte == 0x0b then DefineStrx
    else if byte == 0x0c then UndefStrx
    else Other

-- the codes of the forms of a standard opcode's operands: udata 0f, string 08, strp 0e, sec_offset 17, strp_sup 1d, strx 1a (6.3.2)
abbrev pub standard_forms : Opcode → Option (List ℕ)
standard_forms Define = Some (0x0f ∷ 0x08 ∷ [])
standard_forms Undef = Some (0x0f ∷ 0x08 ∷ [])
standard_forms StartFile = Some (0x0f ∷ 0x0f ∷ [])
standard_forms EndFile = Some []
standard_forms DefineStrp = Some (0x0f ∷ 0x0e ∷ [])
standard_forms UndefStrp = Some (0x0f ∷ 0x0e ∷ [])
standard_forms Import = Some (0x17 ∷ [])
standard_forms DefineSup = Some (0x0f ∷ 0x1d ∷ [])
standard_forms UndefSup = Some (0x0f ∷ 0x1d ∷ [])
standard_forms ImportSup = Some (0x17 ∷ [])
standard_forms DefineStrx = Some (0x0f ∷ 0x1a ∷ [])
standard_forms UndefStrx = Some (0x0f ∷ 0x1a ∷ [])
standard_forms Other = None

-- the forms that an operand table may name (7.23): all but addresses, references, expressions and those without bytes
abbrev pub may_be_listed : Form → Bool
may_be_listed Block2 = true
may_be_listed Block4 = true
may_be_listed Data2 = true
may_be_listed Data4 = true
may_be_listed Data8 = true
may_be_listed String = true
may_be_listed Block = true
may_be_listed Block1 = true
may_be_listed Data1 = true
may_be_listed Flag = true
may_be_listed Sdata = true
may_be_listed Strp = true
may_be_listed Udata = true
may_be_listed SecOffset = true
may_be_listed Strx = true
may_be_listed StrpSup = true
may_be_listed Data16 = true
may_be_listed LineStrp = true
may_be_listed Strx1 = true
may_be_listed Strx2 = true
may_be_listed Strx3 = true
may_be_listed Strx4 = true
may_be_listed Addr = false
may_be_listed RefAddr = false
may_be_listed Ref1 = false
may_be_listed Ref2 = false
may_be_listed Ref4 = false
may_be_listed Ref8 = false
may_be_listed RefUdata = false
may_be_listed Exprloc = false
may_be_listed FlagPresent = false
may_be_listed Addrx = false
may_be_listed RefSup4 = false
may_be_listed RefSig8 = false
may_be_listed ImplicitConst = false
may_be_listed Loclistx = false
may_be_listed Rnglistx = false
may_be_listed RefSup8 = false
may_be_listed Addrx1 = false
may_be_listed Addrx2 = false
may_be_listed Addrx3 = false
may_be_listed Addrx4 = false

-- a form, if there is one, that an operand table may name
abbrev pub is_listed : Option Form → Bool
is_listed None = false
is_listed (Some form) = may_be_listed form

-- the code of a form that an operand table may name
abbrev pub is_macro_form : ℕ → Bool
is_macro_form code = is_listed (form_by_code code)
