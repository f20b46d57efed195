-- The entries of a macro unit as values (DWARF 5, 6.3.2).
use Rattle.std.specs.Prelude.{ℕ, List}
use Rattle.macro_opcodes.specs.declared.entry.Operand.{Operand as HeldOperand}
use Rattle.macro_opcodes.specs.declared.entry.Operand.TheVariants.{None as HeldNone, File as HeldFile, Text as HeldText, Str as HeldStr, Index as HeldIndex, Macro as HeldMacro, SupStr as HeldSupStr, SupMacro as HeldSupMacro, Other as HeldOther}
use Rattle.macro_opcodes.specs.declared.entry.RawEntry.{RawEntry}

-- what an entry has besides its line
pub data Operand : Type 0 where
  -- nothing
  None : Operand
  -- the index of a file in the line table
  File : ℕ → Operand
  -- a definition or a name
  Text : List ℕ → Operand
  -- the offset of such a text in the string section
  Str : ℕ → Operand
  -- the index of such an offset in the section of string offsets
  Index : ℕ → Operand
  -- the offset of a unit
  Macro : ℕ → Operand
  -- the offset of a text in the supplementary file
  SupStr : ℕ → Operand
  -- the offset of a unit in the supplementary file
  SupMacro : ℕ → Operand
  -- values that the operand table lists
  Other : Operand

-- an entry: where its opcode is, the opcode, the line (0 where the opcode has none) and the rest
pub record Entry : Type 0 where
  pub at : ℕ
  pub opcode : ℕ
  pub line : ℕ
  pub operand : Operand

-- an operand without where it lies in memory
abbrev pub operand_of : HeldOperand → Operand
operand_of HeldNone = None
operand_of (HeldFile index) = File index
operand_of (HeldText text) = Text text.now
operand_of (HeldStr at) = Str at
operand_of (HeldIndex index) = Index index
operand_of (HeldMacro at) = Macro at
operand_of (HeldSupStr at) = SupStr at
operand_of (HeldSupMacro at) = SupMacro at
operand_of HeldOther = Other

-- an entry without where it lies in memory
abbrev pub entry_of : RawEntry → Entry
entry_of e = record { at = e.at; opcode = e.opcode; line = e.line; operand = operand_of e.operand }
