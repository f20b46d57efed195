-- The contents of the sections that macro information rests on, as lists of bytes (DWARF 5, 6.3).
use Rattle.std.specs.Prelude.{ℕ, List}
use Rattle.mac_base.specs.declared.sections.Sections.{Sections}

-- one list a section, empty where a file lacks it
pub record SectionBytes : Type 0 where
  pub macros : List ℕ
  pub strs : List ℕ
  pub str_offsets : List ℕ
  pub lines : List ℕ
  pub line_strs : List ℕ
  pub info : List ℕ
  pub abbrevs : List ℕ

-- the bytes that the slices hold
abbrev pub bytes_of : Sections → SectionBytes
bytes_of s = record { macros = s.macros.now; strs = s.strs.now; str_offsets = s.str_offsets.now; lines = s.lines.now; line_strs = s.line_strs.now; info = s.info.now; abbrevs = s.abbrevs.now }
