-- A linked file with macro information (gABI, "Sections"; DWARF 5, 7.3.1): its seven sections, of which .shstrtab is the last.
use Rattle.std.specs.Prelude.{ℕ, ◌≤◌, List, [], ◌∷◌, length, Result, All}
use Rattle.info_roots.specs.Written.{abbrev_bytes, info_bytes, OffsetsFit}
use Rattle.object_writer.specs.declared.elf.FileType.TheVariants.{Executable}
use Rattle.object_writer.specs.declared.fault.WriteFault.{WriteFault}
use Rattle.object_writer.specs.declared.linked.LinkedParts.{LinkedParts}
use Rattle.object_writer.specs.declared.section.Section.{Section}
use Rattle.object_writer.specs.declared.section.SectionName.TheVariants.{Macro, StrOffsets, Line, Info, Abbrev}
use Rattle.object_writer.specs.Elf.{written}
use Rattle.object_writer.specs.Object.{contents_section, strings_section}

-- the sections from section 1 on, but for .shstrtab; empty ones too
abbrev pub linked_sections : LinkedParts → List Section
linked_sections parts =
    contents_section Macro 0 parts.macros
    ∷ strings_section parts.strs
    ∷ contents_section StrOffsets 0 parts.str_offsets
    ∷ contents_section Line 0 parts.lines
    ∷ contents_section Info 0 (info_bytes parts.roots)
    ∷ contents_section Abbrev 0 abbrev_bytes
    ∷ []

-- the file, or the fault where a section is too large
abbrev pub linked : LinkedParts → Result (List ℕ) WriteFault
linked parts = written Executable (linked_sections parts)

-- no more roots than a file has, whose offsets fit
pub record IsLinkable (parts : LinkedParts) : Type 0 where
  pub few : length parts.roots ≤ 65536
  pub fit : All OffsetsFit parts.roots
