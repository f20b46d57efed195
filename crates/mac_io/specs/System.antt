-- The files and streams of the system: the path that is opened, what an error means, and what a reader and a writer come to.
use Rattle.std.specs.Prelude.{ℕ, Bool, true, false, if◌then◌else◌, List, ◌++◌, codes, Option}
use Rattle.std.specs.Fmt.{decimal}
use Rattle.std.specs.Io.KnownBytes.{append_known}
use Rattle.std.specs.declared.io.ErrorKind.{ErrorKind}
use Rattle.std.specs.declared.io.ErrorKind.TheVariants.{NotFound, NotADirectory, IsADirectory}
use Rattle.mac_io.specs.Search.{folder_of}
use Rattle.mac_io.specs.declared.real_file.Wanted.{Wanted}
use Rattle.mac_io.specs.declared.real_file.Wanted.TheVariants.{NamedFile, Header}
use Rattle.mac_io.specs.declared.shelf.Fetched.{Fetched}
use Rattle.mac_io.specs.declared.shelf.Fetched.TheVariants.{Absent, Failed}

-- Which errors of the system mean that there is no such file. A header may be in a later folder, so a folder of its name and a path
-- through something that is no folder count as absent too.
abbrev pub means_absent : Wanted → ErrorKind → Bool
means_absent NamedFile NotFound = true
means_absent NamedFile _ = false
means_absent Header NotFound = true
means_absent Header NotADirectory = true
means_absent Header IsADirectory = true
means_absent Header _ = false

-- what is answered where the system has an error in place of a file
abbrev pub unreadable : Wanted → ErrorKind → Fetched
unreadable wanted kind = if means_absent wanted kind then Absent else Failed

-- files of a folder: its path, empty for the working folder, and how often a call has failed
pub record Folder : Type 0 where
  pub path : List ℕ
  pub faults : ℕ

-- A writer with a buffer: what the writer has, where that is known, what is still in the buffer, and how often a call has failed.
pub record Buffered : Type 0 where
  pub written : Option (List ℕ)
  pub waiting : List ℕ
  pub faults : ℕ

-- all that was taken so far: what the writer has, and then what is in the buffer
abbrev pub taken : Buffered → Option (List ℕ)
taken sink = append_known sink.written sink.waiting

-- the path of a number for a new file in the folder of another
abbrev pub path_beside : List ℕ → ℕ → List ℕ
path_beside path number = folder_of path ++ codes ".dwmac-" ++ decimal number ++ codes ".tmp"
