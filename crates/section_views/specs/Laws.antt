-- What is given of a file that isn't rejected is the one section of its name.
use Rattle.std.specs.Prelude.{◌≡◌, ℕ, ◌+◌, ◌<◌, ◌≤◌, List, length, Some, None, IsTrue}
use Rattle.section_views.specs.SectionTable.{section_count, header_at, names_of}
use Rattle.section_views.specs.Family.{is_member}
use Rattle.section_views.specs.Faults.{first_fault}
use Rattle.section_views.specs.View.{is_family_name, number_of}

-- section n of the file has contents, this name and no group
pub record IsOfName (file name : List ℕ) (n : ℕ) : Type 0 where
  pub low : 1 ≤ n
  pub high : n < section_count file
  pub named : IsTrue (is_member (names_of file) name (header_at file n))

-- the number that is given is that of a section of the name, whose contents are inside the file
abbrev pub GivenIsThere : Type 0
GivenIsThere = (file name : List ℕ) (n : ℕ) → first_fault file ≡ None → number_of file name ≡ Some n → IsOfName file name n × ((header_at file n).offset + (header_at file n).size ≤ length file)

-- and whichever section of the file has a name of the family is the one that is given
abbrev pub ThereIsGiven : Type 0
ThereIsGiven = (file name : List ℕ) (n : ℕ) → first_fault file ≡ None → IsTrue (is_family_name name) → IsOfName file name n → number_of file name ≡ Some n
