-- What is kept of a file while its sections are gone through, and afterwards: the first section of each name.
use Rattle.std.specs.Prelude.{◌≡◌, ℕ, ◌<◌, Bool, true, false, List, [], Option, None, MatchOption}
use Rattle.std.specs.List.{slice_index_or}
use Rattle.std.specs.Option.{option_map}
use Rattle.section_views.specs.declared.members.Member.{Member}
use Rattle.section_views.specs.declared.members.Members.{Members}
use Rattle.section_views.specs.declared.header.SectionHeader.{SectionHeader}
use Rattle.section_views.specs.SectionTable.{contents_of}
use Rattle.section_views.specs.Family.{family_names, first_member}

-- the name at a place of the family
abbrev pub name_at : ℕ → List ℕ
name_at k = slice_index_or family_names k []

-- the place of a name for which a test holds, or none where it holds for no name of the family
abbrev pub IsPlace : (List ℕ → Bool) → Option ℕ → Type 0
IsPlace test place = MatchOption place ((k : ℕ) → k < 7 → test (name_at k) ≡ false) (λ k. (k < 7) × (test (name_at k) ≡ true))

-- the number of a section and its contents, as they are kept
abbrev pub kept_of : Member → ℕ × List ℕ
kept_of member = (member.number, member.bytes.now)

-- the same by its header
abbrev pub entry_of : List ℕ → SectionHeader → ℕ × List ℕ
entry_of file s = (s.number, contents_of file s)

-- at each place the first section of its name before number n
abbrev pub AreFirst : List ℕ → ℕ → Members → Type 0
AreFirst file n members = (k : ℕ) → k < 7 → option_map kept_of (slice_index_or members.at k None) ≡ option_map (entry_of file) (first_member file n (name_at k))
