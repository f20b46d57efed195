-- One more section, and what is kept of the sections before it.
use Rattle.std.proofs.Common.{◌≡◌, ◌≢◌, ℕ, ◌+◌, ◌-◌, ◌<◌, ◌≤◌, Bool, true, false, not, ◌&&◌, cond, List, [], get_or, map, Option, Some, None, refl, ap, sym, ◌∙◌, subst, inl, inr}
use Rattle.std.specs.List.{find, range_with_len}
use Rattle.std.specs.Option.{option_map, option_or, is_some}
use Rattle.std.proofs.lemmas.List.Folds.{list_any_at}
use Rattle.std.proofs.lemmas.Bool.{cases_Bool, cases_eq, and_parts, and_left, and_right}
use Rattle.section_views.specs.declared.members.Member.{Member}
use Rattle.section_views.specs.declared.members.Members.{Members}
use Rattle.section_views.specs.declared.header.SectionHeader.{SectionHeader}
use Rattle.section_views.specs.SectionTable.{section_count, header_at, contents_of, has_contents, is_grouped, names_of, name_in}
use Rattle.section_views.specs.Family.{family_names, is_named, is_member, first_member, is_second}
use Rattle.section_views.specs.Members.{name_at, kept_of, entry_of, AreFirst}
use Rattle.section_views.proofs.Finding.{find_more}
use Rattle.section_views.proofs.Firsts.{header_at-number}
use Rattle.section_views.proofs.Places.{no_any, names_apart, one_text}
use Rattle.mac_base.proofs.Choices.{none_there}

-- section n has the name at place k, and contents, and belongs to no group
abbrev pub stands : List ℕ → ℕ → ℕ → Bool
stands file n k = is_member (names_of file) (name_at k) (header_at file n)

or_none : {A : Type 0} (o : Option A) → option_or o None ≡ o
or_none None = refl
or_none (Some x) = refl

passed : {A : Type 0} (t : Bool) (o : Option A) (x : A) → t ≡ false → option_or o (cond t (Some x) None) ≡ o
passed true o x fails = cc
passed false o x fails = or_none o

taken : {A : Type 0} (t : Bool) (o : Option A) (x : A) → t ≡ true → o ≡ None → option_or o (cond t (Some x) None) ≡ Some x
taken true o x holds none = rw none refl
taken false o x holds none = cc

pub first_member-passed : (file : List ℕ) (n k : ℕ) → 1 ≤ n → stands file n k ≡ false → first_member file (n + 1) (name_at k) ≡ first_member file n (name_at k)
first_member-passed file n k low fails =
    find_more (header_at file) (is_member (names_of file) (name_at k)) n low ∙ passed (stands file n k) (first_member file n (name_at k)) (header_at file n) fails

pub first_member-taken : (file : List ℕ) (n k : ℕ) → 1 ≤ n → stands file n k ≡ true → first_member file n (name_at k) ≡ None → first_member file (n + 1) (name_at k) ≡ Some (header_at file n)
first_member-taken file n k low holds none =
    find_more (header_at file) (is_member (names_of file) (name_at k)) n low ∙ taken (stands file n k) (first_member file n (name_at k)) (header_at file n) holds none

pub is_second-not : (file : List ℕ) (n : ℕ) → ((k : ℕ) → k < 7 → (stands file n k && is_some (first_member file n (name_at k))) ≡ false) → is_second file (header_at file n) ≡ false
is_second-not file n none =
    no_any (λ (name : List ℕ). is_member (names_of file) name (header_at file n) && is_some (first_member file (header_at file n).number name)) family_names []
    (λ k within. ap (λ m. stands file n k && is_some (first_member file m (name_at k))) (header_at-number file n) ∙ none k within)

pub is_second-at : (file : List ℕ) (n k : ℕ) → k < 7 → stands file n k ≡ true → is_some (first_member file n (name_at k)) ≡ true → is_second file (header_at file n) ≡ true
is_second-at file n k within holds earlier =
    list_any_at (λ (name : List ℕ). is_member (names_of file) name (header_at file n) && is_some (first_member file (header_at file n).number name)) family_names k [] within
    (ap (λ m. stands file n k && is_some (first_member file m (name_at k))) (header_at-number file n) ∙ rw holds earlier)

-- a section is at one place at most
pub stands_once : (file : List ℕ) (n j k : ℕ) → j < 7 → k < 7 → j ≢ k → stands file n k ≡ true → stands file n j ≡ false
stands_once file n j k low high apart holds =
    elim (cases_Bool (stands file n j)) [
      | inl also ↦
          let name = name_in (names_of file) (header_at file n) in
          let first = (and_parts _ (is_named (names_of file) (name_at k) (header_at file n)) holds).1 in
          let second = (and_parts _ (is_named (names_of file) (name_at j) (header_at file n)) also).1 in
          absurd (apart (names_apart j k low high (one_text (name_at j) (name_at k) name second first)))
      | inr not ↦ not
    ]

same_some : {A B C : Type 0} (f : A → C) (g : B → C) (o : Option A) (u : Option B) → option_map f o ≡ option_map g u → is_some o ≡ is_some u
same_some f g None None same = refl
same_some f g None (Some y) same = cc
same_some f g (Some x) None same = cc
same_some f g (Some x) (Some y) same = refl

-- what is kept tells whether there is an earlier section
pub AreFirst-some : (file : List ℕ) (n : ℕ) (members : Members) (k : ℕ) → AreFirst file n members → k < 7 → is_some (get_or members.at k None) ≡ is_some (first_member file n (name_at k))
AreFirst-some file n members k are within = same_some kept_of (entry_of file) (get_or members.at k None) (first_member file n (name_at k)) (are k within)

-- a section of another name
pub AreFirst-passed : (file : List ℕ) (n : ℕ) (members : Members) → 1 ≤ n → AreFirst file n members → ((k : ℕ) → k < 7 → stands file n k ≡ false) → AreFirst file (n + 1) members
AreFirst-passed file n members low are none = λ k within. are k within ∙ ap (option_map (entry_of file)) (sym (first_member-passed file n k low (none k within)))

-- the first section of a name is kept
put_here : (file : List ℕ) (n : ℕ) (members more : Members) (p : ℕ) (member : Member) → 1 ≤ n → AreFirst file n members → p < 7 → stands file n p ≡ true → is_some (get_or members.at p None) ≡ false → get_or more.at p None ≡ Some member → kept_of member ≡ (n, contents_of file (header_at file n)) → option_map kept_of (get_or more.at p None) ≡ option_map (entry_of file) (first_member file (n + 1) (name_at p))
put_here file n members more p member low are within holds free here kept =
    let none : first_member file n (name_at p) ≡ None = none_there (first_member file n (name_at p)) (sym (AreFirst-some file n members p are within) ∙ free) in
    let entry : (n, contents_of file (header_at file n)) ≡ entry_of file (header_at file n) = ap (λ (m : ℕ). (m, contents_of file (header_at file n))) (sym (header_at-number file n)) in
    ap (option_map kept_of) here ∙ ap (λ (x : ℕ × List ℕ). Some x) (kept ∙ entry) ∙ ap (option_map (entry_of file)) (sym (first_member-taken file n p low holds none))

pub AreFirst-put : (file : List ℕ) (n : ℕ) (members more : Members) (p : ℕ) (member : Member) → 1 ≤ n → AreFirst file n members → p < 7 → stands file n p ≡ true → is_some (get_or members.at p None) ≡ false → get_or more.at p None ≡ Some member → ((k : ℕ) → k ≢ p → get_or more.at k None ≡ get_or members.at k None) → kept_of member ≡ (n, contents_of file (header_at file n)) → AreFirst file (n + 1) more
AreFirst-put file n members more p member low are within holds free here others kept = λ k below.
    elim (cases_eq k p) [
      | inl same ↦
          subst (λ (j : ℕ). option_map kept_of (get_or more.at j None) ≡ option_map (entry_of file) (first_member file (n + 1) (name_at j))) (sym same)
          (put_here file n members more p member low are within holds free here kept)
      | inr other ↦ ap (option_map kept_of) (others k other) ∙ are k below ∙ ap (option_map (entry_of file)) (sym (first_member-passed file n k low (stands_once file n k p below within other holds)))
    ]

-- where a section is, from its header and the names as they were read
pub stands-read : (file names : List ℕ) (n k : ℕ) (s : SectionHeader) (t : Bool) → names ≡ names_of file → s ≡ header_at file n → is_member names (name_at k) s ≡ t → stands file n k ≡ t
stands-read file names n k s t same header is =
    ap (λ (text : List ℕ). is_member text (name_at k) (header_at file n)) (sym same) ∙ ap (is_member names (name_at k)) (sym header) ∙ is

-- what a section does that is at no place, and what one does that is the first of its name
pub is_second-other : (file : List ℕ) (n : ℕ) → ((k : ℕ) → k < 7 → stands file n k ≡ false) → is_second file (header_at file n) ≡ false
is_second-other file n none = is_second-not file n (λ k within. and_left (stands file n k) (is_some (first_member file n (name_at k))) (none k within))

pub is_second-first : (file : List ℕ) (n : ℕ) (members : Members) (p : ℕ) → AreFirst file n members → p < 7 → stands file n p ≡ true → is_some (get_or members.at p None) ≡ false → is_second file (header_at file n) ≡ false
is_second-first file n members p are within holds free =
    is_second-not file n (λ k below.
    elim (cases_eq k p) [
      | inl here ↦
          let none : is_some (first_member file n (name_at k)) ≡ false = ap (λ (j : ℕ). is_some (first_member file n (name_at j))) here ∙ sym (AreFirst-some file n members p are within) ∙ free in
          and_right (stands file n k) (is_some (first_member file n (name_at k))) none
      | inr other ↦ and_left (stands file n k) (is_some (first_member file n (name_at k))) (stands_once file n k p below within other holds)
    ])

-- the contents of a section that is at a place are its own
pub stands-contents : (file : List ℕ) (n k : ℕ) → stands file n k ≡ true → has_contents (header_at file n) ≡ true
stands-contents file n k holds =
    let s = header_at file n in
    (and_parts (has_contents s) (not (is_grouped s)) (and_parts (has_contents s && not (is_grouped s)) (is_named (names_of file) (name_at k) s) holds).0).0

-- the sections have come to an end
pub AreFirst-whole : (file : List ℕ) (n : ℕ) (members : Members) → n - 1 ≡ section_count file - 1 → AreFirst file n members → AreFirst file (section_count file) members
AreFirst-whole file n members last are = λ k within.
    are k within ∙ ap (λ (m : ℕ). option_map (entry_of file) (find (is_member (names_of file) (name_at k)) (map (header_at file) (range_with_len 1 m)))) last

-- what is kept of a section tells its number and its contents
pub entries-number : (file : List ℕ) (kept : Option Member) (found : Option SectionHeader) → option_map kept_of kept ≡ option_map (entry_of file) found → option_map (λ (member : Member). member.number) kept ≡ option_map (λ (s : SectionHeader). s.number) found
entries-number file None None same = refl
entries-number file None (Some s) same = cc
entries-number file (Some member) None same = cc
entries-number file (Some member) (Some s) same = ap (λ (x : Option (ℕ × List ℕ)). option_map (λ (y : ℕ × List ℕ). y.0) x) same

pub entries-contents : (file : List ℕ) (kept : Option Member) (found : Option SectionHeader) → option_map kept_of kept ≡ option_map (entry_of file) found → option_map (λ (member : Member). member.bytes.now) kept ≡ option_map (contents_of file) found
entries-contents file None None same = refl
entries-contents file None (Some s) same = cc
entries-contents file (Some member) None same = cc
entries-contents file (Some member) (Some s) same = ap (λ (x : Option (ℕ × List ℕ)). option_map (λ (y : ℕ × List ℕ). y.1) x) same
