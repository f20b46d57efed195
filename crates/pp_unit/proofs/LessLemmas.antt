-- Stores that may tell less: what a walk comes to over the others, it comes to over these.
use Rattle.std.proofs.Common.{◌≡◌, ℕ, zero, suc, List, [], ◌∷◌, ◌++◌, length, Option, None, Some, Result, Ok, ap, subst}
use Rattle.std.proofs.lemmas.List.Elements.{All-weaker}
use Rattle.mac_io.specs.Files.{IsFileAt}
use Rattle.mac_io.specs.Calls.{FetchesFrom}
use Rattle.mac_io.specs.Search.{Finds, IsReached, AreAbsent, candidates, told_by, label_of, path_text, source_limit}
use Rattle.mac_io.specs.declared.headers.FileId.{FileId}
use Rattle.mac_io.specs.declared.headers.Located.{Located}
use Rattle.mac_io.specs.declared.headers.Located.TheVariants.{Found, Absent, TooLong, Failed, NoMemory as SearchRanOut}
use Rattle.mac_io.specs.declared.shelf.Fetched.{Fetched}
use Rattle.mac_io.specs.declared.shelf.Fetched.TheVariants.{Found as FetchedFound, TooLong as FetchedTooLong, Failed as FetchedFailed}
use Rattle.pp_tokens.specs.declared.line.Line.{Line}
use Rattle.pp_directives.specs.declared.directive.Directive.{Directive}
use Rattle.pp_directives.specs.declared.directive.Directive.TheVariants.{Include}
use Rattle.pp_directives.specs.Directives.{directive_of}
use Rattle.pp_directives.specs.Following.{Then, FollowsFile}
use Rattle.pp_unit.specs.declared.open_file.OpenFile.{OpenFile}
use Rattle.pp_unit.specs.declared.directives.header.HeaderName.{HeaderName}
use Rattle.pp_unit.specs.declared.request.UnitSpec.{UnitSpec}
use Rattle.pp_unit.specs.declared.fault.PpFault.{PpFault}
use Rattle.pp_unit.specs.declared.fault.PpKind.{PpKind}
use Rattle.pp_unit.specs.Kinds.{placed}
use Rattle.pp_unit.specs.Seen.{Seen, Marked, started, number_of, is_once, macros, marked}
use Rattle.pp_unit.specs.Definitions.{all_commanded, predefined}
use Rattle.pp_unit.specs.HeaderNames.{NamesHeader}
use Rattle.pp_unit.specs.LineConditions.{operands, here_of}
use Rattle.pp_unit.specs.Files.{Stores, FileWalk, Part, inside, Enters, IncludesFound, Includes, IncludesHeader, DoesInclude, DoesBy, ways, with_roles, ended, WalksBytes, Unlexed, Followed, Walks}
use Rattle.pp_unit.specs.Walk.{open_limit, outside, Walk}
use Rattle.pp_unit.proofs.MoreLemmas.{then_more, chosen_more, file_more}

-- as many stores with the same labels, where each file that is at a name may be there too
pub record TellsLess (told stores : Stores) : Type 0 where
  pub number : length told ≡ length stores
  pub label : (store : ℕ) → label_of told store ≡ label_of stores store
  pub file : (store : ℕ) (name : List ℕ) (file : Option (List ℕ)) → IsFileAt (told_by told store) name file → IsFileAt (told_by stores store) name file

-- the file that is open innermost, by the label of its store
abbrev labelled : List ℕ → OpenFile → ℕ → FileId → Seen → OpenFile
labelled label outer number id seen =
    let path = path_text label id.name in
    record { frames = outer.frames ++ record { path = number_of seen path; line = number } ∷ []; path = path; id = id }

module _ (told stores : Stores) (less : TellsLess told stores) where
  -- What is found.

  absent_less : (ids : List FileId) → AreAbsent told ids → AreAbsent stores ids
  absent_less ids absent =
      All-weaker (λ (id : FileId). IsFileAt (told_by told id.store) id.name None) (λ (id : FileId). IsFileAt (told_by stores id.store) id.name None) (λ id. less.file id.store id.name None) ids absent

  reached_less : (ids : List FileId) (id : FileId) → IsReached told ids id → IsReached stores ids id
  reached_less ids id (before, after, is, absent) = (before, after, is, absent_less before absent)

  fetches_less : (id : FileId) (answer : Fetched) (old new : List ℕ) → FetchesFrom (told_by told id.store) id.name source_limit answer old new → FetchesFrom (told_by stores id.store) id.name source_limit answer old new
  fetches_less id answer old new (file, at, fetches) = (file, less.file id.store id.name file at, fetches)

  finds_less : (ids : List FileId) (located : Located) (old new : List ℕ) → Finds told ids located old new → Finds stores ids located old new
  finds_less ids (Found id) old new finds = (reached_less ids id finds.0, fetches_less id FetchedFound old new finds.1)
  finds_less ids Absent old new finds = (absent_less ids finds.0, finds.1)
  finds_less ids TooLong old new (id, reached, fetches) = (id, reached_less ids id reached, fetches_less id FetchedTooLong old new fetches)
  finds_less ids Failed old new (id, reached, fetches) = (id, reached_less ids id reached, fetches_less id FetchedFailed old new fetches)
  finds_less ids SearchRanOut old new finds = finds

  -- a file in the same place
  inside_less : (outer : OpenFile) (number : ℕ) (id : FileId) (seen : Seen) → inside told outer number id seen ≡ inside stores outer number id seen
  inside_less outer number id seen = ap (λ (label : List ℕ). labelled label outer number id seen) (less.label id.store)

  -- What a line does, where the files that it includes may come to more.
  module _ (Inner Other : FileWalk) (more : (open_file : OpenFile) (bytes : List ℕ) (m : Marked) (r : Result Marked PpFault) → Inner open_file bytes m r → Other open_file bytes m r) where
    enters_less : (outer : OpenFile) (number : ℕ) (id : FileId) (bytes : List ℕ) (m : Marked) (r : Result Marked PpFault) → Enters told Inner outer number id bytes m r → Enters stores Other outer number id bytes m r
    enters_less outer number id bytes m r enters =
        let open_file = inside told outer number id m.seen in
        let starts = Part outer number (λ answer. answer ≡ started m.seen number open_file.path) m in
        subst (λ (w : OpenFile). Then (Part outer number (λ answer. answer ≡ started m.seen number w.path) m) (Other w bytes) r) (inside_less outer number id m.seen)
        (then_more starts starts (Inner open_file bytes) (Other open_file bytes) (λ q is. is) (more open_file bytes) r enters)

    found_less : (outer : OpenFile) (number : ℕ) (name : List ℕ) (m : Marked) (located : Located) (bytes : List ℕ) (r : Result Marked PpFault) →
        IncludesFound told Inner outer number name m located bytes r → IncludesFound stores Other outer number name m located bytes r
    found_less outer number name m (Found id) bytes r is =
        chosen_more (λ q. q ≡ Ok m) (Enters told Inner outer number id bytes m) (Enters stores Other outer number id bytes m) (enters_less outer number id bytes m) (is_once m.seen id) r is
    found_less outer number name m Absent bytes r is = is
    found_less outer number name m TooLong bytes r is = is
    found_less outer number name m Failed bytes r is = is
    found_less outer number name m SearchRanOut bytes r is = is

    includes_less : (outer : OpenFile) (number : ℕ) (name : List ℕ) (ids : List FileId) (m : Marked) (r : Result Marked PpFault) → Includes told Inner outer number name ids m r → Includes stores Other outer number name ids m r
    includes_less outer number name ids m r (located, bytes, finds, is) = (located, bytes, finds_less ids located [] bytes finds, found_less outer number name m located bytes r is)

    header_less : (left : ℕ) (outer : OpenFile) (number : ℕ) (header : HeaderName) (m : Marked) (r : Result Marked PpFault) →
        IncludesHeader told left Inner outer number header m r → IncludesHeader stores left Other outer number header m r
    header_less zero outer number header m r is = is
    header_less (suc left) outer number header m r includes =
        subst (λ (count : ℕ). Includes stores Other outer number header.name (candidates count outer.id header.form header.name) m r) less.number
        (includes_less outer number header.name (candidates (length told) outer.id header.form header.name) m r includes)

    include_less : (left : ℕ) (open_file : OpenFile) (here : Line) (m : Marked) (r : Result Marked PpFault) → DoesInclude told left Inner open_file here m r → DoesInclude stores left Other open_file here m r
    include_less left open_file here m r does =
        let names = λ (r : Result HeaderName PpFault). (answer : Result HeaderName PpKind) × NamesHeader (macros m.seen) (here_of open_file here) (operands here) answer × (r ≡ placed open_file here.number answer) in
        then_more names names (λ header. IncludesHeader told left Inner open_file here.number header m) (λ header. IncludesHeader stores left Other open_file here.number header m)
        (λ q is. is) (λ header. header_less left open_file here.number header m) r does

    does_less : (left : ℕ) (open_file : OpenFile) (here : Line) (directive : Directive) (m : Marked) (r : Result Marked PpFault) → DoesBy told left Inner open_file here directive m r → DoesBy stores left Other open_file here directive m r
    does_less left open_file here Include m r does = include_less left open_file here m r does
    does_less left open_file here directive m r does = does

    -- A file.

    lines_less : (left : ℕ) (open_file : OpenFile) (lines : List Line) (m : Marked) (r : Result Marked PpFault) →
        FollowsFile (ways told left Inner open_file) (with_roles lines) m r → FollowsFile (ways stores left Other open_file) (with_roles lines) m r
    lines_less left open_file lines m r follows =
        file_more (ways told left Inner open_file) (ways stores left Other open_file).Does
        (λ here s. does_less left open_file here (directive_of here.tokens) (marked open_file.frames (Some here.number) s))
        (with_roles lines) m r follows

    bytes_less : (left : ℕ) (open_file : OpenFile) (bytes : List ℕ) (m : Marked) (r : Result Marked PpFault) → WalksBytes told left Inner open_file bytes m r → WalksBytes stores left Other open_file bytes m r
    bytes_less left open_file bytes m r (Unlexed fault lexes answer is) = Unlexed fault lexes answer is
    bytes_less left open_file bytes m r (Followed lines lexes goes) =
        Followed lines lexes
        (then_more (FollowsFile (ways told left Inner open_file) (with_roles lines) m) (FollowsFile (ways stores left Other open_file) (with_roles lines) m)
        (λ t q. q ≡ ended open_file lines t) (λ t q. q ≡ ended open_file lines t)
        (lines_less left open_file lines m) (λ t q is. is) r goes)

  -- files within files
  walks_less : (left : ℕ) (open_file : OpenFile) (bytes : List ℕ) (m : Marked) (r : Result Marked PpFault) → Walks told left open_file bytes m r → Walks stores left open_file bytes m r
  unfolding Walks
  walks_less zero open_file bytes m r walks = walks
  walks_less (suc left) open_file bytes m r walks = bytes_less (Walks told left) (Walks stores left) (walks_less left) left open_file bytes m r walks

  -- a unit
  pub walk_less : (spec : UnitSpec) (r : Result Marked PpFault) → Walk told spec r → Walk stores spec r
  walk_less spec r walk =
      let begins = Part outside 0 (λ answer. answer ≡ all_commanded predefined spec.commands) (record { seen = predefined; marks = [] }) in
      let ids : List FileId = record { store = 0; name = spec.source } ∷ [] in
      then_more begins begins (Includes told (Walks told open_limit) outside 0 spec.source ids) (Includes stores (Walks stores open_limit) outside 0 spec.source ids)
      (λ q is. is) (includes_less (Walks told open_limit) (Walks stores open_limit) (walks_less open_limit) outside 0 spec.source ids) r walk
