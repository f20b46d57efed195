-- What the walk of a file leaves.
use Rattle.std.proofs.Common.{◌≡◌, ℕ, zero, suc, ◌+◌, Bool, true, false, List, [], ◌∷◌, ◌++◌, length, Some, None, Result, Ok, Err, refl, ap, ◌∙◌, subst, append_assoc}
use Rattle.mac_base.proofs.Choices.{same_ok}
use Rattle.mac_io.specs.declared.headers.FileId.{FileId}
use Rattle.mac_io.specs.declared.headers.Located.{Located}
use Rattle.mac_io.specs.declared.headers.Located.TheVariants.{Found, Absent, TooLong, Failed}
use Rattle.mac_io.specs.declared.headers.Located.TheVariants.{NoMemory as SearchRanOut}
use Rattle.pp_tokens.specs.declared.line.Line.{Line}
use Rattle.pp_tokens.proofs.RiseLemmas.{numbers-rise}
use Rattle.macro_table.specs.Definitions.{def_of}
use Rattle.mac_base.specs.Items.{End}
use Rattle.pp_directives.specs.declared.directive.Directive.{Directive}
use Rattle.pp_directives.specs.declared.directive.Directive.TheVariants.{Text, Null, If, Ifdef, Ifndef, Elif, Else, Endif, Include, Define, Undef, LineNumber, Error, Pragma, Unknown}
use Rattle.pp_directives.specs.Directives.{directive_of}
use Rattle.pp_directives.specs.Groups.{CondLine}
use Rattle.pp_directives.specs.Following.{Then, Goes, Chosen, Follows, FollowsFile, Whole, Broken, Unclosed, FollowsBroken, Completed}
use Rattle.pp_unit.specs.declared.open_file.OpenFile.{OpenFile}
use Rattle.pp_unit.specs.declared.directives.header.HeaderName.{HeaderName}
use Rattle.pp_unit.specs.declared.fault.PpFault.{PpFault}
use Rattle.pp_unit.specs.declared.fault.PpKind.{PpKind}
use Rattle.pp_unit.specs.declared.fault.PpKind.TheVariants.{Struct}
use Rattle.pp_directives.specs.declared.fault.StructFault.{StructFault}
use Rattle.pp_directives.specs.declared.fault.StructFault.TheVariants.{OpenIf}
use Rattle.pp_unit.specs.Kinds.{fault_at, placed}
use Rattle.pp_unit.specs.Seen.{Seen, Marked, added, number_of, is_once, macros, chain_of, marked, with_seen}
use Rattle.pp_unit.specs.LineConditions.{operands, here_of}
use Rattle.pp_unit.specs.Lines.{pragma_seen, Directs}
use Rattle.pp_unit.specs.Files.{Stores, FileWalk, keeping_marks, inside, Enters, IncludesFound, IncludesHeader, DoesInclude, DoesBy, ways, with_roles, ended, WalksBytes, Unlexed, Followed, Walks}
use Rattle.pp_unit.proofs.Traces.{size, mark, marks_onto}
use Rattle.pp_unit.proofs.LeavesLemmas.{Leaves, FileLeaves, silent, defines, undefines, includes, nothing, ends}
use Rattle.pp_unit.proofs.TreeTraces.{onto, of_group}
use Rattle.pp_unit.proofs.LineTraces.{Effect, Nothing, Definition, Removal, Inclusion, stays, does_define, does_undef, line_stays, pragma_stays, IsOpen, inner_chain, IsGood, Entered, enters, added_one}

-- a line with its mark and its effect
with_effect : (open_file : OpenFile) (to : Marked) (here : Line) (lines : List Line) (m next : Marked) → Effect (chain_of open_file.frames) here.number (marked open_file.frames (Some here.number) m) next →
    Leaves (chain_of open_file.frames) to lines next → Leaves (chain_of open_file.frames) to (here ∷ lines) m
with_effect open_file to here lines m next (Nothing items marks) leaves = silent (chain_of open_file.frames) to here lines m next items marks leaves
with_effect open_file to here lines m next (Definition text items marks) leaves = defines (chain_of open_file.frames) to here lines m next text items marks leaves
with_effect open_file to here lines m next (Removal name items marks) leaves = undefines (chain_of open_file.frames) to here lines m next name items marks leaves
with_effect open_file to here lines m next (Inclusion path inner rises items marks) leaves =
    let c = chain_of open_file.frames in
    let e = length m.seen.items in
    let inside = c ++ here.number ∷ [] in
    includes c to here lines m next path inner rises items
    (marks ∙ append_assoc m.marks (mark c (Some here.number) e ∷ []) (marks_onto inside (suc e) inner (mark inside None (suc e + size inner) ∷ [])))
    leaves

module _ (stores : Stores) (left : ℕ) (Inner : FileWalk) (good : IsGood Inner) (open_file : OpenFile) (one : IsOpen open_file.frames) where
  -- a file that was entered, by its chain
  of_entered : (here : Line) (c : List ℕ) (m next : Marked) → c ≡ chain_of open_file.frames ++ here.number ∷ [] → Entered stores Inner good open_file here.number c m next → Effect (chain_of open_file.frames) here.number m next
  of_entered here c m next is file =
      let e = length m.seen.items in
      Inclusion file.path file.inner file.rises file.items
      (file.marks ∙ ap (λ (chain : List ℕ). m.marks ++ marks_onto chain (suc e) file.inner (mark chain None (suc e + size file.inner) ∷ [])) is)

  -- a file that is entered, unless it contributes nothing any more
  enters_or_not : (once : Bool) (here : Line) (id : FileId) (bytes : List ℕ) (m next : Marked) →
      Chosen (λ q. q ≡ Ok m) (Enters stores Inner open_file here.number id bytes m) once (Ok next) → Effect (chain_of open_file.frames) here.number m next
  enters_or_not true here id bytes m next is = Nothing (ap (λ (x : Marked). x.seen.items) (same_ok {E = PpFault} next m is)) (ap (λ (x : Marked). x.marks) (same_ok {E = PpFault} next m is))
  enters_or_not false here id bytes m next walks =
      of_entered here (chain_of (inside stores open_file here.number id m.seen).frames) m next
      (inner_chain open_file.frames (record { path = number_of m.seen (inside stores open_file here.number id m.seen).path; line = here.number }) one)
      (enters stores Inner good open_file here.number id bytes m next walks)

  -- by what the search found
  found_file : (here : Line) (name : List ℕ) (m next : Marked) (located : Located) (bytes : List ℕ) →
      IncludesFound stores Inner open_file here.number name m located bytes (Ok next) → Effect (chain_of open_file.frames) here.number m next
  found_file here name m next (Found id) bytes found = enters_or_not (is_once m.seen id) here id bytes m next found
  found_file here name m next Absent bytes is = cc
  found_file here name m next TooLong bytes is = cc
  found_file here name m next Failed bytes is = cc
  found_file here name m next SearchRanOut bytes none = absurd none

  header_found : (more : ℕ) (here : Line) (header : HeaderName) (m next : Marked) → IncludesHeader stores more Inner open_file here.number header m (Ok next) → Effect (chain_of open_file.frames) here.number m next
  header_found zero here header m next is = cc
  header_found (suc more) here header m next (located, bytes, finds, found) = found_file here header.name m next located bytes found

  include_line : (here : Line) (m next : Marked) → DoesInclude stores left Inner open_file here m (Ok next) → Effect (chain_of open_file.frames) here.number m next
  include_line here m next (Goes {s = header} named found) = header_found left here header m next found

  -- a line by its directive
  by_directive : (directive : Directive) (here : Line) (m next : Marked) → DoesBy stores left Inner open_file here directive m (Ok next) → Effect (chain_of open_file.frames) here.number m next
  by_directive Include here m next does = include_line here m next does
  by_directive Define here m next part = does_define open_file (chain_of open_file.frames) here m next (def_of (operands here)) part
  by_directive (Undef name) here m next part = does_undef open_file (chain_of open_file.frames) here m next name part
  by_directive LineNumber here m next part =
      stays open_file (chain_of open_file.frames) here m next (Directs open_file here LineNumber m.seen)
      (λ seen line. ap (λ (s : Seen). s.items) (line_stays (macros m.seen) (here_of open_file here) (operands here) m.seen (Ok seen) line)) part
  by_directive Pragma here m next part =
      stays open_file (chain_of open_file.frames) here m next (Directs open_file here Pragma m.seen)
      (λ seen is. ap (λ (s : Seen). s.items) (same_ok {E = PpKind} seen (pragma_seen open_file (operands here) m.seen) is) ∙ pragma_stays open_file (operands here) m.seen) part
  by_directive Error here m next part = stays open_file (chain_of open_file.frames) here m next (Directs open_file here Error m.seen) (λ seen is. cc) part
  by_directive Unknown here m next part = stays open_file (chain_of open_file.frames) here m next (Directs open_file here Unknown m.seen) (λ seen is. cc) part
  by_directive Text here m next part = stays open_file (chain_of open_file.frames) here m next (Directs open_file here Text m.seen) (λ seen is. ap (λ (s : Seen). s.items) (same_ok {E = PpKind} seen m.seen is)) part
  by_directive Null here m next part = stays open_file (chain_of open_file.frames) here m next (Directs open_file here Null m.seen) (λ seen is. ap (λ (s : Seen). s.items) (same_ok {E = PpKind} seen m.seen is)) part
  by_directive If here m next part = stays open_file (chain_of open_file.frames) here m next (Directs open_file here If m.seen) (λ seen is. ap (λ (s : Seen). s.items) (same_ok {E = PpKind} seen m.seen is)) part
  by_directive (Ifdef name) here m next part =
      stays open_file (chain_of open_file.frames) here m next (Directs open_file here (Ifdef name) m.seen) (λ seen is. ap (λ (s : Seen). s.items) (same_ok {E = PpKind} seen m.seen is)) part
  by_directive (Ifndef name) here m next part =
      stays open_file (chain_of open_file.frames) here m next (Directs open_file here (Ifndef name) m.seen) (λ seen is. ap (λ (s : Seen). s.items) (same_ok {E = PpKind} seen m.seen is)) part
  by_directive Elif here m next part = stays open_file (chain_of open_file.frames) here m next (Directs open_file here Elif m.seen) (λ seen is. ap (λ (s : Seen). s.items) (same_ok {E = PpKind} seen m.seen is)) part
  by_directive Else here m next part = stays open_file (chain_of open_file.frames) here m next (Directs open_file here Else m.seen) (λ seen is. ap (λ (s : Seen). s.items) (same_ok {E = PpKind} seen m.seen is)) part
  by_directive Endif here m next part = stays open_file (chain_of open_file.frames) here m next (Directs open_file here Endif m.seen) (λ seen is. ap (λ (s : Seen). s.items) (same_ok {E = PpKind} seen m.seen is)) part

  does_line : (to : Marked) (here : Line) (lines : List Line) (m next : Marked) → (ways stores left Inner open_file).Does here m (Ok next) →
      Leaves (chain_of open_file.frames) to lines next → Leaves (chain_of open_file.frames) to (here ∷ lines) m
  does_line to here lines m next does leaves =
      with_effect open_file to here lines m next (by_directive (directive_of here.tokens) here (marked open_file.frames (Some here.number) m) next does) leaves

  passes_line : (to : Marked) (here : Line) (lines : List Line) (m : Marked) → Leaves (chain_of open_file.frames) to lines (marked open_file.frames (Some here.number) m) → Leaves (chain_of open_file.frames) to (here ∷ lines) m
  passes_line to here lines m leaves = silent (chain_of open_file.frames) to here lines m (marked open_file.frames (Some here.number) m) refl refl leaves

  -- lines that are broken never end without a fault
  broken : (lines : List (CondLine Line)) (m next : Marked) (number : ℕ) (fault : StructFault) → FollowsBroken (ways stores left Inner open_file) lines m number fault (Ok next) → ⊥
  broken lines m next number fault (Completed ending n tree parses follows) = stop follows
    where
      stop : Then (Follows (ways stores left Inner open_file) tree m) (λ t q. q ≡ Err (fault_at open_file number (Struct fault))) (Ok next) → ⊥
      stop (Goes {s = s} go is) = cc

  roles_off : (lines : List Line) → onto (with_roles lines) [] ≡ lines
  roles_off [] = refl
  roles_off (here ∷ lines) = ap (λ (list : List Line). here ∷ list) (roles_off lines)

  file_lines : (lines : List Line) (m to : Marked) → FollowsFile (ways stores left Inner open_file) (with_roles lines) m (Ok to) → Leaves (chain_of open_file.frames) to lines m
  file_lines lines m to (Whole tree parses follows) =
      subst (λ (list : List Line). Leaves (chain_of open_file.frames) to list m) (ap (λ (list : List (CondLine Line)). onto list []) parses ∙ roles_off lines)
      (of_group (ways stores left Inner open_file) (chain_of open_file.frames) to (passes_line to) (does_line to) tree m to [] follows (nothing (chain_of open_file.frames) to))
  file_lines lines m to (Broken before after here fault split is stop) = absurd (broken before m to here.item.number fault stop)
  file_lines lines m to (Unclosed number is stop) = absurd (broken (with_roles lines) m to number OpenIf stop)

  -- the end of a file
  file_ends : (number : ℕ) (last next : Marked) (answer : Result Seen PpKind) → added last.seen End ≡ answer →
      ◌≡◌ {A = Result Marked PpFault} (Ok next) (placed open_file number (keeping_marks (marked open_file.frames None last) answer)) →
      (next.seen.items ≡ last.seen.items ++ End ∷ []) × (next.marks ≡ last.marks ++ mark (chain_of open_file.frames) None (length last.seen.items) ∷ [])
  file_ends number last next (Ok seen) more is =
      let to : next ≡ with_seen (marked open_file.frames None last) seen = same_ok {E = PpFault} next (with_seen (marked open_file.frames None last) seen) is in
      (ap (λ (x : Marked). x.seen.items) to ∙ added_one last.seen seen End more, ap (λ (x : Marked). x.marks) to)
  file_ends number last next (Err kind) more is = cc

  bytes_walked : (bytes : List ℕ) (m next : Marked) → WalksBytes stores left Inner open_file bytes m (Ok next) → FileLeaves (chain_of open_file.frames) m next
  bytes_walked bytes m next (Unlexed fault lexes answers is) = cc
  bytes_walked bytes m next (Followed lines lexes follows) = by follows
    where
      by : Then (FollowsFile (ways stores left Inner open_file) (with_roles lines) m) (λ t q. q ≡ ended open_file lines t) (Ok next) → FileLeaves (chain_of open_file.frames) m next
      by (Goes {s = last} follows is) =
          let end = file_ends _ last next (added last.seen End) refl is in
          ends (chain_of open_file.frames) lines m last next (file_lines lines m last follows) (numbers-rise bytes lines lexes) end.0 end.1

-- the walk of a file, however many files may be opened
pub all_good : (stores : Stores) (left : ℕ) → IsGood (Walks stores left)
unfolding Walks
all_good stores zero open_file bytes m next one none = absurd none
all_good stores (suc left) open_file bytes m next one walks = bytes_walked stores left (Walks stores left) (all_good stores left) open_file one bytes m next walks
