-- The walk of a translation unit over stores that tell their files has one answer on the files.
use Rattle.std.proofs.Common.{◌≡◌, ℕ, zero, suc, List, [], ◌∷◌, length, Result, Ok, Err, refl, sym, ap, ◌∙◌, subst, None, Some}
use Rattle.mac_io.specs.Search.{Finds, candidates}
use Rattle.mac_io.specs.SearchLaws.{AreTold}
use Rattle.mac_io.specs.SearchLaws.{IsOnFiles as IsFoundOnFiles}
use Rattle.mac_io.specs.declared.headers.FileId.{FileId}
use Rattle.mac_io.specs.declared.headers.Located.{Located}
use Rattle.mac_io.specs.declared.headers.Located.TheVariants.{Found, Absent, TooLong, Failed, NoMemory as SearchRanOut}
use Rattle.mac_io.proofs.OneSearchLemmas.{one_answer}
use Rattle.pp_tokens.specs.declared.line.Line.{Line}
use Rattle.pp_tokens.specs.declared.fault.LexFault.{LexFault}
use Rattle.pp_tokens.specs.Cut.{LexesFile}
use Rattle.pp_tokens.specs.Laws.{IsAnswer}
use Rattle.pp_tokens.proofs.UniqueLemmas.{file-unique}
use Rattle.pp_tokens.proofs.ExistLemmas.{file-lexed}
use Rattle.mac_base.specs.Items.{End}
use Rattle.pp_directives.specs.declared.directive.Directive.{Directive}
use Rattle.pp_directives.specs.declared.directive.Directive.TheVariants.{Text, Null, If, Ifdef, Ifndef, Elif, Else, Endif, Include, Define, Undef, LineNumber, Error, Pragma, Unknown}
use Rattle.pp_directives.specs.Directives.{directive_of}
use Rattle.pp_directives.specs.Following.{Then, FollowsFile}
use Rattle.pp_directives.proofs.ThenLemmas.{same_err}
use Rattle.pp_unit.specs.declared.open_file.OpenFile.{OpenFile}
use Rattle.pp_unit.specs.declared.directives.header.HeaderName.{HeaderName}
use Rattle.pp_unit.specs.declared.request.UnitSpec.{UnitSpec}
use Rattle.pp_unit.specs.declared.fault.PpFault.{PpFault}
use Rattle.pp_unit.specs.declared.fault.PpKind.{PpKind}
use Rattle.pp_unit.specs.declared.fault.PpKind.TheVariants.{Lex, Def, Expr, Expand, Struct, NoMemory, Predefined, Redefined, NoSuchFile, BadInclude, IncludeDepth, ErrorDirective, BadLine, SourceTooLong, TooManyEvents, TooMuchText, StoreFault, Directive as BadDirective}
use Rattle.pp_unit.specs.Kinds.{fault_at, placed}
use Rattle.pp_unit.specs.Seen.{Marked, added, started, is_once, macros, marked}
use Rattle.pp_unit.specs.Definitions.{all_commanded, predefined}
use Rattle.pp_unit.specs.HeaderNames.{NamesHeader}
use Rattle.pp_unit.specs.LineConditions.{operands, here_of, HasAnswer}
use Rattle.pp_unit.specs.Lines.{Directs}
use Rattle.pp_unit.specs.Files.{Stores, FileWalk, Part, inside, Enters, IncludesFound, Includes, IncludesHeader, DoesInclude, DoesBy, ways, with_roles, last_number, ended, fault_line, WalksBytes, Unlexed, Followed, Walks}
use Rattle.pp_unit.specs.Walk.{open_limit, outside, Walk}
use Rattle.pp_unit.specs.WalkLaws.{TellFiles, IsOnFiles, IsPlain, HasOneOnFiles, WalkHasOneAnswer}
use Rattle.pp_unit.proofs.OneGoodLemmas.{Good, One, equal_one, chosen_one, then_one, file_one}
use Rattle.pp_unit.proofs.OnePartLemmas.{Free, FreeFault, Plain, PlainFault, placed_one, part_one, kept_good, added_good, started_good, all_commanded_good, question_one, header_one, directs_one}
use Rattle.pp_unit.proofs.OneFindLemmas.{IsTold, all_one, reached_told, candidates_told, found, store_told}

-- exactly one answer that is no failure of a store
abbrev Walked : (Result Marked PpFault → Type 0) → Type 0
Walked P = One FreeFault PlainFault P

module _ (stores : Stores) (tell : TellFiles stores) where
  -- the walk of each file in a store that tells
  abbrev IsOneWalk : FileWalk → Type 0
  IsOneWalk Inner = (open_file : OpenFile) → IsTold stores open_file.id → (bytes : List ℕ) (m : Marked) → Walked (Inner open_file bytes m)

  -- the same, where at least one file may still be opened
  abbrev IsOneWithin : ℕ → FileWalk → Type 0
  IsOneWithin zero Inner = Unit {0}
  IsOneWithin (suc left) Inner = IsOneWalk Inner

  module _ (Inner : FileWalk) (inner : IsOneWalk Inner) (outer : OpenFile) (number : ℕ) where
    enters_one : (id : FileId) (bytes : List ℕ) (m : Marked) → IsTold stores id → Walked (Enters stores Inner outer number id bytes m)
    enters_one id bytes m told =
        let open_file = inside stores outer number id m.seen in
        then_one FreeFault PlainFault (Part outer number (λ answer. answer ≡ started m.seen number open_file.path) m) (Inner open_file bytes)
        (part_one outer number (λ answer. answer ≡ started m.seen number open_file.path) m (equal_one Free Plain (started m.seen number open_file.path) (started_good m.seen number open_file.path)))
        (inner open_file told bytes)

    module _ (name : List ℕ) (ids : List FileId) (told : AreTold stores ids) (m : Marked) where
      found_one : (located : Located) (bytes : List ℕ) → IsFoundOnFiles located → Finds stores ids located [] bytes → Walked (IncludesFound stores Inner outer number name m located bytes)
      found_one (Found id) bytes on finds =
          chosen_one FreeFault PlainFault (λ q. q ≡ Ok m) (Enters stores Inner outer number id bytes m) (is_once m.seen id) (equal_one FreeFault PlainFault (Ok m) tt)
          (enters_one id bytes m (reached_told stores ids id told finds.0))
      found_one Absent bytes on finds = equal_one FreeFault PlainFault (Err (fault_at outer number (NoSuchFile name))) (λ e. cc, tt)
      found_one TooLong bytes on finds = equal_one FreeFault PlainFault (Err (fault_at outer number (SourceTooLong name))) (λ e. cc, tt)
      found_one Failed bytes on finds = absurd on
      found_one SearchRanOut bytes on finds = absurd on

      -- what was found was found on the files
      on_files : (located : Located) (bytes : List ℕ) (r : Result Marked PpFault) → Good FreeFault r → IncludesFound stores Inner outer number name m located bytes r → IsFoundOnFiles located
      on_files (Found id) bytes r good is = tt
      on_files Absent bytes r good is = tt
      on_files TooLong bytes r good is = tt
      on_files Failed bytes r good is = let bad : FreeFault (fault_at outer number StoreFault) = subst (Good FreeFault) is good in bad refl
      on_files SearchRanOut bytes r good is = is

      includes_one : Walked (Includes stores Inner outer number name ids m)
      includes_one =
          let some = found stores ids told in
          let one = found_one some.0 some.1 some.2 some.3 in
          record {
            answer = one.answer;
            good = one.good;
            holds = (some.0, some.1, some.3, one.holds);
            only = λ r good h.
                let same = one_answer stores ids told h.0 some.0 [] h.1 some.1 (on_files h.0 h.1 r good h.3) some.2 h.2 some.3 in
                one.only r good
                (subst (λ (l : Located). IncludesFound stores Inner outer number name m l some.1 r) same.0
                (subst (λ (b : List ℕ). IncludesFound stores Inner outer number name m h.0 b r) same.1 h.3));
          }

  -- the lines of a file in which so many files may still be opened
  module _ (left : ℕ) (Inner : FileWalk) (inner : IsOneWithin left Inner) (open_file : OpenFile) (at : IsTold stores open_file.id) where
    header_by : (n : ℕ) → IsOneWithin n Inner → (number : ℕ) (header : HeaderName) (m : Marked) → Walked (IncludesHeader stores n Inner open_file number header m)
    header_by zero inner number header m = equal_one FreeFault PlainFault (Err (fault_at open_file number IncludeDepth)) (λ e. cc, tt)
    header_by (suc n) inner number header m =
        includes_one Inner inner open_file number header.name (candidates (length stores) open_file.id header.form header.name)
        (candidates_told stores open_file.id header.form header.name tell at) m

    include_one : (here : Line) (m : Marked) → Walked (DoesInclude stores left Inner open_file here m)
    include_one here m =
        then_one FreeFault PlainFault (λ (r : Result HeaderName PpFault). (answer : Result HeaderName PpKind) × NamesHeader (macros m.seen) (here_of open_file here) (operands here) answer × (r ≡ placed open_file here.number answer))
        (λ header. IncludesHeader stores left Inner open_file here.number header m)
        (placed_one open_file here.number (NamesHeader (macros m.seen) (here_of open_file here) (operands here)) (header_one (macros m.seen) (here_of open_file here) (operands here)))
        (λ header. header_by left inner here.number header m)

    other_one : (here : Line) (directive : Directive) (m : Marked) → Walked (Part open_file here.number (Directs open_file here directive m.seen) m)
    other_one here directive m = part_one open_file here.number (Directs open_file here directive m.seen) m (directs_one open_file here directive m.seen)

    does_one : (here : Line) (directive : Directive) (m : Marked) → Walked (DoesBy stores left Inner open_file here directive m)
    does_one here Include m = include_one here m
    does_one here Text m = other_one here Text m
    does_one here Null m = other_one here Null m
    does_one here If m = other_one here If m
    does_one here (Ifdef name) m = other_one here (Ifdef name) m
    does_one here (Ifndef name) m = other_one here (Ifndef name) m
    does_one here Elif m = other_one here Elif m
    does_one here Else m = other_one here Else m
    does_one here Endif m = other_one here Endif m
    does_one here Define m = other_one here Define m
    does_one here (Undef name) m = other_one here (Undef name) m
    does_one here LineNumber m = other_one here LineNumber m
    does_one here Error m = other_one here Error m
    does_one here Pragma m = other_one here Pragma m
    does_one here Unknown m = other_one here Unknown m

    lines_one : (lines : List Line) (m : Marked) → Walked (FollowsFile (ways stores left Inner open_file) (with_roles lines) m)
    lines_one lines m =
        file_one FreeFault PlainFault (ways stores left Inner open_file)
        (λ here s. does_one here (directive_of here.tokens) (marked open_file.frames (Some here.number) s))
        (λ here s. placed_one open_file here.number (HasAnswer open_file here s.seen) (question_one open_file here s.seen))
        (λ fault number plain. (λ e. cc, plain))
        (with_roles lines) m

    end_one : (lines : List Line) (m : Marked) → Walked (λ q. q ≡ ended open_file lines m)
    end_one lines m =
        let end = marked open_file.frames None m in
        equal_one FreeFault PlainFault (ended open_file lines m) (kept_good open_file (last_number 0 lines) end (added m.seen End) (added_good m.seen End))

    lex_ok : (a b : List Line) → ◌≡◌ {A = Result (List Line) LexFault} (Ok a) (Ok b) → a ≡ b
    lex_ok a b is = cc

    unlexed_only : (bytes : List ℕ) (m : Marked) (fault : LexFault) → IsAnswer {A = List Line} (Err fault) → LexesFile bytes (Err fault) → (r : Result Marked PpFault) → WalksBytes stores left Inner open_file bytes m r → r ≡ Err (fault_at open_file (fault_line fault) (Lex fault))
    unlexed_only bytes m fault answer lexes r (Unlexed other lexed also is) =
        is ∙ ap (λ (f : LexFault). Err (fault_at open_file (fault_line f) (Lex f))) (same_err {A = List Line} other fault (file-unique bytes (Err other) (Err fault) also answer lexed lexes))
    unlexed_only bytes m fault answer lexes r (Followed lines lexed goes) =
        let e : ◌≡◌ {A = Result (List Line) LexFault} (Ok lines) (Err fault) = file-unique bytes (Ok lines) (Err fault) tt answer lexed lexes in cc

    followed_only : (bytes : List ℕ) (m : Marked) (lines : List Line) → LexesFile bytes (Ok lines) → (one : Walked (Then (FollowsFile (ways stores left Inner open_file) (with_roles lines) m) (λ t q. q ≡ ended open_file lines t))) →
        (r : Result Marked PpFault) → Good FreeFault r → WalksBytes stores left Inner open_file bytes m r → r ≡ one.answer
    followed_only bytes m lines lexes one r good (Unlexed fault lexed also is) =
        let e : ◌≡◌ {A = Result (List Line) LexFault} (Err fault) (Ok lines) = file-unique bytes (Err fault) (Ok lines) also tt lexed lexes in cc
    followed_only bytes m lines lexes one r good (Followed others lexed goes) =
        one.only r good
        (subst (λ (ls : List Line). Then (FollowsFile (ways stores left Inner open_file) (with_roles ls) m) (λ t q. q ≡ ended open_file ls t) r)
        (lex_ok others lines (file-unique bytes (Ok others) (Ok lines) tt tt lexed lexes)) goes)

    bytes_by : (bytes : List ℕ) (m : Marked) (answer : Result (List Line) LexFault) → IsAnswer answer → LexesFile bytes answer → Walked (WalksBytes stores left Inner open_file bytes m)
    bytes_by bytes m (Err fault) answer lexes = record {
      answer = Err (fault_at open_file (fault_line fault) (Lex fault));
      good = (λ e. cc, λ e. subst (λ (f : LexFault). IsAnswer {A = List Line} (Err f)) e answer);
      holds = Unlexed fault lexes answer refl;
      only = λ r good walks. unlexed_only bytes m fault answer lexes r walks;
    }
    bytes_by bytes m (Ok lines) answer lexes =
        let one = then_one FreeFault PlainFault (FollowsFile (ways stores left Inner open_file) (with_roles lines) m) (λ t q. q ≡ ended open_file lines t) (lines_one lines m) (end_one lines) in
        record {
          answer = one.answer;
          good = one.good;
          holds = Followed lines lexes one.holds;
          only = followed_only bytes m lines lexes one;
        }

    bytes_one : (bytes : List ℕ) (m : Marked) → Walked (WalksBytes stores left Inner open_file bytes m)
    bytes_one bytes m = let lexes = file-lexed bytes in bytes_by bytes m lexes.answer lexes.plain lexes.said

  -- files within files
  walks_one : (left : ℕ) → IsOneWalk (Walks stores (suc left))
  unfolding Walks
  walks_one zero open_file at bytes m = bytes_one zero (Walks stores zero) tt open_file at bytes m
  walks_one (suc left) open_file at bytes m = bytes_one (suc left) (Walks stores (suc left)) (walks_one left) open_file at bytes m

  walk_one : (spec : UnitSpec) → Walked (Walk stores spec)
  walk_one spec =
      then_one FreeFault PlainFault (Part outside 0 (λ answer. answer ≡ all_commanded predefined spec.commands) (record { seen = predefined; marks = [] }))
      (Includes stores (Walks stores open_limit) outside 0 spec.source (record { store = 0; name = spec.source } ∷ []))
      (part_one outside 0 (λ answer. answer ≡ all_commanded predefined spec.commands) (record { seen = predefined; marks = [] }) (equal_one Free Plain (all_commanded predefined spec.commands) (all_commanded_good spec.commands predefined)))
      (includes_one (Walks stores open_limit) (walks_one 199) outside 0 spec.source (record { store = 0; name = spec.source } ∷ []) (all_one (IsTold stores) (record { store = 0; name = spec.source }) (store_told stores tell 0 spec.source tell.some)))

on_files_good : (r : Result Marked PpFault) → IsOnFiles r → Good FreeFault r
on_files_good (Ok m) on = on
on_files_good (Err fault) on = on

good_on_files : (r : Result Marked PpFault) → Good PlainFault r → IsOnFiles r
good_on_files (Ok m) good = good
good_on_files (Err fault) good = good.0

-- a kind that is plain, if it is no failure of a store
plain_by : (kind : PpKind) → (Free kind → IsPlain kind) → IsPlain kind
plain_by (Lex fault) h = h (λ e. cc)
plain_by (Def fault) h = h (λ e. cc)
plain_by (Expr fault) h = h (λ e. cc)
plain_by (Expand fault) h = h (λ e. cc)
plain_by (Struct fault) h = h (λ e. cc)
plain_by NoMemory h = h (λ e. cc)
plain_by (Predefined name) h = tt
plain_by (Redefined name) h = tt
plain_by (BadDirective fault) h = tt
plain_by (NoSuchFile name) h = tt
plain_by BadInclude h = tt
plain_by IncludeDepth h = tt
plain_by ErrorDirective h = tt
plain_by BadLine h = tt
plain_by (SourceTooLong name) h = tt
plain_by TooManyEvents h = tt
plain_by TooMuchText h = tt
plain_by StoreFault h = tt

one_on_files : (P : Result Marked PpFault → Type 0) → Walked P → HasOneOnFiles P
one_on_files P one = record {
  some = (one.answer, good_on_files one.answer one.good, one.holds);
  at_most = λ r q on also p too. one.only r (on_files_good r on) p ∙ sym (one.only q (on_files_good q also) too);
  plain = λ fault p. plain_by fault.what (λ free. let good : Good {S = Marked} PlainFault (Err fault) = subst (Good PlainFault) (sym (one.only (Err fault) free p)) one.good in good.1);
}

pub walk_one_answer : WalkHasOneAnswer
walk_one_answer stores spec tell = one_on_files (Walk stores spec) (walk_one stores tell spec)
