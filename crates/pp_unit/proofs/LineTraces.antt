-- What one line of a taken group leaves.
use Rattle.std.proofs.Common.{◌≡◌, ℕ, suc, ◌+◌, Bool, true, false, cond, List, [], ◌∷◌, ◌++◌, length, Option, Some, None, Result, Ok, Err, refl, sym, ap, ◌∙◌, append_assoc, length-append, arith}
use Rattle.std.proofs.lemmas.List.{map-append}
use Rattle.std.specs.Prelude.{nat_le, nat_lt}
use Rattle.mac_base.proofs.Choices.{same_ok, guarded_not}
use Rattle.mac_base.specs.declared.frames.Frame.{Frame}
use Rattle.mac_io.specs.declared.headers.FileId.{FileId}
use Rattle.pp_tokens.specs.declared.line.Line.{Line}
use Rattle.pp_tokens.specs.declared.token.Token.{Token}
use Rattle.macro_table.specs.declared.fault.DefFault.{DefFault}
use Rattle.macro_table.specs.Definitions.{DefValue}
use Rattle.macro_table.specs.Texts.{text_of}
use Rattle.mac_base.specs.Items.{Item, Define, Undef, Start, End}
use Rattle.macro_expand.specs.declared.here.Here.{Here}
use Rattle.macro_expand.specs.Macros.{Macros}
use Rattle.pp_directives.specs.Following.{Goes}
use Rattle.pp_unit.specs.declared.open_file.OpenFile.{OpenFile}
use Rattle.pp_unit.specs.declared.fault.PpFault.{PpFault}
use Rattle.pp_unit.specs.declared.fault.PpKind.{PpKind}
use Rattle.pp_unit.specs.declared.fault.PpKind.TheVariants.{Predefined, Redefined, TooManyEvents, TooMuchText, BadLine}
use Rattle.pp_unit.specs.Seen.{Seen, Marked, table, text_in, text_length, texts_length, event_limit, text_limit, added, started, number_of, place_of, with_path, chain_of, with_seen}
use Rattle.pp_unit.specs.Definitions.{is_predefined, conflicts, defined, undefined, defined_by}
use Rattle.pp_unit.specs.LineNumbers.{is_line, HasLine, Stands, Fails, Expands}
use Rattle.pp_unit.specs.Lines.{is_once_pragma, pragma_seen, undefined_by}
use Rattle.pp_unit.specs.Files.{Stores, FileWalk, Part, inside, Enters}
use Rattle.pp_unit.proofs.Traces.{Trace, items_onto, size, mark, marks_onto, Rises}
use Rattle.pp_unit.proofs.LeavesLemmas.{FileLeaves}

-- one entry more
pub added_one : (seen next : Seen) (item : Item ℕ) → added seen item ≡ Ok next → next.items ≡ seen.items ++ item ∷ []
added_one seen next item is =
    let more : Seen = record seen { items = seen.items ++ item ∷ [] } in
    let few = guarded_not (nat_le event_limit (length seen.items)) (cond (nat_lt text_limit (texts_length seen.items + text_length item)) (Err TooMuchText) (Ok more)) next TooManyEvents is in
    let short = guarded_not (nat_lt text_limit (texts_length seen.items + text_length item)) (Ok more) next TooMuchText few.1 in
    ap (λ (s : Seen). s.items) (sym (same_ok {E = PpKind} more next short.1))

pub defined_one : (seen next : Seen) (n : ℕ) (def : DefValue) → defined seen n def ≡ Ok next → next.items ≡ seen.items ++ Define n (text_of def) ∷ []
defined_one seen next n def is =
    let free = guarded_not (is_predefined def.name) (cond (conflicts (text_in (table seen) def.name) def) (Err (Redefined def.name)) (added seen (Define n (text_of def)))) next (Predefined def.name) is in
    let fits = guarded_not (conflicts (text_in (table seen) def.name) def) (added seen (Define n (text_of def))) next (Redefined def.name) free.1 in
    added_one seen next (Define n (text_of def)) fits.1

pub undefined_one : (seen next : Seen) (n : ℕ) (name : List ℕ) → undefined seen n name ≡ Ok next → next.items ≡ seen.items ++ Undef n name ∷ []
undefined_one seen next n name is =
    let free = guarded_not (is_predefined name) (added seen (Undef n name)) next (Predefined name) is in
    added_one seen next (Undef n name) free.1

-- what a line leaves, from the state after its mark; an inclusion as the file that it opens
pub data Effect (c : List ℕ) (n : ℕ) (m next : Marked) : Type 0 where
  Nothing : next.seen.items ≡ m.seen.items → next.marks ≡ m.marks → Effect c n m next
  Definition : (text : List ℕ) → next.seen.items ≡ m.seen.items ++ Define n text ∷ [] → next.marks ≡ m.marks → Effect c n m next
  Removal : (name : List ℕ) → next.seen.items ≡ m.seen.items ++ Undef n name ∷ [] → next.marks ≡ m.marks → Effect c n m next
  Inclusion : (path : ℕ) (inner : Trace) → Rises 0 inner → next.seen.items ≡ m.seen.items ++ Start n path ∷ items_onto inner (End ∷ []) →
      next.marks ≡ m.marks ++ marks_onto (c ++ n ∷ []) (suc (length m.seen.items)) inner (mark (c ++ n ∷ []) None (suc (length m.seen.items) + size inner) ∷ []) → Effect c n m next

-- what a part came to that ended without a fault
pub record PartEnds (Gives : Result Seen PpKind → Type 0) (m next : Marked) : Type 0 where
  pub seen : Seen
  pub gives : Gives (Ok seen)
  pub is : next ≡ with_seen m seen

pub part_ends : (open_file : OpenFile) (n : ℕ) (Gives : Result Seen PpKind → Type 0) (m next : Marked) → Part open_file n Gives m (Ok next) → PartEnds Gives m next
part_ends open_file n Gives m next (Ok seen, gives, is) = record { seen = seen; gives = gives; is = same_ok {E = PpFault} next (with_seen m seen) is }
part_ends open_file n Gives m next (Err kind, gives, is) = cc

module _ (open_file : OpenFile) (c : List ℕ) (here : Line) (m next : Marked) where
  -- a part that leaves the entries as they are
  pub stays : (Gives : Result Seen PpKind → Type 0) → ((seen : Seen) → Gives (Ok seen) → seen.items ≡ m.seen.items) →
      Part open_file here.number Gives m (Ok next) → Effect c here.number m next
  stays Gives same part =
      let end = part_ends open_file here.number Gives m next part in
      Nothing (ap (λ (x : Marked). x.seen.items) end.is ∙ same end.seen end.gives) (ap (λ (x : Marked). x.marks) end.is)

  defined_text : (def : Result DefValue DefFault) (seen : Seen) → ◌≡◌ {A = Result Seen PpKind} (Ok seen) (defined_by m.seen here.number def) → (text : List ℕ) × (seen.items ≡ m.seen.items ++ Define here.number text ∷ [])
  defined_text (Ok def) seen is = (text_of def, defined_one m.seen seen here.number def (sym is))
  defined_text (Err fault) seen is = cc

  pub does_define : (def : Result DefValue DefFault) → Part open_file here.number (λ answer. answer ≡ defined_by m.seen here.number def) m (Ok next) → Effect c here.number m next
  does_define def part =
      let end = part_ends open_file here.number (λ answer. answer ≡ defined_by m.seen here.number def) m next part in
      let one = defined_text def end.seen end.gives in
      Definition one.0 (ap (λ (x : Marked). x.seen.items) end.is ∙ one.1) (ap (λ (x : Marked). x.marks) end.is)

  removed_name : (name : Option (List ℕ)) (seen : Seen) → ◌≡◌ {A = Result Seen PpKind} (Ok seen) (undefined_by m.seen here.number name) → (text : List ℕ) × (seen.items ≡ m.seen.items ++ Undef here.number text ∷ [])
  removed_name (Some name) seen is = (name, undefined_one m.seen seen here.number name (sym is))
  removed_name None seen is = cc

  pub does_undef : (name : Option (List ℕ)) → Part open_file here.number (λ answer. answer ≡ undefined_by m.seen here.number name) m (Ok next) → Effect c here.number m next
  does_undef name part =
      let end = part_ends open_file here.number (λ answer. answer ≡ undefined_by m.seen here.number name) m next part in
      let one = removed_name name end.seen end.gives in
      Removal one.0 (ap (λ (x : Marked). x.seen.items) end.is ∙ one.1) (ap (λ (x : Marked). x.marks) end.is)

-- a `#line` leaves the state as it is
abbrev pub IsSame : Seen → Result Seen PpKind → Type 0
IsSame seen (Ok next) = next ≡ seen
IsSame seen (Err kind) = Unit {0}

line_same : (seen : Seen) (fits : Bool) → IsSame seen (cond fits (Ok seen) (Err BadLine))
line_same seen true = refl
line_same seen false = tt

pub line_stays : (macros : Macros) (place : Here) (tokens : List Token) (seen : Seen) (answer : Result Seen PpKind) → HasLine macros place tokens seen answer → IsSame seen answer
line_stays macros place tokens seen _ (Stands fits) = refl
line_stays macros place tokens seen _ (Fails fits expands) = tt
line_stays macros place tokens seen _ (Expands {list = list} fits expands) = line_same seen (is_line list)

-- a pragma leaves the entries as they are
pub pragma_stays : (open_file : OpenFile) (tokens : List Token) (seen : Seen) → (pragma_seen open_file tokens seen).items ≡ seen.items
pragma_stays open_file tokens seen = by (is_once_pragma tokens)
  where
    by : (once : Bool) → (cond once (record seen { once = seen.once ++ open_file.id ∷ [] }) seen).items ≡ seen.items
    by true = refl
    by false = refl

-- some file is open
abbrev pub IsOpen : List Frame → Type 0
IsOpen [] = ⊥
IsOpen (frame ∷ frames) = Unit {0}

pub is_open : (frames : List Frame) (frame : Frame) → IsOpen (frames ++ frame ∷ [])
is_open [] frame = tt
is_open (other ∷ frames) frame = tt

-- the chain of a file that an open file includes
pub inner_chain : (frames : List Frame) (frame : Frame) → IsOpen frames → chain_of (frames ++ frame ∷ []) ≡ chain_of frames ++ frame.line ∷ []
inner_chain [] frame none = absurd none
inner_chain (first ∷ frames) frame one = map-append (λ (f : Frame). f.line) frames (frame ∷ [])

-- the walks of files of some kind leave what files leave
abbrev pub IsGood : FileWalk → Type 0
IsGood Inner = (open_file : OpenFile) (bytes : List ℕ) (m next : Marked) → IsOpen open_file.frames → Inner open_file bytes m (Ok next) → FileLeaves (chain_of open_file.frames) m next

module _ (stores : Stores) (Inner : FileWalk) (good : IsGood Inner) (outer : OpenFile) (n : ℕ) where
  -- a file that is entered
  pub record Entered (c : List ℕ) (m next : Marked) : Type 0 where
    pub path : ℕ
    pub inner : Trace
    pub rises : Rises 0 inner
    pub items : next.seen.items ≡ m.seen.items ++ Start n path ∷ items_onto inner (End ∷ [])
    pub marks : next.marks ≡ m.marks ++ marks_onto c (suc (length m.seen.items)) inner (mark c None (suc (length m.seen.items) + size inner) ∷ [])

  begins : (id : FileId) (bytes : List ℕ) (m middle next : Marked) →
      PartEnds (λ answer. answer ≡ started m.seen n (inside stores outer n id m.seen).path) m middle →
      FileLeaves (chain_of (inside stores outer n id m.seen).frames) middle next → Entered (chain_of (inside stores outer n id m.seen).frames) m next
  begins id bytes m middle next begin leaves =
      let open_file = inside stores outer n id m.seen in
      let c = chain_of open_file.frames in
      let path = number_of m.seen open_file.path in
      let named : Seen = record m.seen { files = with_path m.seen.files open_file.path (place_of m.seen open_file.path) } in
      let first : middle.seen.items ≡ m.seen.items ++ Start n path ∷ [] = ap (λ (x : Marked). x.seen.items) begin.is ∙ added_one named begin.seen (Start n path) (sym begin.gives) in
      let long : length middle.seen.items ≡ suc (length m.seen.items) = ap (λ (list : List (Item ℕ)). length list) first ∙ length-append m.seen.items (Start n path ∷ []) ∙ omega arith in
      record {
        path = path;
        inner = leaves.trace;
        rises = leaves.rises;
        items = leaves.items ∙ ap (λ (list : List (Item ℕ)). list ++ items_onto leaves.trace (End ∷ [])) first ∙ append_assoc m.seen.items (Start n path ∷ []) (items_onto leaves.trace (End ∷ []));
        marks =
            leaves.marks
            ∙ (λ i. ap (λ (x : Marked). x.marks) begin.is i ++ marks_onto c (long i) leaves.trace (mark c None (long i + size leaves.trace) ∷ []));
      }

  pub enters : (id : FileId) (bytes : List ℕ) (m next : Marked) → Enters stores Inner outer n id bytes m (Ok next) → Entered (chain_of (inside stores outer n id m.seen).frames) m next
  enters id bytes m next (Goes {s = middle} begin walks) =
      let open_file = inside stores outer n id m.seen in
      begins id bytes m middle next
      (part_ends outer n (λ answer. answer ≡ started m.seen n open_file.path) m middle begin)
      (good open_file bytes middle next (is_open outer.frames (record { path = number_of m.seen open_file.path; line = n })) walks)
