-- What was read of a unit, while its entries are read on, and while paths and units are put behind.
use Rattle.std.proofs.Common.{◌≡◌, ℕ, ◌+◌, ◌<◌, Bool, true, false, cond, eqb, List, [], ◌∷◌, ◌++◌, length, Option, Some, None, Ok, refl, ap, subst, sym, ◌∙◌, arith, length-append}
use Rattle.std.proofs.lemmas.Bool.{eqb-true}
use Rattle.std.proofs.lemmas.List.{append-nil}
use Rattle.mac_base.specs.Input.{Input}
use Rattle.mac_base.specs.SectionBytes.{SectionBytes}
use Rattle.mac_base.proofs.InputLemmas.{between_none, between_both}
use Rattle.unit_header.specs.declared.header.Header.{Header as HeldHeader}
use Rattle.unit_header.specs.Header.{Header, header_of}
use Rattle.unit_header.specs.Reading.{header_at}
use Rattle.unit_header.proofs.HeaderLemmas.{header_takes}
use Rattle.macro_opcodes.specs.Entry.{Entry}
use Rattle.macro_opcodes.specs.Reading.{entry_at}
use Rattle.macro_opcodes.proofs.EntryLemmas.{entry_takes}
use Rattle.macro_opcodes.proofs.UnitLemmas.{are_more, unit_spelled}
use Rattle.mac_base.specs.Items.{Item}
use Rattle.import_graph.specs.declared.meaning.FileRange.{FileRange}
use Rattle.import_graph.specs.declared.node.Link.{Link}
use Rattle.import_graph.specs.declared.node.Link.TheVariants.{Own, Import}
use Rattle.import_graph.specs.declared.node.NodeId.{NodeId}
use Rattle.import_graph.specs.declared.spliced.Spliced.{Spliced as HeldSpliced}
use Rattle.import_graph.specs.declared.unit.OpenUnit.{OpenUnit}
use Rattle.import_graph.specs.Meaning.{Lent, Plain, Imports, Nothing, meaning}
use Rattle.import_graph.specs.Numbers.{item_of, named_item, paths_of, Fits}
use Rattle.import_graph.specs.Units.{Reader, unit_paths}
use Rattle.import_graph.specs.Splice.{Splice, Unit as Whole}
use Rattle.import_graph.specs.Nodes.{items_at, items_of, AreNumbered}
use Rattle.import_graph.specs.Graph.{named}
use Rattle.import_graph.specs.Turns.{together, IsSameUnit}
use Rattle.import_graph.specs.Progress.{Begins, ReadUpTo, IsRead, IsReadOf}
use Rattle.import_graph.proofs.RangeLemmas.{range_kept, fits_kept}
use Rattle.import_graph.proofs.SpliceLemmas.{begins_none, begins_own, begins_silent, begins_import, begins_all}
use Rattle.import_graph.proofs.NodeLemmas.{items_kept, below_wider, below_own, items_more, numbered_wider, numbered_both, named_kept, named_both}

pub paths_kept : (paths more : List (List ℕ)) (files : Option FileRange) → Fits paths files → paths_of (paths ++ more) files ≡ paths_of paths files
paths_kept paths more None fits = refl
paths_kept paths more (Some range) fits = ap Some (range_kept paths more range fits)

pub fits_wider : (paths more : List (List ℕ)) (files : Option FileRange) → Fits paths files → Fits (paths ++ more) files
fits_wider paths more None fits = tt
fits_wider paths more (Some range) fits = fits_kept paths more range fits

-- counts that stop rising behind the most entries
count_more : (a b x y z : ℕ) → a ≡ together 0 x → b ≡ together 0 y → z ≡ x + y → together a b ≡ together 0 z
count_more a b x y z first second sum = omega (arith, first, second, sum)

none_counted : (n x : ℕ) → n ≡ 0 → n ≡ together 0 x → x ≡ 0
none_counted n x none counted = omega (arith, none, counted)

-- one more entry is read
upto_entry : (s : SectionBytes) (lent : Lent) (at : ℕ) (unit : Reader) (p q : Input) (items more : List (Item (List ℕ))) (e : Entry) → ReadUpTo s lent at unit p items → entry_at unit.header p ≡ Ok (Some e, q) →
    ((es : List Entry) → Begins s lent unit.paths es items → Begins s lent unit.paths (es ++ e ∷ []) more) → ReadUpTo s lent at unit q more
upto_entry s lent at unit p q items more e r is grow =
    let found = entry_takes unit.header p q e is in
    let place : p.at ≡ r.start.at + length r.body = ap (λ (z : Input). z.at) r.passed.place in
    record {
      start = r.start;
      front = r.front;
      body = r.body ++ found.0;
      entries = r.entries ++ e ∷ [];
      header = r.header;
      is_header = r.is_header;
      passed = between_both r.start p q r.body found.0 r.passed found.1;
      are_entries = are_more unit.header r.start.at r.body found.0 r.entries e r.are_entries found.2 (found.3 ∙ place);
      has_paths = r.has_paths;
      begins = grow r.entries r.begins;
    }

upto_own : (s : SectionBytes) (lent : Lent) (at : ℕ) (unit : Reader) (p q : Input) (items : List (Item (List ℕ))) (e : Entry) (item : Item (List ℕ)) → ReadUpTo s lent at unit p items → entry_at unit.header p ≡ Ok (Some e, q) →
    meaning s lent unit.paths e ≡ Ok (Plain item) → ReadUpTo s lent at unit q (items ++ item ∷ [])
upto_own s lent at unit p q items e item r is says = upto_entry s lent at unit p q items (items ++ item ∷ []) e r is (λ es begins. begins_own s lent unit.paths es items e item begins says)

upto_silent : (s : SectionBytes) (lent : Lent) (at : ℕ) (unit : Reader) (p q : Input) (items : List (Item (List ℕ))) (e : Entry) → ReadUpTo s lent at unit p items → entry_at unit.header p ≡ Ok (Some e, q) →
    meaning s lent unit.paths e ≡ Ok Nothing → ReadUpTo s lent at unit q items
upto_silent s lent at unit p q items e r is says = upto_entry s lent at unit p q items items e r is (λ es begins. begins_silent s lent unit.paths es items e begins says)

upto_import : (s : SectionBytes) (lent : Lent) (at : ℕ) (unit : Reader) (p q : Input) (items front : List (Item (List ℕ))) (e : Entry) (target : ℕ) → ReadUpTo s lent at unit p items → entry_at unit.header p ≡ Ok (Some e, q) →
    meaning s lent unit.paths e ≡ Ok (Imports target) → Splice s lent target front → ReadUpTo s lent at unit q (items ++ front)
upto_import s lent at unit p q items front e target r is says splice =
    upto_entry s lent at unit p q items (items ++ front) e r is (λ es begins. begins_import s lent unit.paths es items e target front begins says splice)

pub upto_all : (s : SectionBytes) (lent : Lent) (at : ℕ) (unit : Reader) (p q : Input) (items : List (Item (List ℕ))) → ReadUpTo s lent at unit p items → entry_at unit.header p ≡ Ok (None, q) → Splice s lent at items
upto_all s lent at unit p q items r is =
    Whole at unit.header r.entries q.at unit.paths items
    (unit_spelled s.macros at unit.header r.start p q r.front r.body r.entries r.header r.is_header r.passed r.are_entries is) r.has_paths (begins_all s lent unit.paths r.entries items r.begins)

-- nothing was read of a unit that was just begun
pub read_none : (s : SectionBytes) (lent : Lent) (paths : List (List ℕ)) (before : List (List (Item ℕ))) (at : ℕ) (h : Header) (files : Option FileRange) (q : Input) →
    header_at (record { bytes = s.macros; at = at }) ≡ Ok (h, q) → unit_paths s lent at h.line ≡ Ok (paths_of paths files) → Fits paths files → IsRead s lent paths before at h files [] 0 q
read_none s lent paths before at h files q is has fits =
    let found = header_takes (record { bytes = s.macros; at = at }) q h is in
    record {
      read = record {
        start = q;
        front = found.0;
        body = [];
        entries = [];
        header = found.1;
        is_header = found.2;
        passed = between_none q;
        are_entries = refl;
        has_paths = has;
        begins = begins_none s lent (paths_of paths files);
      };
      fits = fits;
      below = tt;
      numbered = tt;
      counted = refl;
    }

pub read_own : (s : SectionBytes) (lent : Lent) (paths : List (List ℕ)) (before : List (List (Item ℕ))) (at : ℕ) (h : Header) (files : Option FileRange) (links : List Link) (count : ℕ) (p q : Input) (e : Entry) (spliced : HeldSpliced) →
    IsRead s lent paths before at h files links count p → entry_at h p ≡ Ok (Some e, q) → meaning s lent (paths_of paths files) e ≡ Ok (Plain (named_item paths spliced)) → AreNumbered (length paths) (item_of spliced ∷ []) →
    IsRead s lent paths before at h files (links ++ Own spliced ∷ []) (together count 1) q
read_own s lent paths before at h files links count p q e spliced r is says numbers =
    let items : List (Item ℕ) = items_of before links in
    let same : items_of before (links ++ Own spliced ∷ []) ≡ items ++ item_of spliced ∷ [] = items_more before links (Own spliced) in
    let unit : Reader = record { header = h; paths = paths_of paths files } in
    let grown = upto_own s lent at unit p q (named paths items) e (named_item paths spliced) r.read is says in
    let grown_so = subst (λ (xs : List (Item (List ℕ))). ReadUpTo s lent at unit q xs) (sym (named_both paths items (item_of spliced ∷ []))) grown in
    record {
      read = subst (λ (xs : List (Item ℕ)). ReadUpTo s lent at unit q (named paths xs)) (sym same) grown_so;
      fits = r.fits;
      below = below_own (length before) links r.below (Own spliced) tt;
      numbered = subst (λ (xs : List (Item ℕ)). AreNumbered (length paths) xs) (sym same) (numbered_both (length paths) items (item_of spliced ∷ []) r.numbered numbers);
      counted = let long : length (items_of before (links ++ Own spliced ∷ [])) ≡ length items + 1 = ap length same ∙ length-append items (item_of spliced ∷ []) in count_more count 1 (length items) 1 (length (items_of before (links ++ Own spliced ∷ []))) r.counted refl long;
    }

pub read_silent : (s : SectionBytes) (lent : Lent) (paths : List (List ℕ)) (before : List (List (Item ℕ))) (at : ℕ) (h : Header) (files : Option FileRange) (links : List Link) (count : ℕ) (p q : Input) (e : Entry) →
    IsRead s lent paths before at h files links count p → entry_at h p ≡ Ok (Some e, q) → meaning s lent (paths_of paths files) e ≡ Ok Nothing → IsRead s lent paths before at h files links count q
read_silent s lent paths before at h files links count p q e r is says = record {
  read = upto_silent s lent at (record { header = h; paths = paths_of paths files }) p q (named paths (items_of before links)) e r.read is says;
  fits = r.fits;
  below = r.below;
  numbered = r.numbered;
  counted = r.counted;
}

read_import : (s : SectionBytes) (lent : Lent) (paths : List (List ℕ)) (before : List (List (Item ℕ))) (at : ℕ) (h : Header) (files : Option FileRange) (links : List Link) (count : ℕ) (p q : Input) (e : Entry) (target : ℕ) (id : NodeId) (n : ℕ) →
    IsRead s lent paths before at h files links count p → entry_at h p ≡ Ok (Some e, q) → meaning s lent (paths_of paths files) e ≡ Ok (Imports target) → Splice s lent target (named paths (items_at before id.index)) →
    id.index < length before → AreNumbered (length paths) (items_at before id.index) → n ≡ together 0 (length (items_at before id.index)) → IsRead s lent paths before at h files (links ++ Import id ∷ []) (together count n) q
read_import s lent paths before at h files links count p q e target id n r is says splice within numbers counts =
    let items : List (Item ℕ) = items_of before links in
    let front : List (Item ℕ) = items_at before id.index in
    let same : items_of before (links ++ Import id ∷ []) ≡ items ++ front = items_more before links (Import id) in
    let unit : Reader = record { header = h; paths = paths_of paths files } in
    let grown = upto_import s lent at unit p q (named paths items) (named paths front) e target r.read is says splice in
    let grown_so = subst (λ (xs : List (Item (List ℕ))). ReadUpTo s lent at unit q xs) (sym (named_both paths items front)) grown in
    record {
      read = subst (λ (xs : List (Item ℕ)). ReadUpTo s lent at unit q (named paths xs)) (sym same) grown_so;
      fits = r.fits;
      below = below_own (length before) links r.below (Import id) (within, tt);
      numbered = subst (λ (xs : List (Item ℕ)). AreNumbered (length paths) xs) (sym same) (numbered_both (length paths) items front r.numbered numbers);
      counted = let long : length (items_of before (links ++ Import id ∷ [])) ≡ length items + length front = ap length same ∙ length-append items front in count_more count n (length items) (length front) (length (items_of before (links ++ Import id ∷ []))) r.counted counts long;
    }

-- an imported unit that stands for nothing is left out
read_import_none : (s : SectionBytes) (lent : Lent) (paths : List (List ℕ)) (before : List (List (Item ℕ))) (at : ℕ) (h : Header) (files : Option FileRange) (links : List Link) (count : ℕ) (p q : Input) (e : Entry) (target : ℕ) (front : List (Item ℕ)) →
    IsRead s lent paths before at h files links count p → entry_at h p ≡ Ok (Some e, q) → meaning s lent (paths_of paths files) e ≡ Ok (Imports target) → Splice s lent target (named paths front) →
    length front ≡ 0 → IsRead s lent paths before at h files links count q
read_import_none s lent paths before at h files links count p q e target [] r is says splice none =
    let items : List (Item ℕ) = items_of before links in
    let unit : Reader = record { header = h; paths = paths_of paths files } in
    let grown = upto_import s lent at unit p q (named paths items) [] e target r.read is says splice in
    record {
      read = subst (λ (xs : List (Item (List ℕ))). ReadUpTo s lent at unit q xs) (append-nil (named paths items)) grown;
      fits = r.fits;
      below = r.below;
      numbered = r.numbered;
      counted = r.counted;
    }
read_import_none s lent paths before at h files links count p q e target (x ∷ front) r is says splice none = absurd (omega arith)

-- a unit whose last entry is an import took what the imported unit stands for
pub read_imported : (s : SectionBytes) (lent : Lent) (paths : List (List ℕ)) (before : List (List (Item ℕ))) (at : ℕ) (h : Header) (files : Option FileRange) (links : List Link) (count : ℕ) (p q : Input) (e : Entry) (target : ℕ) (id : NodeId) (n : ℕ) (b : Bool) →
    eqb n 0 ≡ b → IsRead s lent paths before at h files links count p → entry_at h p ≡ Ok (Some e, q) → meaning s lent (paths_of paths files) e ≡ Ok (Imports target) → Splice s lent target (named paths (items_at before id.index)) →
    id.index < length before → AreNumbered (length paths) (items_at before id.index) → n ≡ together 0 (length (items_at before id.index)) →
    IsRead s lent paths before at h files (cond b links (links ++ Import id ∷ [])) (cond b count (together count n)) q
read_imported s lent paths before at h files links count p q e target id n false test r is says splice within numbers counts =
    read_import s lent paths before at h files links count p q e target id n r is says splice within numbers counts
read_imported s lent paths before at h files links count p q e target id n true test r is says splice within numbers counts =
    read_import_none s lent paths before at h files links count p q e target (items_at before id.index) r is says splice (none_counted n (length (items_at before id.index)) (eqb-true n 0 test) counts)

-- paths are put behind the others
pub read_wider : (s : SectionBytes) (lent : Lent) (paths more : List (List ℕ)) (before : List (List (Item ℕ))) (at : ℕ) (h : Header) (files : Option FileRange) (links : List Link) (count : ℕ) (p : Input) →
    IsRead s lent paths before at h files links count p → IsRead s lent (paths ++ more) before at h files links count p
read_wider s lent paths more before at h files links count p r =
    let items : List (Item ℕ) = items_of before links in
    record {
      read = subst (λ (ps : Option (List (List ℕ))). ReadUpTo s lent at (record { header = h; paths = ps }) p (named (paths ++ more) items)) (sym (paths_kept paths more files r.fits))
          (subst (λ (xs : List (Item (List ℕ))). ReadUpTo s lent at (record { header = h; paths = paths_of paths files }) p xs) (sym (named_kept paths more items r.numbered)) r.read);
      fits = fits_wider paths more files r.fits;
      below = r.below;
      numbered = numbered_wider (length paths) (length (paths ++ more)) items r.numbered (omega (arith, length-append paths more));
      counted = r.counted;
    }

-- units are put behind those that were read whole
pub read_longer : (s : SectionBytes) (lent : Lent) (paths : List (List ℕ)) (before more : List (List (Item ℕ))) (at : ℕ) (h : Header) (files : Option FileRange) (links : List Link) (count : ℕ) (p : Input) →
    IsRead s lent paths before at h files links count p → IsRead s lent paths (before ++ more) at h files links count p
read_longer s lent paths before more at h files links count p r =
    let same : items_of before links ≡ items_of (before ++ more) links = sym (items_kept before more links r.below) in
    record {
      read = subst (λ (xs : List (Item ℕ)). ReadUpTo s lent at (record { header = h; paths = paths_of paths files }) p (named paths xs)) same r.read;
      fits = r.fits;
      below = below_wider (length before) (length (before ++ more)) links r.below (omega (arith, length-append before more));
      numbered = subst (λ (xs : List (Item ℕ)). AreNumbered (length paths) xs) same r.numbered;
      counted = subst (λ (xs : List (Item ℕ)). count ≡ together 0 (length xs)) same r.counted;
    }

-- it is still the same unit
pub read_of : (s : SectionBytes) (lent : Lent) (paths : List (List ℕ)) (before : List (List (Item ℕ))) (u v : OpenUnit) (links : List Link) (count : ℕ) (p : Input) → IsSameUnit u v → v.links.items ≡ links → v.count ≡ count →
    IsRead s lent paths before u.at (header_of u.header) u.files links count p → IsReadOf s lent paths before v p
read_of s lent paths before u v links count p same linked counted r =
    subst (λ (n : ℕ). IsRead s lent paths before v.at (header_of v.header) v.files v.links.items n p) (sym counted)
    (subst (λ (ls : List Link). IsRead s lent paths before v.at (header_of v.header) v.files ls count p) (sym linked)
    (subst (λ (f : Option FileRange). IsRead s lent paths before v.at (header_of v.header) f links count p) (sym same.2)
    (subst (λ (h : HeldHeader). IsRead s lent paths before v.at (header_of h) u.files links count p) (sym same.1)
    (subst (λ (n : ℕ). IsRead s lent paths before n (header_of u.header) u.files links count p) (sym same.0) r))))
