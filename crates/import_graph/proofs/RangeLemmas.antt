-- The ranges of line tables among all paths stay what they are while paths are put behind them.
use Rattle.std.proofs.Common.{◌≡◌, ℕ, ◌-◌, Bool, true, false, cond, List, ◌++◌, length, take, drop, Option, Some, Ok, refl, ap, subst, sym, ◌∙◌, arith, length-append}
use Rattle.std.proofs.lemmas.List.{length-drop, drop-append-le, take-append-le}
use Rattle.std.proofs.Math.Seq.{drop-append_seam, take-length}
use Rattle.std.proofs.lemmas.Map.Lookups.{exact_unsigned}
use Rattle.std.specs.Ordering.{nat_cmp}
use Rattle.std.specs.Map.{lookup}
use Rattle.std.specs.BTreeMap.{BTreeMap, get, is_at}
use Rattle.mac_base.proofs.Choices.{same_some}
use Rattle.line_names.specs.Entries.{Tables}
use Rattle.line_names.specs.Files.{files_of}
use Rattle.import_graph.specs.declared.meaning.FileRange.{FileRange}
use Rattle.import_graph.specs.Numbers.{range_of, Fits}
use Rattle.import_graph.specs.Tables.{IsRange, AreRanges}
use Rattle.mac_base.proofs.TestLemmas.{is_equal}

pub range_kept : (paths more : List (List ℕ)) (range : FileRange) → Fits paths (Some range) → range_of (paths ++ more) range ≡ range_of paths range
range_kept paths more range fits =
    ap (take (range.end - range.first)) (drop-append-le range.first paths more (omega arith))
    ∙ take-append-le (range.end - range.first) (drop range.first paths) more (omega (arith, length-drop range.first paths))

pub fits_kept : (paths more : List (List ℕ)) (range : FileRange) → Fits paths (Some range) → Fits (paths ++ more) (Some range)
fits_kept paths more range fits = (fits.0, omega (arith, length-append paths more))

pub is_range_kept : (t : Tables) (paths more : List (List ℕ)) (off : ℕ) (range : FileRange) → IsRange t paths off range → IsRange t (paths ++ more) off range
is_range_kept t paths more off range is = (is.0 ∙ ap Ok (sym (range_kept paths more range is.1)), fits_kept paths more range is.1)

pub ranges_kept : (t : Tables) (paths more : List (List ℕ)) (known : BTreeMap ℕ FileRange) → AreRanges t paths known → AreRanges t (paths ++ more) known
ranges_kept t paths more known are off range is = is_range_kept t paths more off range (are off range is)

-- the paths that were just put at the end
pub new_range : (paths more : List (List ℕ)) (range : FileRange) → range.first ≡ length paths → range.end ≡ length (paths ++ more) → range_of (paths ++ more) range ≡ more
new_range paths more range first end =
    let size : range.end - range.first ≡ length more = omega (arith, length-append paths more) in
    ap (λ n. take (range.end - range.first) (drop n (paths ++ more))) first ∙ ap (take (range.end - range.first)) (drop-append_seam paths more)
    ∙ ap (λ n. take n more) size ∙ take-length more

pub new_is_range : (t : Tables) (paths more : List (List ℕ)) (off : ℕ) (range : FileRange) → files_of t off ≡ Ok more → range.first ≡ length paths → range.end ≡ length (paths ++ more) → IsRange t (paths ++ more) off range
new_is_range t paths more off range read first end =
    (read ∙ ap Ok (sym (new_range paths more range first end)), (omega (arith, length-append paths more), omega arith))

ranges_by : (t : Tables) (paths : List (List ℕ)) (off q : ℕ) (range at : FileRange) (old : Option FileRange) (b : Bool) → is_at (nat_cmp off) q ≡ b → IsRange t paths off range →
    (old ≡ Some at → IsRange t paths q at) → cond b (Some range) old ≡ Some at → IsRange t paths q at
ranges_by t paths off q range at old true same is others found =
    subst (λ (n : ℕ). IsRange t paths n at) (exact_unsigned off q (is_equal (nat_cmp off q) same)) (subst (λ (r : FileRange). IsRange t paths off r) (same_some range at found) is)
ranges_by t paths off q range at old false same is others found = others found

-- one more range is kept
pub ranges_more : (t : Tables) (paths : List (List ℕ)) (known wider : BTreeMap ℕ FileRange) (off : ℕ) (range : FileRange) → AreRanges t paths known → IsRange t paths off range →
    ((q : ℕ) → get nat_cmp wider q ≡ cond (is_at (nat_cmp off) q) (Some range) (get nat_cmp known q)) → AreRanges t paths wider
ranges_more t paths known wider off range are is updates q at found =
    ranges_by t paths off q range at (get nat_cmp known q) (is_at (nat_cmp off) q) refl is (are q at) (sym (updates q) ∙ found)

-- the same ranges are kept in a map with the same entries
pub ranges_same : (t : Tables) (paths : List (List ℕ)) (known other : BTreeMap ℕ FileRange) → AreRanges t paths known → other.entries ≡ known.entries → AreRanges t paths other
ranges_same t paths known other are same q at found = are q at (ap (lookup (is_at (nat_cmp q))) (sym same) ∙ found)
