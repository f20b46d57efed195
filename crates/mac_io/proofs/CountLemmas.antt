-- Objects that are asked one at a time: what they tell together, and their counts.
use Rattle.std.proofs.Common.{◌≡◌, ℕ, ◌+◌, ◌<◌, ◌≤◌, ◌^◌, ◌-◌, List, length, map, get_or, set, min, Option, refl, ap, sym, ◌∙◌, subst, arith}
use Rattle.std.specs.List.{sum_by}
use Rattle.std.proofs.lemmas.List.{length-map, map-set, get_or-map}
use Rattle.std.proofs.Math.Seq.{map-set_same}
use Rattle.std.proofs.lemmas.List.Sums.{sum_by-set, get_or-le-sum_by}
use Rattle.mac_io.specs.Files.{Files}
use Rattle.mac_io.specs.Causes.{HasCause, HasStoreCause, Counts, Rose, capped}

both : (l m : List ℕ) (f h : Option Files) → l ≡ m → f ≡ h → ◌≡◌ {A = List ℕ × Option Files} (l, f) (m, h)
both l m f h is same = cc

-- a place of what is told is a place of a store
pub within_told : {A B : Type 0} (told : A → B) (xs : List A) (i : ℕ) → i < length (map told xs) → i < length xs
within_told told xs i within = omega (arith, within, length-map xs told)

-- one that tells what it told before
pub told_same : {A : Type 0} (label : A → List ℕ) (files : A → Option Files) (xs : List A) (i : ℕ) (new old : A) → old ≡ get_or xs i old → label new ≡ label old → files new ≡ files old → map {B = List ℕ × Option Files} (λ x. (label x, files x)) (set xs i new) ≡ map {B = List ℕ × Option Files} (λ x. (label x, files x)) xs
told_same {A = A} label files xs i new old is same_label same_files =
    let told : A → List ℕ × Option Files = λ x. (label x, files x) in
    map-set_same told xs i new old
    (both (label new) (label old) (files new) (files old) same_label same_files ∙ ap told is)

-- the sum s of counts with c in place of b
later_capped : (end r s t b c : ℕ) → t + b ≡ s + c → b ≤ c → min (r + s) end ≤ min (r + t) end
later_capped end r s t b c is later = omega arith

rose_capped : (end r s t b c : ℕ) → t + b ≡ s + c → b ≤ s → min (b + 1) end ≤ c → min (min (r + s) end + 1) end ≤ min (r + t) end
rose_capped end r s t b c is part rose = omega arith

kept_capped : (r s t b c : ℕ) → t + b ≡ s + c → c ≡ b → capped (r + t) ≡ capped (r + s)
kept_capped r s t b c is same = let sums : t ≡ s = omega (arith, is, same) in ap (λ n. capped (r + n)) sums

capped_cause : (r s t b c : ℕ) (failed : Type 0) → t + b ≡ s + c → b ≤ s → HasCause b c failed → HasCause (capped (r + s)) (capped (r + t)) failed
capped_cause r s t b c failed is part cause =
    record {
      later = later_capped (2 ^ 64 - 1) r s t b c is cause.later;
      rose = λ f. rose_capped (2 ^ 64 - 1) r s t b c is part (cause.rose f);
      kept = λ n. kept_capped r s t b c is (cause.kept n);
    }

sum_moved : {A : Type 0} (count : A → ℕ) (xs : List A) (i : ℕ) (new old : A) → i < length xs → old ≡ get_or xs i old → sum_by count (set xs i new) + count old ≡ sum_by count xs + count new
sum_moved count xs i new old within is = subst (λ x. sum_by count (set xs i new) + count x ≡ sum_by count xs + count new) (sym is) (sum_by-set count xs i new old within)

sum_part : {A : Type 0} (count : A → ℕ) (xs : List A) (i : ℕ) (old : A) → i < length xs → old ≡ get_or xs i old → count old ≤ sum_by count xs
sum_part count xs i old within is = subst (λ x. count x ≤ sum_by count xs) (sym is) (get_or-le-sum_by count xs i old within)

-- one whose count has moved
pub cause_of_one : {A : Type 0} (count : A → ℕ) (retired : ℕ) (xs : List A) (i : ℕ) (new old : A) (failed : Type 0) → i < length xs → old ≡ get_or xs i old → HasCause (count old) (count new) failed → HasCause (capped (retired + sum_by count xs)) (capped (retired + sum_by count (set xs i new))) failed
cause_of_one count retired xs i new old failed within is cause =
    capped_cause retired (sum_by count xs) (sum_by count (set xs i new)) (count old) (count new) failed
    (sum_moved count xs i new old within is) (sum_part count xs i old within is) cause

-- the count that rose is that of this store
pub store_cause_of_one : {A : Type 0} (count : A → ℕ) (retired : ℕ) (xs : List A) (i : ℕ) (new old : A) (failed : Type 0) → i < length xs → old ≡ get_or xs i old → HasCause (count old) (count new) failed → HasStoreCause (record { retired = retired; stores = map count xs }) (record { retired = retired; stores = map count (set xs i new) }) failed
store_cause_of_one count retired xs i new old failed within is cause =
    let here : get_or (map count xs) i 0 ≡ count old = get_or-map count xs i old 0 within ∙ ap count (sym is) in
    record {
      retired = refl;
      rose = λ f. (i, count new, omega (arith, within, length-map xs count), subst (λ n. Rose n (count new)) (sym here) (cause.rose f), map-set count xs i new);
      kept = λ n. ap (λ (counts : List ℕ). record { retired = retired; stores = counts }) (map-set_same count xs i new old (cause.kept n ∙ ap count is));
    }

-- two paths whose counts agree in both parts
pub same_counts : (one other : Counts) → one.retired ≡ other.retired → one.stores ≡ other.stores → one ≡ other
same_counts one other retired stores = ap (λ (n : ℕ). record { retired = n; stores = one.stores }) retired ∙ ap (λ (ns : List ℕ). record { retired = other.retired; stores = ns }) stores

-- one that is over the folder that it was over
pub folders_same : {A : Type 0} (folder : A → Option (List ℕ)) (xs : List A) (i : ℕ) (new old : A) → old ≡ get_or xs i old → folder new ≡ folder old → map folder (set xs i new) ≡ map folder xs
folders_same folder xs i new old is same = map-set_same folder xs i new old (same ∙ ap folder is)
