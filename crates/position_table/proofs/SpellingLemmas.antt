-- Texts of positions: what is read is spelled so, and what is spelled is read.
use Rattle.std.proofs.Common.{◌≡◌, ℕ, zero, suc, ◌+◌, ◌-◌, ◌<◌, ◌≤◌, Bool, true, false, cond, not, leb, ltb, ◌&&◌, List, [], ◌∷◌, ◌++◌, length, take, drop, reverse, get_or, Option, Some, None, refl, ap, sym, subst, ◌∙◌, arith}
use Rattle.std.specs.Option.{option_map, option_and_then, option_or}
use Rattle.std.specs.List.{list_all, slice_split, onto_first, join_with_byte, before_last, after_last, suffix_len, prefix_len, slice_range, slice_index}
use Rattle.std.proofs.lemmas.List.{take_at, drop_at, take_all, take_more, get_or_at, take-append-drop, drop_more, length-append, length-reverse, reverse-append, get_or-reverse, append_assoc, length_push}
use Rattle.std.proofs.lemmas.List.Folds.{list_all-append}
use Rattle.std.proofs.lemmas.List.Sums.{prefix_len_stops}
use Rattle.std.proofs.lemmas.List.Splits.{join_with_byte-slice_split}
use Rattle.std.proofs.lemmas.Bool.Decides.{nat_tests}
use Rattle.std.proofs.lemmas.Bool.{and_from}
use Rattle.position_table.specs.declared.position.Position.{Position}
use Rattle.position_table.specs.declared.position.Position.TheVariants.{Chain, Named}
use Rattle.position_table.specs.Positions.{is_colon, is_digit, digits_value, largest_number, begins_well, is_number, number_of, numbers_of, chain_of, is_path, named_by, named_of, position_of}
use Rattle.position_table.specs.Laws.{IsNoChain, Spells, AsChain, AsPath}
use Rattle.mac_base.proofs.TestLemmas.{and_first, and_second}

-- a digit is no colon
digit_apart : (byte : ℕ) → is_digit byte ≡ true → is_colon byte ≡ false
digit_apart byte is = grind (arith, nat_tests)

if_some : {A : Type 0} (t : Bool) (x y : A) → cond t (Some x) None ≡ Some y → (t ≡ true) × (x ≡ y)
if_some true x y is = (refl, cc)
if_some false x y is = cc

-- a number has digits only
number_digits : (field : List ℕ) (n : ℕ) → number_of field ≡ Some n → list_all is_digit field ≡ true
number_digits field n is =
    and_second (begins_well field) (list_all is_digit field) (and_first (begins_well field && list_all is_digit field) (leb (digits_value field) largest_number) (if_some (is_number field) (digits_value field) n is).0)

-- digits up to a colon are a field
split_digits : (field rest : List ℕ) → list_all is_digit field ≡ true → slice_split is_colon (field ++ 58 ∷ rest) ≡ field ∷ slice_split is_colon rest
split_digits [] rest are = refl
split_digits (d ∷ ds) rest are =
    ap (λ (t : Bool). cond t ([] ∷ slice_split is_colon (ds ++ 58 ∷ rest)) (onto_first d (slice_split is_colon (ds ++ 58 ∷ rest)))) (digit_apart d (and_first (is_digit d) (list_all is_digit ds) are))
    ∙ ap (onto_first d) (split_digits ds rest (and_second (is_digit d) (list_all is_digit ds) are))

split_last : (field : List ℕ) → list_all is_digit field ≡ true → slice_split is_colon field ≡ field ∷ []
split_last [] are = refl
split_last (d ∷ ds) are =
    ap (λ (t : Bool). cond t ([] ∷ slice_split is_colon ds) (onto_first d (slice_split is_colon ds))) (digit_apart d (and_first (is_digit d) (list_all is_digit ds) are))
    ∙ ap (onto_first d) (split_last ds (and_second (is_digit d) (list_all is_digit ds) are))

number_parts : (first : Option ℕ) (later : Option (List ℕ)) (ns : List ℕ) → option_and_then (λ n. option_map (λ (ns : List ℕ). n ∷ ns) later) first ≡ Some ns → (n : ℕ) × (ms : List ℕ) × (first ≡ Some n) × (later ≡ Some ms)
number_parts None later ns is = cc
number_parts (Some n) None ns is = cc
number_parts (Some n) (Some ms) ns is = (n, ms, refl, refl)

-- fields that are numbers are found again
split_join : (field : List ℕ) (fields : List (List ℕ)) (ns : List ℕ) → numbers_of (field ∷ fields) ≡ Some ns → slice_split is_colon (join_with_byte 58 (field ∷ fields)) ≡ field ∷ fields
split_join field [] ns are = let parts = number_parts (number_of field) (Some []) ns are in split_last field (number_digits field parts.0 parts.2)
split_join field (next ∷ fields) ns are =
    let parts = number_parts (number_of field) (numbers_of (next ∷ fields)) ns are in
    split_digits field (join_with_byte 58 (next ∷ fields)) (number_digits field parts.0 parts.2) ∙ ap (λ (fs : List (List ℕ)). field ∷ fs) (split_join next fields parts.1 parts.3)

not_less : (n : ℕ) → 2 ≤ n → ltb n 2 ≡ false
not_less n is = grind (arith, nat_tests)

-- the position of two numbers or more
abbrev chain_made : List ℕ → Position
chain_made numbers = Chain (slice_index numbers 0) (slice_range numbers 1 (length numbers - 1)) (slice_index numbers (length numbers - 1))

chain_long : (numbers : List ℕ) → 2 ≤ length numbers → chain_of numbers ≡ Some (chain_made numbers)
chain_long numbers is = ap (λ (t : Bool). cond t None (Some (chain_made numbers))) (not_less (length numbers) is)

-- numbers in their parts
chain_parts : (unit : ℕ) (lines : List ℕ) (line : ℕ) → chain_of (unit ∷ (lines ++ line ∷ [])) ≡ Some (Chain unit lines line)
chain_parts unit lines line =
    let numbers : List ℕ = unit ∷ (lines ++ line ∷ []) in
    let long : length numbers ≡ length lines + 2 = omega (arith, length_push lines line) in
    let middle : slice_range numbers 1 (length numbers - 1) ≡ lines = take_at lines (line ∷ []) (length numbers - 1 - 1) (omega arith) in
    let last : slice_index numbers (length numbers - 1) ≡ line = get_or_at (unit ∷ lines) line [] 0 (length numbers - 1) (omega arith) in
    chain_long numbers (omega arith) ∙ (λ i. Some (Chain unit (middle i) (last i)))

last_apart : (n : ℕ) (xs : List ℕ) → length xs ≡ n + 1 → take n xs ++ get_or xs n 0 ∷ [] ≡ xs
last_apart n xs is = sym (take_more xs n 0 (omega arith)) ∙ take_all (n + 1) xs (omega arith)

whole : (x : ℕ) (xs : List ℕ) → 0 < length xs → x ∷ (slice_range (x ∷ xs) 1 (length (x ∷ xs) - 1) ++ slice_index (x ∷ xs) (length (x ∷ xs) - 1) ∷ []) ≡ x ∷ xs
whole x xs some =
    let n : ℕ = length xs - 1 in
    let front : length (x ∷ xs) - 1 - 1 ≡ length xs - 1 = omega arith in
    let back : length (x ∷ xs) - 1 ≡ suc (length xs - 1) = omega arith in
    ap (λ (ys : List ℕ). x ∷ ys) ((λ i. take (front i) xs ++ get_or (x ∷ xs) (back i) 0 ∷ []) ∙ last_apart (length xs - 1) xs (omega arith))

chain_whole : (numbers : List ℕ) (unit : ℕ) (lines : List ℕ) (line : ℕ) → chain_of numbers ≡ Some (Chain unit lines line) → numbers ≡ unit ∷ (lines ++ line ∷ [])
chain_whole [] unit lines line is = cc
chain_whole (x ∷ []) unit lines line is = cc
chain_whole (x ∷ y ∷ more) unit lines line is =
    let numbers : List ℕ = x ∷ y ∷ more in
    let made : Some (chain_made numbers) ≡ Some (Chain unit lines line) = sym (chain_long numbers (omega arith)) ∙ is in
    let first : x ≡ unit = cc in
    let middle : slice_range numbers 1 (length numbers - 1) ≡ lines = cc in
    let last : slice_index numbers (length numbers - 1) ≡ line = cc in
    sym (whole x (y ∷ more) (omega arith)) ∙ (λ i. first i ∷ (middle i ++ last i ∷ []))

chain_named : (numbers path : List ℕ) (line : ℕ) → chain_of numbers ≡ Some (Named path line) → ⊥
chain_named [] path line is = cc
chain_named (x ∷ []) path line is = cc
chain_named (x ∷ y ∷ more) path line is =
    let made : Some (chain_made (x ∷ y ∷ more)) ≡ Some (Named path line) = sym (chain_long (x ∷ y ∷ more) (omega arith)) ∙ is in
    cc

-- digits up to a colon
prefix_stop : (ds rest : List ℕ) → list_all is_digit ds ≡ true → prefix_len (λ byte. not (is_colon byte)) (ds ++ 58 ∷ rest) ≡ length ds
prefix_stop [] rest are = refl
prefix_stop (d ∷ ds) rest are =
    let later : prefix_len (λ byte. not (is_colon byte)) (ds ++ 58 ∷ rest) ≡ length ds = prefix_stop ds rest (and_second (is_digit d) (list_all is_digit ds) are) in
    let more : 1 + prefix_len (λ byte. not (is_colon byte)) (ds ++ 58 ∷ rest) ≡ suc (length ds) = omega arith in
    ap (λ (t : Bool). cond (not t) (1 + prefix_len (λ byte. not (is_colon byte)) (ds ++ 58 ∷ rest)) 0) (digit_apart d (and_first (is_digit d) (list_all is_digit ds) are)) ∙ more

digits_reverse : (ds : List ℕ) → list_all is_digit ds ≡ true → list_all is_digit (reverse ds) ≡ true
digits_reverse [] are = refl
digits_reverse (d ∷ ds) are =
    ap (list_all is_digit) (reverse-append (d ∷ []) ds) ∙ list_all-append is_digit (reverse ds) (d ∷ [])
    ∙ and_from (list_all is_digit (reverse ds)) (is_digit d && true) (digits_reverse ds (and_second (is_digit d) (list_all is_digit ds) are)) (and_from (is_digit d) true (and_first (is_digit d) (list_all is_digit ds) are) refl)

-- what stands behind the last colon
suffix_is : (path field : List ℕ) → list_all is_digit field ≡ true → suffix_len (λ byte. not (is_colon byte)) (path ++ 58 ∷ field) ≡ length field
suffix_is path field are =
    let turned : reverse (path ++ 58 ∷ field) ≡ reverse field ++ 58 ∷ reverse path =
    reverse-append path (58 ∷ field) ∙ ap (λ (front : List ℕ). front ++ reverse path) (reverse-append (58 ∷ []) field) ∙ append_assoc (reverse field) (58 ∷ []) (reverse path) in
    ap (prefix_len (λ byte. not (is_colon byte))) turned ∙ prefix_stop (reverse field) (reverse path) (digits_reverse field are) ∙ length-reverse field

named_parts : (path field : List ℕ) → list_all is_digit field ≡ true → named_of (path ++ 58 ∷ field) ≡ named_by path field
named_parts path field are =
    let text : List ℕ = path ++ 58 ∷ field in
    let long : length text ≡ length path + 1 + length field = omega (arith, length-append path (58 ∷ field)) in
    let behind : suffix_len (λ byte. not (is_colon byte)) text ≡ length field = suffix_is path field are in
    let before : before_last is_colon text ≡ path = ap (λ n. take (length text - n - 1) text) behind ∙ take_at path (58 ∷ field) (length text - length field - 1) (omega arith) in
    let after : after_last is_colon text ≡ field =
    ap (λ n. drop (length text - n) text) behind ∙ ap (drop (length text - length field)) (sym (append_assoc path (58 ∷ []) field))
    ∙ drop_at (path ++ 58 ∷ []) field (length text - length field) (omega (arith, length_push path 58)) in
    λ i. named_by (before i) (after i)

some_taken : (n : ℕ) (text : List ℕ) → is_path (take n text) ≡ true → 0 < n
some_taken zero text is = cc
some_taken (suc n) text is = omega arith

is_58 : (byte : ℕ) → not (is_colon byte) ≡ false → byte ≡ 58
is_58 byte is = grind (arith, nat_tests)

-- a path before the last colon
text_whole : (text : List ℕ) → is_path (before_last is_colon text) ≡ true → before_last is_colon text ++ 58 ∷ after_last is_colon text ≡ text
text_whole text some =
    let n : ℕ = suffix_len (λ byte. not (is_colon byte)) text in
    let m : ℕ = length text - n - 1 in
    let within : 0 < m = some_taken m text some in
    let stops : not (is_colon (get_or (reverse text) n 0)) ≡ false = prefix_len_stops (λ byte. not (is_colon byte)) (reverse text) 0 (omega (arith, length-reverse text)) in
    let place : length text - 1 - n ≡ m = omega arith in
    let colon : get_or text m 0 ≡ 58 = ap (λ k. get_or text k 0) (sym place) ∙ sym (get_or-reverse text n 0 (omega arith)) ∙ is_58 (get_or (reverse text) n 0) stops in
    let after : length text - n ≡ m + 1 = omega arith in
    (λ i. take m text ++ sym colon i ∷ drop (after i) text) ∙ ap (λ (back : List ℕ). take m text ++ back) (sym (drop_more text m 0 (omega arith))) ∙ take-append-drop m text

and_some : (o : Option (List ℕ)) (position : Position) → option_and_then chain_of o ≡ Some position → (numbers : List ℕ) × (o ≡ Some numbers) × (chain_of numbers ≡ Some position)
and_some None position is = cc
and_some (Some numbers) position is = (numbers, refl, is)

spelled_chain : (text numbers : List ℕ) (position : Position) → numbers_of (slice_split is_colon text) ≡ Some numbers → chain_of numbers ≡ Some position → Spells position text
spelled_chain text numbers (Chain unit lines line) are is =
    subst (Spells (Chain unit lines line)) (join_with_byte-slice_split 58 text)
    (AsChain unit lines line (slice_split is_colon text) (are ∙ ap Some (chain_whole numbers unit lines line is)))
spelled_chain text numbers (Named path line) are is = absurd (chain_named numbers path line is)

mapped_some : (path : List ℕ) (o : Option ℕ) (position : Position) → option_map (λ line. Named path line) o ≡ Some position → (line : ℕ) × (o ≡ Some line) × (Named path line ≡ position)
mapped_some path None position is = cc
mapped_some path (Some line) position is = (line, refl, cc)

named_some : (t : Bool) (path : List ℕ) (o : Option ℕ) (position : Position) → cond t (option_map (λ line. Named path line) o) None ≡ Some position → (t ≡ true) × ((line : ℕ) × (o ≡ Some line) × (Named path line ≡ position))
named_some true path o position is = (refl, mapped_some path o position is)
named_some false path o position is = cc

spelled_path : (text : List ℕ) (position : Position) → IsNoChain text → named_of text ≡ Some position → Spells position text
spelled_path text position none is =
    let path : List ℕ = before_last is_colon text in
    let field : List ℕ = after_last is_colon text in
    let parts = named_some (is_path path) path (number_of field) position is in
    let all : path ++ 58 ∷ field ≡ text = text_whole text parts.0 in
    subst (λ (p : Position). Spells p text) parts.1.2
    (subst (Spells (Named path parts.1.0)) all (AsPath path field parts.1.0 parts.0 parts.1.1 (subst IsNoChain (sym all) none)))

spelled_by : (text : List ℕ) (position : Position) (c : Option Position) → option_and_then chain_of (numbers_of (slice_split is_colon text)) ≡ c → option_or c (named_of text) ≡ Some position → Spells position text
spelled_by text position None none is = spelled_path text position none is
spelled_by text position (Some found) here is =
    let same : found ≡ position = cc in
    let parts = and_some (numbers_of (slice_split is_colon text)) position (here ∙ ap Some same) in
    spelled_chain text parts.0 position parts.1 parts.2

pub spelled : (text : List ℕ) (position : Position) → position_of text ≡ Some position → Spells position text
spelled text position is = spelled_by text position (option_and_then chain_of (numbers_of (slice_split is_colon text))) refl is

read_chain : (unit : ℕ) (lines : List ℕ) (line : ℕ) (fields : List (List ℕ)) → numbers_of fields ≡ Some (unit ∷ (lines ++ line ∷ [])) → position_of (join_with_byte 58 fields) ≡ Some (Chain unit lines line)
read_chain unit lines line [] are = cc
read_chain unit lines line (field ∷ fields) are =
    let text : List ℕ = join_with_byte 58 (field ∷ fields) in
    ap (λ (fs : List (List ℕ)). option_or (option_and_then chain_of (numbers_of fs)) (named_of text)) (split_join field fields (unit ∷ (lines ++ line ∷ [])) are)
    ∙ ap (λ (o : Option (List ℕ)). option_or (option_and_then chain_of o) (named_of text)) are ∙ ap (λ (c : Option Position). option_or c (named_of text)) (chain_parts unit lines line)

pub read : (text : List ℕ) (position : Position) → Spells position text → position_of text ≡ Some position
read text position (AsChain unit lines line fields are) = read_chain unit lines line fields are
read text position (AsPath path field line some is none) =
    ap (λ (c : Option Position). option_or c (named_of (path ++ 58 ∷ field))) none ∙ named_parts path field (number_digits field line is)
    ∙ ap (λ (t : Bool). cond t (option_map (λ line. Named path line) (number_of field)) None) some ∙ ap (option_map (λ (line : ℕ). Named path line)) is
