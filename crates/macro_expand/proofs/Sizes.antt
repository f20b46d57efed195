-- How long the parts of a call are, and what a head leaves.
use Rattle.std.proofs.Common.{◌≡◌, ℕ, suc, ◌+◌, ◌-◌, ◌<◌, ◌≤◌, true, false, cond, List, [], ◌∷◌, ◌++◌, length, Option, Some, None, arith, length-append, nat_eq, nat_le, codes, bytes_eq}
use Rattle.std.proofs.lemmas.Bool.{cond_both, eqb-true, leb-true}
use Rattle.macro_expand.specs.declared.here.Here.{Here}
use Rattle.macro_expand.specs.declared.fault.ExpandFault.TheVariants.{ArgCount}
use Rattle.macro_expand.specs.Marked.{Marked, delimiter_of}
use Rattle.macro_table.specs.Definitions.{DefValue}
use Rattle.macro_expand.specs.Macros.{Macros, named_params, params_of}
use Rattle.macro_expand.specs.Calls.{Closed, inside_too, ends_call, depth_behind, parts, closed, to_first, split, commas_of, arguments_of, arguments, fits, waiting}
use Rattle.macro_expand.specs.Taking.{weight}
use Rattle.macro_expand.specs.Heads.{Head, Finished, Stays, Replaced, Fails, line_token, file_token, function_call, call_head, is_opens, macro_head, name_head, seen_head, is_kept, head_of}

-- Closed.

abbrev pub IsCut : ℕ → Option Closed → Type 0
IsCut n None = Unit {0}
IsCut n (Some c) = length c.inside + length c.rest + 1 ≡ n

inside_too_cut : (m : Marked) (n : ℕ) (o : Option Closed) → IsCut n o → IsCut (suc n) (inside_too m o)
inside_too_cut m n None h = tt
inside_too_cut m n (Some c) h = omega arith

pub closed_cut : (ms : List Marked) (depth : ℕ) → IsCut (length ms) (closed ms depth)
unfolding closed
closed_cut [] depth = tt
closed_cut (m ∷ ms) depth =
    cond_both (ends_call (delimiter_of m.token) depth) (Some (record { inside = []; close = m; rest = ms })) (inside_too m (closed ms (depth_behind (delimiter_of m.token) depth))) (IsCut (suc (length ms)))
    (λ e. omega arith) (λ e. inside_too_cut m (length ms) (closed ms (depth_behind (delimiter_of m.token) depth)) (closed_cut ms (depth_behind (delimiter_of m.token) depth)))

-- Split. Each part costs one more than its length.

abbrev pub cost : List (List Marked) → ℕ
cost [] = 0
cost (a ∷ more) = suc (length a) + cost more

to_first_cost : (m : Marked) (as' : List (List Marked)) → cost (to_first m as') ≤ cost as' + 2
to_first_cost m [] = omega arith
to_first_cost m (a ∷ more) = omega arith

-- a list of parts is not empty
abbrev pub IsSome' : List (List Marked) → Type 0
IsSome' [] = ⊥
IsSome' (a ∷ more) = Unit {0}

to_first_cost' : (m : Marked) (as' : List (List Marked)) (n : ℕ) → IsSome' as' × (cost as' ≤ n) → IsSome' (to_first m as') × (cost (to_first m as') ≤ suc n)
to_first_cost' m [] n h = absurd h.0
to_first_cost' m (a ∷ more) n h = (tt, omega (arith, h.1))

pub split_cost : (ms : List Marked) (commas depth : ℕ) → IsSome' (split ms commas depth) × (cost (split ms commas depth) ≤ suc (length ms))
unfolding split
split_cost [] commas depth = (tt, omega arith)
split_cost (m ∷ ms) commas depth =
    let deep : ℕ = depth_behind (delimiter_of m.token) depth in
    cond_both (parts (delimiter_of m.token) commas depth) ([] ∷ split ms (commas - 1) depth) (to_first m (split ms commas deep)) (λ as'. IsSome' as' × (cost as' ≤ suc (suc (length ms))))
    (λ e. (tt, omega (arith, (split_cost ms (commas - 1) depth).1)))
    (λ e. to_first_cost' m (split ms commas deep) (suc (length ms)) (split_cost ms commas deep))

arguments_of_cost : (ps : List (List ℕ)) (commas : ℕ) (inside : List Marked) → cost (arguments_of ps commas inside) ≤ suc (length inside)
arguments_of_cost [] commas [] = omega arith
arguments_of_cost [] commas (m ∷ ms) = (split_cost (m ∷ ms) commas 0).1
arguments_of_cost (p ∷ ps) commas inside = (split_cost inside commas 0).1

-- Waiting.

waiting_weight : (d : DefValue) (ps : List (List ℕ)) (args : List (List Marked)) → weight (waiting d ps args) ≤ cost args + (length ps - length args)
waiting_weight d [] args = omega arith
waiting_weight d (p ∷ ps) [] = omega (arith, waiting_weight d ps [])
waiting_weight d (p ∷ ps) (a ∷ more) = omega (arith, waiting_weight d ps more)

fits_length : (d : DefValue) (n : ℕ) → fits d n ≡ true → length (params_of d) ≤ suc n
fits_length d n h =
    let names = named_params d in
    (elim d.variadic as (λ v. cond v (nat_le (length names) n) (nat_eq (length names) n) ≡ true → length (names ++ cond v (codes "__VA_ARGS__" ∷ []) []) ≤ suc n) [
      | true ↦ λ e. omega (arith, length-append names (codes "__VA_ARGS__" ∷ []), leb-true (length names) n e)
      | false ↦ λ e. omega (arith, length-append {A = List ℕ} names [], eqb-true (length names) n e)
    ]) h

-- Heads: what a head leaves is less than the list.

abbrev pub IsSized : ℕ → Head → Type 0
IsSized n Finished = Unit {0}
IsSized n (Stays m rest) = length rest < n
IsSized n (Replaced c) = weight c.args + length c.rest < n
IsSized n (Fails fault) = Unit {0}

call_head_sized : (d : DefValue) (m : Marked) (n : ℕ) (o : Option Closed) → IsCut n o → IsSized (suc (suc n)) (call_head d m o)
call_head_sized d m n None h = tt
call_head_sized d m n (Some c) h =
    let args : List (List Marked) = arguments d c.inside in
    cond_both (fits d (length args)) (Replaced (function_call d m c)) (Fails (ArgCount m.token.text (length args))) (IsSized (suc (suc n)))
    (λ e. omega (arith, waiting_weight d (params_of d) args, fits_length d (length args) e, arguments_of_cost (named_params d) (commas_of d c.inside) c.inside))
    (λ e. tt)

macro_head_sized : (d : DefValue) (o : Option (List (List ℕ))) (m : Marked) (rest : List Marked) → IsSized (suc (length rest)) (macro_head d o m rest)
macro_head_sized d None m rest = omega arith
macro_head_sized d (Some params) m [] = omega arith
macro_head_sized d (Some params) m (k ∷ ns) =
    cond_both (is_opens (delimiter_of k.token)) (call_head d m (closed ns 0)) (Stays m (k ∷ ns)) (IsSized (suc (suc (length ns))))
    (λ e. call_head_sized d m (length ns) (closed ns 0) (closed_cut ns 0)) (λ e. omega arith)

name_head_sized : (o : Option (Option DefValue)) (m : Marked) (rest : List Marked) → IsSized (suc (length rest)) (name_head o m rest)
name_head_sized None m rest = omega arith
name_head_sized (Some None) m rest = tt
name_head_sized (Some (Some d)) m rest = macro_head_sized d d.params m rest

stays_sized : (k : Marked) (rest : List Marked) → IsSized (suc (length rest)) (Stays k rest)
stays_sized k rest = omega arith

seen_head_sized : (macros : Macros) (here : Here) (m : Marked) (rest : List Marked) → IsSized (suc (length rest)) (seen_head macros here m rest)
seen_head_sized macros here m rest =
    let name : Head = name_head (macros m.token.text) m rest in
    let file : Head = cond (bytes_eq m.token.text (codes "__FILE__")) (Stays (file_token here m) rest) name in
    cond_both (bytes_eq m.token.text (codes "__LINE__")) (Stays (line_token here m) rest) file (IsSized (suc (length rest))) (λ e. stays_sized (line_token here m) rest)
    (λ e. cond_both (bytes_eq m.token.text (codes "__FILE__")) (Stays (file_token here m) rest) name (IsSized (suc (length rest))) (λ e. stays_sized (file_token here m) rest)
    (λ e. name_head_sized (macros m.token.text) m rest))

pub head_sized : (macros : Macros) (here : Here) (list : List Marked) → IsSized (length list) (head_of macros here list)
head_sized macros here [] = tt
head_sized macros here (m ∷ rest) =
    cond_both (is_kept m) (Stays m rest) (seen_head macros here m rest) (IsSized (suc (length rest))) (λ e. stays_sized m rest) (λ e. seen_head_sized macros here m rest)
