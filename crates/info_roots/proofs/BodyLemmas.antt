-- How many bytes are written.
use Rattle.std.proofs.Common.{◌≡◌, ℕ, ◌+◌, ◌<◌, ◌≤◌, Bool, List, [], ◌∷◌, ◌++◌, length, get_or, drop, ap, ◌∙◌, sym, arith, length-append, append_assoc, append-nil}
use Rattle.std.proofs.lemmas.List.{drop_more, drop_all}
use Rattle.std.proofs.lemmas.List.Folds.{length-flat_map-take}
use Rattle.mac_base.specs.Values.{offset_width}
use Rattle.mac_base.specs.Writing.{length_bytes, offset_bytes, string_bytes}
use Rattle.mac_base.proofs.WritingLemmas.{fixed_long}
use Rattle.info_roots.specs.declared.root.Root.{Root}
use Rattle.info_roots.specs.Written.{code_for, optional_bytes, body_bytes, unit_bytes, info_bytes}

pub offset_long : (wide : Bool) (n : ℕ) → length (offset_bytes wide n) ≡ offset_width wide
offset_long wide n = fixed_long (offset_width wide) n

pub body_long : (root : Root) →
    length (body_bytes root) ≡ 7 + length root.name + length root.dir + offset_width root.wide + offset_width root.wide + length (optional_bytes root.wide root.line) + length (optional_bytes root.wide root.str_base)
unfolding body_bytes
body_long root =
    let ends = optional_bytes root.wide root.line ++ optional_bytes root.wide root.str_base in
    let offsets = offset_bytes root.wide root.macros ++ ends in
    let texts = string_bytes root.dir ++ offsets in
    let e = length-append (optional_bytes root.wide root.line) (optional_bytes root.wide root.str_base) in
    let d = length-append (offset_bytes root.wide root.macros) ends in
    let c = length-append (string_bytes root.dir) offsets in
    let b = length-append (string_bytes root.name) texts in
    let a = length-append (offset_bytes root.wide 0) (code_for root.line root.str_base ∷ (string_bytes root.name ++ texts)) in
    let name = length-append root.name (0 ∷ []) in
    let dir = length-append root.dir (0 ∷ []) in
    omega (arith, a, b, c, d, e, name, dir, offset_long root.wide 0, offset_long root.wide root.macros)

pub unit_long : (root : Root) → length (body_bytes root) ≤ length (unit_bytes root)
unfolding unit_bytes
unit_long root = omega (arith, length-append (length_bytes root.wide (length (body_bytes root))) (body_bytes root))

-- no unit is longer than all of them
pub unit_within : (roots : List Root) (i : ℕ) (root : Root) → i < length roots → root ≡ get_or roots i root → length (info_bytes roots) ≤ 1073741824 → length (body_bytes root) < 0xffff_fff0
unit_within roots i root within is few =
    let parts = length-flat_map-take unit_bytes roots i root within in
    let same : length (unit_bytes (get_or roots i root)) ≡ length (unit_bytes root) = ap (λ (r : Root). length (unit_bytes r)) (sym is) in
    omega (arith, parts, same, few, unit_long root)

-- what was written, and what the roots from this one on are written as, are the whole
pub written_more : (info new : List ℕ) (roots : List Root) (i : ℕ) (root : Root) → i < length roots → root ≡ get_or roots i root → new ≡ info ++ unit_bytes root → info ++ info_bytes (drop i roots) ≡ info_bytes roots → new ++ info_bytes (drop (i + 1) roots) ≡ info_bytes roots
written_more info new roots i root within is added whole =
    let left = info_bytes (drop (i + 1) roots) in
    let next : drop i roots ≡ root ∷ drop (i + 1) roots = drop_more roots i root within ∙ ap (λ (r : Root). r ∷ drop (i + 1) roots) (sym is) in
    ap (λ (xs : List ℕ). xs ++ left) added ∙ append_assoc info (unit_bytes root) left ∙ ap (λ (rs : List Root). info ++ info_bytes rs) (sym next) ∙ whole

pub written_all : (info : List ℕ) (roots : List Root) (n : ℕ) → length roots ≤ n → info ++ info_bytes (drop n roots) ≡ info_bytes roots → info ≡ info_bytes roots
written_all info roots n past whole = sym (append-nil info) ∙ ap (λ (rs : List Root). info ++ info_bytes rs) (sym (drop_all n roots past)) ∙ whole
