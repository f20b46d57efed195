-- How many bytes the compilation unit of an object has.
use Rattle.std.proofs.Common.{◌≡◌, ℕ, zero, suc, ◌+◌, ◌/◌, ◌≤◌, Bool, true, false, cond, ltb, [], ◌∷◌, length, Some, None, refl, ap, ◌∙◌, arith, length-append, append-nil}
use Rattle.std.proofs.lemmas.Bool.{ltb-false}
use Rattle.mac_base.specs.Values.{offset_width}
use Rattle.mac_base.specs.Writing.{fixed_bytes, length_bytes}
use Rattle.info_roots.specs.Written.{body_bytes, optional_bytes, unit_bytes, info_bytes}
use Rattle.info_roots.proofs.BodyLemmas.{body_long}
use Rattle.object_writer.specs.declared.layout.Layout.{Layout}
use Rattle.object_writer.specs.declared.object.UnitInfo.{UnitInfo}
use Rattle.object_writer.specs.Object.{object_root, macros_place}

pub fixed_long : (k n : ℕ) → length (fixed_bytes k n) ≡ k
fixed_long zero n = refl
fixed_long (suc k) n = ap suc (fixed_long k (n / 256))

pub length_long : (wide : Bool) (n : ℕ) → length (length_bytes wide n) ≡ cond wide 12 4
length_long true n = length-append (fixed_bytes 4 0xffff_ffff) (fixed_bytes 8 n) ∙ ap (λ k. 4 + k) (fixed_long 8 n)
length_long false n = fixed_long 4 n

base_long : (wide indexed : Bool) → length (optional_bytes wide (cond indexed (Some 0) None)) ≡ cond indexed (offset_width wide) 0
base_long wide true = fixed_long (offset_width wide) 0
base_long wide false = refl

pub info_long : (layout : Layout) (wide : Bool) (unit : UnitInfo) → length (info_bytes (object_root layout wide unit ∷ [])) ≡ macros_place wide unit + offset_width wide + offset_width wide + cond layout.indexed (offset_width wide) 0
unfolding unit_bytes
info_long layout wide unit =
    let root = object_root layout wide unit in
    let whole : info_bytes (root ∷ []) ≡ unit_bytes root = append-nil (unit_bytes root) in
    let parts = length-append (length_bytes wide (length (body_bytes root))) (body_bytes root) in
    let start = length_long wide (length (body_bytes root)) in
    let line : length (optional_bytes wide (Some 0)) ≡ offset_width wide = fixed_long (offset_width wide) 0 in
    omega (arith, ap length whole, parts, start, body_long root, line, base_long wide layout.indexed)

-- names and folders of a unit that is not too large are not
pub texts_small : (layout : Layout) (wide : Bool) (unit : UnitInfo) (limit : ℕ) → ltb limit (length (info_bytes (object_root layout wide unit ∷ []))) ≡ false → (length unit.name ≤ limit) × (length unit.dir ≤ limit)
texts_small layout wide unit limit small =
    let most : length (info_bytes (object_root layout wide unit ∷ [])) ≤ limit = ltb-false limit (length (info_bytes (object_root layout wide unit ∷ []))) small in
    (omega (arith, most, info_long layout wide unit), omega (arith, most, info_long layout wide unit))
