-- How many bytes the units of a linked file have.
use Rattle.std.proofs.Common.{◌≡◌, ℕ, ◌+◌, Bool, cond, length, Some, arith, length-append}
use Rattle.mac_base.specs.Values.{offset_width}
use Rattle.mac_base.specs.Writing.{length_bytes}
use Rattle.info_roots.specs.declared.root.Root.{Root}
use Rattle.info_roots.specs.Written.{body_bytes, optional_bytes, unit_bytes}
use Rattle.info_roots.proofs.BodyLemmas.{body_long}
use Rattle.object_writer.proofs.InfoLemmas.{fixed_long, length_long}

pub optional_long : (wide : Bool) (n : ℕ) → length (optional_bytes wide (Some n)) ≡ offset_width wide
optional_long wide n = fixed_long (offset_width wide) n

pub unit_long : (root : Root) →
    length (unit_bytes root) ≡ cond root.wide 12 4 + 7 + length root.name + length root.dir + offset_width root.wide + offset_width root.wide + length (optional_bytes root.wide root.line) + length (optional_bytes root.wide root.str_base)
unfolding unit_bytes
unit_long root =
    let n = length (body_bytes root) in
    omega (arith, length-append (length_bytes root.wide n) (body_bytes root), length_long root.wide n, body_long root)
