use Rattle.std.proofs.Common.{◌≡◌, ◌∷◌, ◌++◌, drop}
use Rattle.std.specs.Prelude.{flat_map}
use Rattle.macro_expand.specs.Heads.{in_file}
use Rattle.macro_expand.proofs.rescan.head.file_text.Given as goal

abbrev pub invariant-loop-byte : goal.invariant-loop-byte
invariant-loop-byte l = l.text.items ++ flat_map in_file (drop l.byte-index l.file) ≡ 34 ∷ flat_map in_file l.file
