use Rattle.std.proofs.Common.{take}
use Rattle.mac_io.specs.Files.{AreAllBytes}
use Rattle.mac_io.proofs.map_shelf.each_is_bytes.Given as goal

abbrev pub invariant-loop-content : goal.invariant-loop-content
invariant-loop-content l = AreAllBytes (take l.content-index l.contents)
