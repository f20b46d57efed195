use Rattle.std.proofs.Common.{refl}
use Rattle.mac_io.proofs.SomeFileLemmas.{too_long}
use Rattle.mac_io.proofs.real_file.read_file.Goals as goal

pub returns-then-length-limit : goal.returns-then-length-limit
returns-then-length-limit g c = too_long c.args.limit c.args.into.now.items c.args.into.now.items refl
