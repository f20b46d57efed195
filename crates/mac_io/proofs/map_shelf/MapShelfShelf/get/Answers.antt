use Rattle.std.proofs.Common.{ap, sym}
use Rattle.mac_io.specs.InMemory.{MemoryShelf}
use Rattle.mac_io.proofs.FileLemmas.{files_of_bytes}
use Rattle.mac_io.proofs.map_shelf.MapShelfShelf.get.Goals as goal

pub returns-then-fails-clause-bytes : goal.returns-then-fails-clause-bytes
returns-then-fails-clause-bytes c = files_of_bytes c.args.self.now.files c.self.inside.names.items c.self.inside.contents.items (ap (λ (shelf : MemoryShelf). shelf.files) (sym c.self.view_is)) c.self.invariant.1

pub returns-clause-bytes : goal.returns-clause-bytes
returns-clause-bytes c = files_of_bytes c.args.self.now.files c.self.inside.names.items c.self.inside.contents.items (ap (λ (shelf : MemoryShelf). shelf.files) (sym c.self.view_is)) c.self.invariant.1
