use Rattle.std.proofs.Common.{◌≡◌, Ok, subst}
use Rattle.mac_base.specs.Input.{Input}
use Rattle.unit_header.specs.Header.{header_of}
use Rattle.unit_header.specs.Reading.{header_at}
use Rattle.import_graph.specs.Numbers.{paths_of}
use Rattle.import_graph.proofs.BeginLemmas.{begun_by}
use Rattle.import_graph.proofs.begin.begin.Goals as goal

pub returns-clause-unit : goal.returns-clause-unit
returns-clause-unit c = λ s lent look lends.
    let found = c.in_ok-files.ensures.ok s lent lends in
    let read = subst (λ (p : Input). header_at p ≡ Ok (header_of c.in_ok-header.header, c.read_header.new.cursor)) c.new-cursor.ensures c.in_ok-header.ensures in
    (found.0, begun_by s lent c.args.at c.args.lookup.now.macros.now (header_of c.in_ok-header.header) c.read_header.new.cursor (paths_of c.of_unit.new.self.paths c.in_ok-files.files) look.0 read found.0, found.1)
