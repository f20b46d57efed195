use Rattle.std.proofs.Common.{◌≡◌, ℕ, List, Ok, subst}
use Rattle.unit_header.specs.Header.{header_of}
use Rattle.unit_header.specs.Reading.{header_at}
use Rattle.import_graph.proofs.WalkStepLemmas.{inside_by}
use Rattle.import_graph.proofs.walk.Walk.enter.Goals as goal

pub returns-clause-begun : goal.returns-clause-begun
returns-clause-begun c = λ s lent look lends.
    let unit = c.in_ok-unit.unit in
    let is = c.in_ok-unit.ensures.unit s lent look lends in
    let new = c.in_ok-unit.ensures.new in
    record {
      header = subst (λ (b : List ℕ). header_at (record { bytes = b; at = c.args.at }) ≡ Ok (header_of unit.header, unit.cursor)) look.0 c.in_ok-unit.ensures.header;
      has_paths = is.0;
      begun_so = is.1;
      fits = is.2;
      stands = new.0;
      no_file = new.1;
      no_link = new.2;
      no_count = new.3;
    }

pub returns-clause-inside : goal.returns-clause-inside
returns-clause-inside c = inside_by c.args.self.now.lookup.macros.now c.args.at (header_of c.in_ok-unit.unit.header) c.in_ok-unit.unit.cursor c.in_ok-unit.ensures.header
