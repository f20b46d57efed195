-- A unit that begins has a header and a line table.
use Rattle.std.proofs.Common.{◌≡◌, ℕ, List, Option, Result, Ok, ap, sym, ◌∙◌}
use Rattle.mac_base.specs.Input.{Input, ◌>>=◌}
use Rattle.mac_base.specs.SectionBytes.{SectionBytes}
use Rattle.unit_header.specs.declared.fault.UnitFault.{UnitFault}
use Rattle.unit_header.specs.Header.{Header}
use Rattle.unit_header.specs.Reading.{header_at}
use Rattle.import_graph.specs.declared.fault.FileFault.{FileFault}
use Rattle.import_graph.specs.Faults.{unit_part}
use Rattle.import_graph.specs.Meaning.{Lent}
use Rattle.import_graph.specs.Units.{Reader, unit_paths, begun}

-- with the header h, whose entries begin at q
with_header : Header → Input → Option (List (List ℕ)) → Result (Reader × Input) FileFault
with_header h q paths = Ok (record { header = h; paths = paths }, q)

behind_header : SectionBytes → Lent → ℕ → Header × Input → Result (Reader × Input) FileFault
unfolding with_header
behind_header s lent at (h, q) = unit_paths s lent at h.line >>= with_header h q

pub begun_by : (s : SectionBytes) (lent : Lent) (at : ℕ) (bytes : List ℕ) (h : Header) (q : Input) (paths : Option (List (List ℕ))) → bytes ≡ s.macros → header_at (record { bytes = bytes; at = at }) ≡ Ok (h, q) → unit_paths s lent at h.line ≡ Ok paths →
    begun s lent at ≡ Ok (record { header = h; paths = paths }, q)
unfolding behind_header
begun_by s lent at bytes h q paths same read found =
    ap (λ (r : Result (Header × Input) UnitFault). unit_part r >>= behind_header s lent at) (ap (λ (b : List ℕ). header_at (record { bytes = b; at = at })) (sym same) ∙ read)
    ∙ ap (λ (r : Result (Option (List (List ℕ))) FileFault). r >>= with_header h q) found
