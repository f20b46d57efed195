-- Codes of the models' values, by which proofs tell them apart. They say nothing of the values.
use Rattle.std.specs.Prelude.{ℕ, List, refl}
use Rattle.std.specs.Coded.{Coded, code_by, coded×, coded_ℕ, coded_list}
use Rattle.std.specs.FinMap as map
use Rattle.mac_io.specs.Files.{Files}
use Rattle.mac_io.specs.InMemory.{CallLog, MemoryShelf}

-- lists of lists of numbers
abbrev pub coded_bytes : Coded (List ℕ)
coded_bytes = coded_list coded_ℕ

-- files
abbrev pub coded_files : Coded Files
coded_files = map.code coded_bytes coded_bytes

-- logs of calls
abbrev pub coded_log : Coded CallLog
coded_log = code_by (List ℕ × (ℕ × ℕ)) (coded× coded_bytes (coded× coded_ℕ coded_ℕ)) (λ l. (l.failing, (l.calls, l.faults))) (λ p. record { failing = p.0; calls = p.1.0; faults = p.1.1 }) (λ _. refl)

-- shelves in memory
abbrev pub coded_shelf : Coded MemoryShelf
coded_shelf = code_by (Files × CallLog) (coded× coded_files coded_log) (λ s. (s.files, s.log)) (λ p. record { files = p.0; log = p.1 }) (λ _. refl)
