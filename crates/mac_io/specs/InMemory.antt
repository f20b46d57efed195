-- A store and a sink in memory, and which of their calls fail.
use Rattle.std.specs.Prelude.{ℕ, ◌+◌, ◌==◌, nat_lt, Bool, true, false, ◌||◌, if◌then◌else◌, List, ◌++◌, length}
use Rattle.std.specs.List.{list_any}
use Rattle.std.specs.FinMap as map
use Rattle.mac_io.specs.Causes.{risen}
use Rattle.mac_io.specs.Files.{Files}
use Rattle.mac_io.specs.declared.shelf.Put.{Put}
use Rattle.mac_io.specs.declared.shelf.Put.TheVariants.{Done, Failed, NoMemory}

-- the numbers of the calls that are to fail, counted from 1 on, how many calls were made, and how many of them failed
pub record CallLog : Type 0 where
  pub failing : List ℕ
  pub calls : ℕ
  pub faults : ℕ

-- whether the next call is to fail
abbrev pub is_due : CallLog → Bool
is_due log = list_any (λ number. number == risen log.calls) log.failing

-- one call later, which failed or not
abbrev pub after_call : CallLog → Bool → CallLog
after_call log failed = record log { calls = risen log.calls; faults = if failed then risen log.faults else log.faults }

-- a store
pub record MemoryShelf : Type 0 where
  pub files : Files
  pub log : CallLog

-- one look-up later
abbrev pub after_get : MemoryShelf → MemoryShelf
after_get shelf = record shelf { log = after_call shelf.log (is_due shelf.log) }

-- one storing of a file later, by its answer
abbrev pub after_put : MemoryShelf → List ℕ → List ℕ → Put → MemoryShelf
after_put shelf name bytes Done = record { files = map.insert shelf.files name bytes; log = after_call shelf.log false }
after_put shelf name bytes Failed = record { files = shelf.files; log = after_call shelf.log true }
after_put shelf name bytes NoMemory = record { files = shelf.files; log = after_call shelf.log false }

-- a sink, which takes so many bytes in all
pub record MemorySink : Type 0 where
  pub text : List ℕ
  pub room : ℕ
  pub log : CallLog

-- a write fails where it is to fail, or the piece doesn't fit
abbrev pub write_fails : MemorySink → List ℕ → Bool
write_fails sink piece = is_due sink.log || nat_lt sink.room (length sink.text + length piece)

-- one write later
abbrev pub after_write : MemorySink → List ℕ → MemorySink
after_write sink piece = record { text = if write_fails sink piece then sink.text else sink.text ++ piece; room = sink.room; log = after_call sink.log (write_fails sink piece) }
