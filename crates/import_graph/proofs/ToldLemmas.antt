-- No fault of a walk is want of memory.
use Rattle.std.proofs.Common.{◌≡◌, ◌⊎◌, ℕ, ◌+◌, Bool, true, false, cond, List, Option, Some, None, Result, Ok, Err, inl, inr, refl, subst, sym}
use Rattle.std.specs.Prelude.{nat_lt, length}
use Rattle.mac_base.specs.Input.{Input, ◌>>=◌}
use Rattle.mac_base.specs.SectionBytes.{SectionBytes}
use Rattle.line_names.specs.declared.fault.LineFault.{LineFault}
use Rattle.unit_header.specs.declared.fault.UnitFault.{UnitFault}
use Rattle.unit_header.specs.declared.fault.UnitKind.{UnitKind}
use Rattle.unit_header.specs.declared.fault.UnitKind.TheVariants.{LineRange, ImportRange, StartWithoutEnd, TooManyEntries}
use Rattle.unit_header.specs.Header.{Header}
use Rattle.unit_header.specs.Reading.{header_at}
use Rattle.macro_opcodes.specs.Entry.{Entry}
use Rattle.macro_opcodes.specs.Reading.{entry_at}
use Rattle.line_names.specs.Entries.{tables_in}
use Rattle.line_names.specs.Files.{files_of}
use Rattle.info_roots.specs.declared.root.Root.{Root}
use Rattle.import_graph.specs.declared.fault.FileFault.{FileFault}
use Rattle.import_graph.specs.declared.fault.FileFault.TheVariants.{Line, Unit as BadUnit, NoMemory as RanOut}
use Rattle.import_graph.specs.Faults.{fault_at, entry_part, unit_part, line_part}
use Rattle.import_graph.specs.Meaning.{Lent, meaning}
use Rattle.import_graph.specs.Units.{Reader, paths_at, root_paths, lent_by, unit_paths, begun, root_begun}
use Rattle.import_graph.specs.Walk.{Turn, Ends, turn_by, turn_behind, turn_at, Walk, Finishes, Stops, Goes, Again, Cycle, Bars, Fails, Returns, RootWalk, NoTable, NoUnit, Walks}
use Rattle.import_graph.specs.Graph.{IsFirstFault}

-- a fault that says something of the file
abbrev pub IsTold : FileFault → Type 0
IsTold (Line fault) = Unit {0}
IsTold (BadUnit fault) = Unit {0}
IsTold RanOut = ⊥

-- an answer whose fault says something of the file
abbrev Told : {A : Type 0} → Result A FileFault → Type 0
Told (Ok x) = Unit {0}
Told (Err fault) = IsTold fault

told_then : {A B : Type 0} (r : Result A FileFault) (f : A → Result B FileFault) → Told r → ((x : A) → Told (f x)) → Told (r >>= f)
told_then (Ok x) f is more = more x
told_then (Err fault) f is more = is

told_if : {A : Type 0} (t : Bool) (r o : Result A FileFault) → Told r → Told o → Told (cond t r o)
told_if true r o is other = is
told_if false r o is other = other

told_entry : {A : Type 0} (at : ℕ) (r : Result A UnitKind) → Told (entry_part at r)
told_entry at (Ok x) = tt
told_entry at (Err what) = tt

told_unit : {A : Type 0} (r : Result A UnitFault) → Told (unit_part r)
told_unit (Ok x) = tt
told_unit (Err fault) = tt

told_line : {A : Type 0} (r : Result A LineFault) → Told (line_part r)
told_line (Ok x) = tt
told_line (Err fault) = tt

told_behind : (s : SectionBytes) (lent : Lent) (unit : Reader) (files : ℕ) (p : Input) (read : Option Entry × Input) → Told (turn_behind s lent unit files p read)
told_behind s lent unit files p (None, q) = told_if _ (Ok Ends) (Err (fault_at p.at StartWithoutEnd)) tt tt
told_behind s lent unit files p (Some e, q) = told_entry e.at (meaning s lent unit.paths e >>= turn_by e.at files q)

told_turn : (s : SectionBytes) (lent : Lent) (unit : Reader) (files : ℕ) (p : Input) → Told (turn_at s lent unit files p)
unfolding turn_at
told_turn s lent unit files p = told_then (unit_part (entry_at unit.header p)) (turn_behind s lent unit files p) (told_unit (entry_at unit.header p)) (told_behind s lent unit files p)

told_paths_at : (s : SectionBytes) (off : ℕ) → Told (paths_at s off)
told_paths_at s off = told_then (line_part (files_of (tables_in s) off)) (λ paths. Ok (Some paths)) (told_line (files_of (tables_in s) off)) (λ paths. tt)

told_root_paths : (s : SectionBytes) (line : Option ℕ) → Told (root_paths s line)
told_root_paths s None = tt
told_root_paths s (Some off) = told_paths_at s off

told_lent : (s : SectionBytes) (root : Root) → Told (lent_by s root)
told_lent s root = told_then (root_paths s root.line) (λ paths. Ok (record { paths = paths; str_base = root.str_base; wide = root.wide })) (told_root_paths s root.line) (λ paths. tt)

told_unit_paths : (s : SectionBytes) (lent : Lent) (at : ℕ) (line : Option ℕ) → Told (unit_paths s lent at line)
told_unit_paths s lent at None = tt
told_unit_paths s lent at (Some off) = told_if (nat_lt off (length s.lines)) (paths_at s off) (Err (fault_at (at + 3) LineRange)) (told_paths_at s off) tt

told_begun : (s : SectionBytes) (lent : Lent) (at : ℕ) → Told (begun s lent at)
told_begun s lent at =
    told_then (unit_part (header_at (record { bytes = s.macros; at = at }))) _ (told_unit (header_at (record { bytes = s.macros; at = at })))
    (λ header. told_then (unit_paths s lent at header.0.line) (λ paths. Ok (record { header = header.0; paths = paths }, header.1)) (told_unit_paths s lent at header.0.line) (λ paths. tt))

told_root_begun : (s : SectionBytes) (lent : Lent) (at : ℕ) → Told (root_begun s lent at)
told_root_begun s lent at = told_if (nat_lt at (length s.macros)) (begun s lent at) (Err (fault_at at ImportRange)) (told_begun s lent at) tt

told_of : {A : Type 0} (r : Result A FileFault) (fault : FileFault) → r ≡ Err fault → Told r → IsTold fault
told_of {A} r fault is told = subst (λ (o : Result A FileFault). Told o) is told

told_walk : {s : SectionBytes} {lent : Lent} {unit : Reader} {around walked : List ℕ} {files : ℕ} {p : Input} {answer : Result (List ℕ) FileFault} → Walk s lent unit around walked files p answer → Told answer
told_walk {s} {lent} (Finishes unit around walked files p is) = tt
told_walk {s} {lent} (Stops unit around walked files p fault is) = told_of (turn_at s lent unit files p) fault is (told_turn s lent unit files p)
told_walk {s} {lent} (Goes unit around walked files more p q answer is rest) = told_walk rest
told_walk {s} {lent} (Again unit around walked files at target p q answer is among rest) = told_walk rest
told_walk {s} {lent} (Cycle unit around walked files at target p q is among around') = tt
told_walk {s} {lent} (Bars unit around walked files at target p q fault is among around' bars) = told_of (begun s lent target) fault bars (told_begun s lent target)
told_walk {s} {lent} (Fails unit around walked files at target p q other start fault is among around' begins inner) = told_walk inner
told_walk {s} {lent} (Returns unit around walked files at target p q other start more answer is among around' begins inner rest) = told_walk rest

told_root : {s : SectionBytes} {root : Root} {answer : Result (List ℕ) FileFault} → RootWalk s root answer → Told answer
told_root {s} {root} (NoTable fault is) = told_of (lent_by s root) fault is (told_lent s root)
told_root {s} {root} (NoUnit lent fault is begins) = told_of (root_begun s lent root.macros) fault begins (told_root_begun s lent root.macros)
told_root {s} {root} (Walks lent unit start answer is begins walk) = told_walk walk

-- a first fault says something of the file
pub first_is_told : (s : SectionBytes) (root : Root) (fault : FileFault) → IsFirstFault s root fault → IsTold fault
first_is_told s root fault (inl walk) = told_root walk
first_is_told s root fault (inr more) = subst IsTold (sym more.0) tt
