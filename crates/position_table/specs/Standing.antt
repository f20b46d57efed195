-- What holds behind some entries: the files that are open, and the definitions.
use Rattle.std.specs.Prelude.{◌≡◌, ℕ, ◌<◌, List, [], ◌∷◌, map, refl}
use Rattle.std.specs.Coded.{Coded, code_by, coded×, coded_ℕ, coded_list}
use Rattle.std.specs.Borrow.{Bor}
use Rattle.std.specs.FinMap as finite
use Rattle.mac_base.specs.declared.frames.Frame.{Frame}
use Rattle.mac_base.specs.Names.{name_of}
use Rattle.macro_table.specs.Tables.{EntryValue, TableOf}
use Rattle.macro_table.specs.Codes.{coded_table}
use Rattle.mac_base.specs.Items.{Item}
use Rattle.macro_table.specs.FileTable.{open_behind, changed}
use Rattle.position_table.specs.declared.draft.Definition.{Definition}
use Rattle.position_table.specs.Files.{frames_of}

-- the open files, the outermost first, each with the line of its inclusion, and the definitions
pub record Standing : Type 0 where
  pub files : List (ℕ × ℕ)
  pub table : TableOf ℕ

-- a standing is stored as the pair of its fields
abbrev pub coded_standing : Coded Standing
coded_standing = code_by (List (ℕ × ℕ) × TableOf ℕ) (coded× (coded_list (coded× coded_ℕ coded_ℕ)) coded_table) (λ s. (s.files, s.table)) (λ p. record { files = p.0; table = p.1 }) (λ _. refl)

-- before all entries no file is open, and there is no definition
abbrev pub at_first : Standing
at_first = record { files = []; table = finite.empty }

-- behind an entry more
abbrev pub behind_one : Standing → Item ℕ → Standing
behind_one s item = record { files = open_behind s.files item; table = changed s.files s.table item }

-- behind some entries more
abbrev pub behind_all : Standing → List (Item ℕ) → Standing
behind_all s [] = s
behind_all s (item ∷ items) = behind_all (behind_one s item) items

-- frames as plain pairs
abbrev pub pairs_of : List Frame → List (ℕ × ℕ)
pairs_of frames = map (λ (frame : Frame). (frame.path, frame.line)) frames

-- a definition with the files around it
abbrev pub value_in : List (List Frame) → Definition → EntryValue ℕ
value_in files definition = record { text = definition.text.now; files = pairs_of (frames_of files definition.file); line = definition.line }

-- definitions by their names
abbrev pub table_in : List (List Frame) → List (Bor (List ℕ) × Definition) → TableOf ℕ
table_in files definitions = finite.from_entries (map (λ (e : Bor (List ℕ) × Definition). (e.0.now, value_in files e.1)) definitions)

-- each definition stands under its name, in a file with a number below n
abbrev pub AreKept : ℕ → List (Bor (List ℕ) × Definition) → Type 0
AreKept n [] = Unit {0}
AreKept n (e ∷ es) = ((e.1.file.index < n) × (e.0.now ≡ name_of e.1.text.now)) × AreKept n es
