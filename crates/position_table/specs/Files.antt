-- Files that were opened, each with the ones around it. They are numbered in the order in which they began; number 0 stands for no file.
use Rattle.std.specs.Prelude.{ℕ, ◌+◌, ◌<◌, List, [], ◌∷◌, ◌++◌, slice_get, unwrap_or}
use Rattle.mac_base.specs.declared.frames.Frame.{Frame}
use Rattle.position_table.specs.declared.files.FileId.{FileId}
use Rattle.position_table.specs.declared.files.OpenFile.{OpenFile}

-- the files that are open where the one of this number is the innermost, the outermost first
abbrev pub frames_of : List (List Frame) → FileId → List Frame
frames_of files id = unwrap_or (slice_get files id.index) []

-- the same for a file more
abbrev pub frames_with : List (List Frame) → OpenFile → List Frame
frames_with files file = frames_of files file.around ++ file.frame ∷ []

-- the same for all numbers, behind those before
abbrev pub all_frames : List (List Frame) → List OpenFile → List (List Frame)
all_frames before [] = before
all_frames before (file ∷ files) = all_frames (before ++ frames_with before file ∷ []) files

-- these files, which are numbered from n on, each stand in one that began before
abbrev pub AreNested : ℕ → List OpenFile → Type 0
AreNested n [] = Unit {0}
AreNested n (file ∷ files) = (file.around.index < n) × AreNested (n + 1) files
