-- Which bytes spell a line table that names a list of paths (DWARF 5, 6.2.4 and 7.22), apart from how it is read.
use Rattle.std.specs.Prelude.{◌≡◌, ◌⊎◌, ℕ, suc, ◌==◌, ◌<◌, ◌^◌, Bool, if◌then◌else◌, IsTrue, List, [], ◌∷◌, ◌++◌, length, map, Option, Some, None}
use Rattle.std.specs.List.{list_any}
use Rattle.mac_base.specs.Spelling.{IsUleb}
use Rattle.mac_base.specs.LengthSpelling.{IsLength}
use Rattle.mac_base.specs.declared.form.Form.{Form}
use Rattle.mac_base.specs.declared.form.Form.TheVariants.{LineStrp}
use Rattle.mac_base.specs.declared.value.Sizes.{Sizes}
use Rattle.mac_base.specs.Forms.{form_by_code, layout_by_form}
use Rattle.mac_base.specs.Values.{Value, Number, Text, offset_width}
use Rattle.mac_base.specs.ValueSpelling.{IsValue}
use Rattle.string_sections.specs.Strings.{string_of}
use Rattle.line_names.specs.declared.format.Role.{Role}
use Rattle.line_names.specs.declared.format.Role.TheVariants.{Path, Directory, Other}
use Rattle.line_names.specs.ContentTypes.{DW_LNCT_path, DW_LNCT_directory_index}
use Rattle.line_names.specs.Format.{form_fits}
use Rattle.line_names.specs.Entries.{Entry}
use Rattle.line_names.specs.Files.{path_in}

-- the bytes spell these items, one after another
abbrev pub AreEach : {A : Type 0} → (List ℕ → A → Type 0) → List ℕ → List A → Type 0
AreEach IsOne bytes [] = bytes ≡ []
AreEach IsOne bytes (x ∷ xs) = (front back : List ℕ) × (bytes ≡ front ++ back) × IsOne front x × AreEach IsOne back xs

-- A pair of an entry format (items 15 and 19): a content type code, and the form of that content.
pub record Pair : Type 0 where
  pub content_type : ℕ
  pub form : Form

-- the bytes spell a pair: the content type code and the code of the form, both in ULEB128
pub record IsPair (bytes : List ℕ) (pair : Pair) : Type 0 where
  pub type_bytes : List ℕ
  pub form_bytes : List ℕ
  pub form_code : ℕ
  pub spelled : bytes ≡ type_bytes ++ form_bytes
  pub is_type : IsUleb type_bytes pair.content_type
  pub type_fits : pair.content_type < 2 ^ 64
  pub is_code : IsUleb form_bytes form_code
  pub code_fits : form_code < 2 ^ 64
  pub is_form : form_by_code form_code ≡ Some pair.form

-- whether one of these pairs has the content type
abbrev pub lists_type : ℕ → List Pair → Bool
lists_type content_type pairs = list_any (λ pair. pair.content_type == content_type) pairs

-- What the content of this type is for that follows these pairs in a format: the first of type DW_LNCT_path is the path, the first of type DW_LNCT_directory_index is the index of the directory, and all others are passed over.
abbrev pub role_after : List Pair → ℕ → Role
role_after before content_type =
    if content_type == DW_LNCT_path then if lists_type DW_LNCT_path before then Other else Path
    else if content_type == DW_LNCT_directory_index then if lists_type DW_LNCT_directory_index before then Other else Directory
    else Other

-- each content of a format has a form that contents of its role may have (6.2.4.1)
abbrev pub AreAllowed : List Pair → Type 0
AreAllowed format = (before after : List Pair) (pair : Pair) → format ≡ before ++ pair ∷ after → IsTrue (form_fits (role_after before pair.content_type) pair.form)

-- a content of an entry: its pair in the format, and its value
pub record Field : Type 0 where
  pub pair : Pair
  pub value : Value

-- the bytes spell the value in the form of its pair
abbrev pub IsField : Sizes → List ℕ → Field → Type 0
IsField sizes bytes field = IsValue sizes (layout_by_form field.pair.form) bytes field.value

-- the first content of a type
abbrev pub first_of_type : ℕ → List Field → Option Field
first_of_type content_type [] = None
first_of_type content_type (field ∷ fields) = if field.pair.content_type == content_type then Some field else first_of_type content_type fields

-- the sections of strings, into which the offsets of paths go (7.5.5)
pub record StringSections : Type 0 where
  pub strs : List ℕ
  pub line_strs : List ℕ

-- DW_FORM_line_strp goes into .debug_line_str, DW_FORM_strp into .debug_str
abbrev pub section_by : StringSections → Form → List ℕ
section_by s LineStrp = s.line_strs
section_by s _ = s.strs

-- the value is this path, or the offset of this path
abbrev pub IsPathIn : List ℕ → Value → List ℕ → Type 0
IsPathIn section (Text text) path = path ≡ text
IsPathIn section (Number off) path = string_of section off ≡ Some path
IsPathIn section _ path = ⊥

-- the path of an entry, which it has to have
abbrev pub IsPath : StringSections → Option Field → List ℕ → Type 0
IsPath s None path = ⊥
IsPath s (Some field) path = IsPathIn (section_by s field.pair.form) field.value path

-- the index of an entry's directory, 0 where it has none
abbrev pub IsDirectoryIndex : Option Field → ℕ → Type 0
IsDirectoryIndex None index = index ≡ 0
IsDirectoryIndex (Some field) index = field.value ≡ Number index

-- The bytes spell an entry of this format: a value for each pair. Its path and its directory are the first contents of their types.
pub record IsEntry (s : StringSections) (sizes : Sizes) (format : List Pair) (bytes : List ℕ) (entry : Entry) : Type 0 where
  pub fields : List Field
  pub spelled : AreEach (IsField sizes) bytes fields
  pub by_format : map (λ (field : Field). field.pair) fields ≡ format
  pub is_path : IsPath s (first_of_type DW_LNCT_path fields) entry.path
  pub is_directory : IsDirectoryIndex (first_of_type DW_LNCT_directory_index fields) entry.directory

-- The bytes spell a list of entries (items 14 to 17 and 18 to 21): a byte with the number of the format's pairs, the pairs, the number of entries in ULEB128, and the entries.
pub record IsEntryList (s : StringSections) (sizes : Sizes) (bytes : List ℕ) (entries : List Entry) : Type 0 where
  pub format : List Pair
  pub pairs : List ℕ
  pub count : List ℕ
  pub body : List ℕ
  pub spelled : bytes ≡ length format ∷ (pairs ++ (count ++ body))
  pub are_pairs : AreEach IsPair pairs format
  pub allowed : AreAllowed format
  pub is_count : IsUleb count (length entries)
  pub count_fits : length entries < 2 ^ 64
  pub are_entries : AreEach (IsEntry s sizes format) body entries

-- The bytes spell the fields from the version to the lengths of the standard opcodes (items 2 to 13). opcode_base is one more than their number; header_length is not followed.
pub record IsHeader (wide : Bool) (bytes : List ℕ) (address_size : ℕ) : Type 0 where
  pub segment_selector_size : ℕ
  pub header_length : List ℕ
  pub minimum_instruction_length : ℕ
  pub maximum_operations_per_instruction : ℕ
  pub default_is_stmt : ℕ
  pub line_base : ℕ
  pub line_range : ℕ
  pub standard_opcode_lengths : List ℕ
  pub spelled : bytes ≡ 5 ∷ 0 ∷ address_size ∷ segment_selector_size ∷ (header_length ++ minimum_instruction_length ∷ maximum_operations_per_instruction ∷ default_is_stmt ∷ line_base ∷ line_range ∷ suc (length standard_opcode_lengths) ∷ standard_opcode_lengths)
  pub is_offset : length header_length ≡ offset_width wide

-- the directory of a file is the first, or one of those that there are
abbrev pub HasDirectory : List Entry → Entry → Type 0
HasDirectory directories file = (file.directory ≡ 0) ⊎ (file.directory < length directories)

-- each of these files has its directory
abbrev pub HaveDirectories : List Entry → List Entry → Type 0
HaveDirectories directories [] = Unit {0}
HaveDirectories directories (file ∷ files) = HasDirectory directories file × HaveDirectories directories files

-- the files as paths
abbrev pub paths_of : List Entry → List Entry → List (List ℕ)
paths_of directories files = map (λ file. path_in (map (λ (directory : Entry). directory.path) directories) file) files

-- The bytes spell what follows the length of a unit: the header, the directories, the files, and the line number program, of which nothing is asked.
pub record IsBody (s : StringSections) (wide : Bool) (bytes : List ℕ) (paths : List (List ℕ)) : Type 0 where
  pub address_size : ℕ
  pub header : List ℕ
  pub directory_list : List ℕ
  pub file_list : List ℕ
  pub program : List ℕ
  pub directories : List Entry
  pub files : List Entry
  pub spelled : bytes ≡ header ++ (directory_list ++ (file_list ++ program))
  pub is_header : IsHeader wide header address_size
  pub are_directories : IsEntryList s (record { wide = wide; address = address_size }) directory_list directories
  pub are_files : IsEntryList s (record { wide = wide; address = address_size }) file_list files
  pub within : HaveDirectories directories files
  pub are_paths : paths ≡ paths_of directories files

-- The bytes spell a line table that names these paths: the length of what follows, and what follows.
pub record IsTable (s : StringSections) (bytes : List ℕ) (paths : List (List ℕ)) : Type 0 where
  pub wide : Bool
  pub unit_length : List ℕ
  pub body : List ℕ
  pub spelled : bytes ≡ unit_length ++ body
  pub is_length : IsLength wide unit_length (length body)
  pub is_body : IsBody s wide body paths

-- these bytes are in a section, from this offset on
pub record IsAt (section : List ℕ) (off : ℕ) (bytes : List ℕ) : Type 0 where
  pub before : List ℕ
  pub after : List ℕ
  pub parts : section ≡ before ++ (bytes ++ after)
  pub place : length before ≡ off
