-- The line table that is written of a list of paths names them.
use Rattle.std.proofs.Common.{◌≡◌, ◌≢◌, ℕ, ◌+◌, ◌<◌, ◌≤◌, ◌^◌, Bool, true, false, List, [], ◌∷◌, ◌++◌, length, map, Ok, inl, refl, ap, subst, ◌∙◌, sym, arith, append_assoc, append-nil, length-append, lit<}
use Rattle.std.specs.List.{AllByRecursion, flat_map}
use Rattle.std.proofs.lemmas.List.{length-map}
use Rattle.mac_base.specs.Spelling.{IsUleb}
use Rattle.mac_base.specs.LengthSpelling.{IsLength}
use Rattle.mac_base.specs.Writing.{uleb_bytes, length_bytes, offset_bytes}
use Rattle.mac_base.specs.Values.{Text, Number, offset_width}
use Rattle.mac_base.specs.declared.form.Form.TheVariants.{String, Udata}
use Rattle.mac_base.specs.declared.value.Sizes.{Sizes}
use Rattle.mac_base.proofs.WritingLemmas.{uleb_spelled, length_spelled}
use Rattle.line_names.specs.Entries.{Tables, Entry}
use Rattle.line_names.specs.Files.{files_of}
use Rattle.line_names.specs.Spelling.{Pair, IsPair, AreEach, StringSections, IsEntry, IsEntryList, HaveDirectories, paths_of, IsBody, IsTable, IsAt}
use Rattle.line_names.specs.Laws.{strings_in}
use Rattle.line_names.specs.Written.{opcode_fields, directory_bytes, file_format, file_bytes, files_bytes, field_bytes, table_with, table_bytes, HaveNoNul}
use Rattle.line_names.proofs.PairLemmas.{allowed_from}
use Rattle.line_names.proofs.TableLemmas.{table_again}

-- the pairs of the two formats
abbrev path_pair : Pair
path_pair = record { content_type = 1; form = String }

abbrev directory_pair : Pair
directory_pair = record { content_type = 2; form = Udata }

one_digit : (n : ℕ) → n < 128 → IsUleb (n ∷ []) n
one_digit n small = record { digits = small; number = omega arith }

is_path_pair : IsPair (1 ∷ 8 ∷ []) path_pair
is_path_pair = record { type_bytes = 1 ∷ []; form_bytes = 8 ∷ []; form_code = 8; spelled = refl; is_type = one_digit 1 (lit< tt); type_fits = lit< tt; is_code = one_digit 8 (lit< tt); code_fits = lit< tt; is_form = refl }

is_directory_pair : IsPair (2 ∷ 0x0f ∷ []) directory_pair
is_directory_pair = record { type_bytes = 2 ∷ []; form_bytes = 0x0f ∷ []; form_code = 0x0f; spelled = refl; is_type = one_digit 2 (lit< tt); type_fits = lit< tt; is_code = one_digit 0x0f (lit< tt); code_fits = lit< tt; is_form = refl }

-- an entry with this path in the first directory
abbrev entry_for : List ℕ → Entry
entry_for path = record { path = path; directory = 0 }

dot : (s : StringSections) (sizes : Sizes) → IsEntry s sizes (path_pair ∷ []) (0x2e ∷ 0 ∷ []) (entry_for (0x2e ∷ []))
dot s sizes = record {
  fields = record { pair = path_pair; value = Text (0x2e ∷ []) } ∷ [];
  spelled = (0x2e ∷ 0 ∷ [], [], refl, (0x2e ∷ [], record { ends = refl; no_nul = ((λ is. let no : 46 ≡ 0 = is in absurd (omega arith)), tt) }, refl), refl);
  by_format = refl;
  is_path = refl;
  is_directory = refl;
}

directories_spelled : (s : StringSections) (sizes : Sizes) → IsEntryList s sizes directory_bytes (entry_for (0x2e ∷ []) ∷ [])
directories_spelled s sizes = record {
  format = path_pair ∷ [];
  pairs = 1 ∷ 8 ∷ [];
  count = 1 ∷ [];
  body = 0x2e ∷ 0 ∷ [];
  spelled = refl;
  are_pairs = (1 ∷ 8 ∷ [], [], refl, is_path_pair, refl);
  allowed = allowed_from (path_pair ∷ []) (refl, tt);
  is_count = one_digit 1 (lit< tt);
  count_fits = lit< tt;
  are_entries = (0x2e ∷ 0 ∷ [], [], refl, dot s sizes, refl);
}

file_spelled : (s : StringSections) (sizes : Sizes) (path : List ℕ) → AllByRecursion (λ b. b ≢ 0) path → IsEntry s sizes (path_pair ∷ directory_pair ∷ []) (file_bytes path) (entry_for path)
file_spelled s sizes path no_nul = record {
  fields = record { pair = path_pair; value = Text path } ∷ record { pair = directory_pair; value = Number 0 } ∷ [];
  spelled = (
    path ++ 0 ∷ [],
    0 ∷ [],
    sym (append_assoc path (0 ∷ []) (0 ∷ [])),
    (path, record { ends = refl; no_nul = no_nul }, refl),
    (0 ∷ [], [], refl, (0, one_digit 0 (lit< tt), lit< tt, refl), refl),
  );
  by_format = refl;
  is_path = refl;
  is_directory = refl;
}

files_spelled : (s : StringSections) (sizes : Sizes) (paths : List (List ℕ)) → HaveNoNul paths → AreEach (IsEntry s sizes (path_pair ∷ directory_pair ∷ [])) (flat_map file_bytes paths) (map entry_for paths)
files_spelled s sizes [] no_nul = refl
files_spelled s sizes (path ∷ paths) no_nul = (file_bytes path, flat_map file_bytes paths, refl, file_spelled s sizes path no_nul.0, files_spelled s sizes paths no_nul.1)

list_spelled : (s : StringSections) (sizes : Sizes) (paths : List (List ℕ)) → HaveNoNul paths → length paths < 2 ^ 64 → IsEntryList s sizes (file_format ++ files_bytes paths) (map entry_for paths)
list_spelled s sizes paths no_nul small =
    let long = length-map paths entry_for in
    record {
      format = path_pair ∷ directory_pair ∷ [];
      pairs = 1 ∷ 8 ∷ 2 ∷ 0x0f ∷ [];
      count = uleb_bytes (length paths);
      body = flat_map file_bytes paths;
      spelled = refl;
      are_pairs = (1 ∷ 8 ∷ [], 2 ∷ 0x0f ∷ [], refl, is_path_pair, (2 ∷ 0x0f ∷ [], [], refl, is_directory_pair, refl));
      allowed = allowed_from (path_pair ∷ directory_pair ∷ []) (refl, (refl, tt));
      is_count = subst (IsUleb (uleb_bytes (length paths))) (sym long) (uleb_spelled (length paths) small);
      count_fits = subst (λ n. n < 2 ^ 64) (sym long) small;
      are_entries = files_spelled s sizes paths no_nul;
    }

in_first : (directories : List Entry) (paths : List (List ℕ)) → HaveDirectories directories (map entry_for paths)
in_first directories [] = tt
in_first directories (path ∷ paths) = (inl refl, in_first directories paths)

same_paths : (directories : List Entry) (paths : List (List ℕ)) → paths ≡ paths_of directories (map entry_for paths)
same_paths directories [] = refl
same_paths directories (path ∷ paths) = ap (λ (ps : List (List ℕ)). path ∷ ps) (same_paths directories paths)

offset_long : (wide : Bool) (n : ℕ) → length (offset_bytes wide n) ≡ offset_width wide
offset_long true n = refl
offset_long false n = refl

-- what follows unit_length
abbrev body_of : Bool → List ℕ → List ℕ
body_of wide fields = 5 ∷ 0 ∷ 8 ∷ 0 ∷ (offset_bytes wide (length fields) ++ fields)

body_long : (wide : Bool) (fields : List ℕ) → length (body_of wide fields) ≡ 4 + offset_width wide + length fields
body_long true fields = omega arith
body_long false fields = omega arith

body_spelled : (s : StringSections) (wide : Bool) (paths : List (List ℕ)) → HaveNoNul paths → length paths < 2 ^ 64 → IsBody s wide (body_of wide (field_bytes paths)) paths
unfolding field_bytes
body_spelled s wide paths no_nul small =
    let offset = offset_bytes wide (length (field_bytes paths)) in
    let lists : List ℕ = directory_bytes ++ (file_format ++ files_bytes paths) in
    let no_program : file_format ++ files_bytes paths ≡ (file_format ++ files_bytes paths) ++ [] = sym (append-nil (file_format ++ files_bytes paths)) in
    record {
      address_size = 8;
      header = 5 ∷ 0 ∷ 8 ∷ 0 ∷ (offset ++ opcode_fields);
      directory_list = directory_bytes;
      file_list = file_format ++ files_bytes paths;
      program = [];
      directories = entry_for (0x2e ∷ []) ∷ [];
      files = map entry_for paths;
      spelled = ap (λ (xs : List ℕ). 5 ∷ 0 ∷ 8 ∷ 0 ∷ xs) (sym (append_assoc offset opcode_fields lists)) ∙ ap (λ (xs : List ℕ). 5 ∷ 0 ∷ 8 ∷ 0 ∷ ((offset ++ opcode_fields) ++ (directory_bytes ++ xs))) no_program;
      is_header = record {
        segment_selector_size = 0;
        header_length = offset;
        minimum_instruction_length = 1;
        maximum_operations_per_instruction = 1;
        default_is_stmt = 1;
        line_base = 0xfb;
        line_range = 0x0e;
        standard_opcode_lengths = 0 ∷ 1 ∷ 1 ∷ 1 ∷ 1 ∷ 0 ∷ 0 ∷ 0 ∷ 1 ∷ 0 ∷ 0 ∷ 1 ∷ [];
        spelled = refl;
        is_offset = offset_long wide (length (field_bytes paths));
      };
      are_directories = directories_spelled s (record { wide = wide; address = 8 });
      are_files = list_spelled s (record { wide = wide; address = 8 }) paths no_nul small;
      within = in_first (entry_for (0x2e ∷ []) ∷ []) paths;
      are_paths = same_paths (entry_for (0x2e ∷ []) ∷ []) paths;
    }

-- the fields are in the table
pub fields_within : (wide : Bool) (fields : List ℕ) → length fields ≤ length (table_with wide fields)
unfolding table_with
fields_within wide fields =
    let front = length_bytes wide (4 + offset_width wide + length fields) in
    omega (arith, length-append front (body_of wide fields), body_long wide fields)

files_within : (paths : List (List ℕ)) → length paths ≤ length (flat_map file_bytes paths)
files_within [] = omega arith
files_within (path ∷ paths) = omega (arith, files_within paths, length-append (file_bytes path) (flat_map file_bytes paths), length-append path (0 ∷ 0 ∷ []))

fields_long : (paths : List (List ℕ)) → length paths ≤ length (field_bytes paths)
unfolding field_bytes
fields_long paths = omega (arith, files_within paths, length-append (uleb_bytes (length paths)) (flat_map file_bytes paths))

below : (wide : Bool) (n : ℕ) → n ≤ 1_073_741_824 → 4 + offset_width wide + n < 0xffff_fff0
below true n few = omega arith
below false n few = omega arith

pub table_spelled : (s : StringSections) (wide : Bool) (paths : List (List ℕ)) → HaveNoNul paths → length (table_bytes wide paths) ≤ 1_073_741_824 → IsTable s (table_bytes wide paths) paths
unfolding table_with
table_spelled s wide paths no_nul fits =
    let fields : List ℕ = field_bytes paths in
    let size = 4 + offset_width wide + length fields in
    let few : length fields ≤ 1_073_741_824 = omega (arith, fields_within wide fields, fits) in
    let small : length paths < 2 ^ 64 = omega (arith, fields_long paths, few) in
    record {
      wide = wide;
      unit_length = length_bytes wide size;
      body = body_of wide fields;
      spelled = refl {a = length_bytes wide size ++ body_of wide fields};
      is_length = subst (IsLength wide (length_bytes wide size)) (sym (body_long wide fields)) (length_spelled wide size (below wide (length fields) few));
      is_body = body_spelled s wide paths no_nul small;
    }

pub table_read : (t : Tables) (off : ℕ) (wide : Bool) (paths : List (List ℕ)) → HaveNoNul paths → length (table_bytes wide paths) ≤ 1_073_741_824 → IsAt t.lines off (table_bytes wide paths) → files_of t off ≡ Ok paths
table_read t off wide paths no_nul fits at = table_again t off (table_bytes wide paths) paths at (table_spelled (strings_in t) wide paths no_nul fits)
