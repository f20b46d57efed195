use Rattle.std.proofs.Common.{◌≡◌, ◌+◌, [], ◌++◌, replicate, length, ap, ◌∙◌}
use Rattle.object_writer.specs.Elf.{contents_of, contents_end, padding, table_place, names_of, file_header, headers_from, elf_file}
use Rattle.object_writer.proofs.PieceLemmas.{five}
use Rattle.object_writer.proofs.elf.file_of.Goals as goal

pub returns : goal.returns
unfolding elf_file
returns c =
    let sections = c.args.sections.now in
    let end : 64 + c.contents_size-end.result ≡ contents_end sections = ap (λ n. 64 + n) c.contents_size-end.ensures.size in
    let zeros : c.missing_to_8-zeros.result ≡ padding (contents_end sections) = c.missing_to_8-zeros.ensures.missing ∙ ap padding end in
    let table : 64 + c.contents_size-end.result + c.missing_to_8-zeros.result ≡ table_place sections = ap (λ n. n + c.missing_to_8-zeros.result) end ∙ ap (λ n. contents_end sections + n) zeros in
    let count = 1 + length sections in
    let start = 64 + c.contents_size-end.result + c.missing_to_8-zeros.result in
    let head : c.push_file_header.new.into.items ≡ [] ++ file_header c.args.kind (table_place sections) count =
    c.in_ok-push_file_header.ensures ∙ ap (λ r. r ++ file_header c.args.kind start count) c.in_ok-file.ensures.items ∙ ap (λ n. [] ++ file_header c.args.kind n count) table in
    let pad : c.push_zeros.new.into.items ≡ c.push_contents.new.into.items ++ replicate (padding (contents_end sections)) 0 = c.in_ok-push_zeros.ensures ∙ ap (λ n. c.push_contents.new.into.items ++ replicate n 0) zeros in
    let last : c.push_section_headers.new.into.items ≡ c.push_zeros-2.new.into.items ++ headers_from (names_of sections) 64 sections = c.in_ok-push_section_headers.ensures ∙ ap (λ ns. c.push_zeros-2.new.into.items ++ headers_from ns 64 sections) c.requires.names in
    five (file_header c.args.kind (table_place sections) count) (contents_of sections) (replicate (padding (contents_end sections)) 0) (replicate 64 0) (headers_from (names_of sections) 64 sections)
    c.push_file_header.new.into.items c.push_contents.new.into.items c.push_zeros.new.into.items c.push_zeros-2.new.into.items c.push_section_headers.new.into.items head c.in_ok-push_contents.ensures pad c.in_ok-push_zeros-2.ensures last
