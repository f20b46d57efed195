use Rattle.std.proofs.Common.{◌≡◌, length, ap, ◌∙◌, arith}
use Rattle.line_names.specs.Written.{field_bytes}
use Rattle.line_names.proofs.WrittenLemmas.{fields_within}
use Rattle.line_names.proofs.writing.write_lines.Goals as goal

pub table_of-requires : goal.table_of-requires
table_of-requires c =
    let long : length c.as_slice-2.result.now ≡ length (field_bytes c.args.files.now) = ap length (c.as_slice-2.ensures.value ∙ c.in_ok-fields.ensures ∙ ap field_bytes c.as_slice.ensures) in
    omega (arith, long, fields_within c.args.wide (field_bytes c.args.files.now), c.requires)
