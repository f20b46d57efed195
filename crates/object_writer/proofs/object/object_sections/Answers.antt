use Rattle.std.specs.Prelude.{All}
use Rattle.std.proofs.lemmas.List.Elements.{All-from_recursion}
use Rattle.unit_splitter.specs.Laws.{IsThere}
use Rattle.unit_splitter.specs.declared.root.RootEntry.{RootEntry}
use Rattle.std.proofs.Common.{ℕ, length, sym, ◌≡◌, List, true, subst}
use Rattle.std.specs.List.{list_any}
use Rattle.unit_splitter.specs.declared.pieces.Piece.{Piece}
use Rattle.object_writer.specs.declared.fault.WriteFault.TheVariants.{TooLarge}
use Rattle.object_writer.specs.Elf.{is_too_large}
use Rattle.object_writer.specs.Strings.{strings_of}
use Rattle.object_writer.specs.Object.{symbol_sections, piece_names}
use Rattle.object_writer.proofs.FaultLemmas.{handed}
use Rattle.object_writer.proofs.ObjectLemmas.{whole, large_pieces, large_symbols}
use Rattle.object_writer.proofs.object.object_sections.Goals as goal

pub returns-clause-sections : goal.returns-clause-sections
returns-clause-sections c =
    whole c.args.layout c.args.wide c.args.split.now c.args.unit.now c.as_slice.result.now c.as_slice-3.result.now c.as_slice-2.result.now c.new-strings.result c.push_pieces.new.strings c.keep_offsets.new.self c.push_root.new.strings
    c.in_ok-sections.sections.items c.push_pieces.new.sections.items c.push_root.new.sections.items c.push_strings.new.sections.items c.push_lines.new.sections.items c.push_info.new.sections.items c.push_symbols.new.sections.items
    c.as_slice.ensures c.as_slice-3.ensures c.as_slice-2.ensures c.new-strings.ensures c.in_ok-push_pieces.ensures.noted c.keep_offsets.ensures c.in_ok-push_root.ensures.noted c.in_ok-sections.ensures.items
    c.in_ok-push_pieces.ensures.sections c.in_ok-push_root.ensures.sections c.in_ok-push_strings.ensures.ok c.in_ok-push_lines.ensures.ok c.in_ok-push_info.ensures.ok c.in_ok-push_symbols.ensures.ok

pub returns-in_err-push_pieces-clause-large : goal.returns-in_err-push_pieces-clause-large
returns-in_err-push_pieces-clause-large c = λ is.
    large_pieces c.args.layout c.args.wide c.args.split.now c.args.unit.now c.as_slice.result.now c.new-strings.result c.as_slice.ensures c.new-strings.ensures
    (c.in_err-push_pieces.ensures.large (handed c.from_residual-in_err-push_pieces.result c.in_err-push_pieces.field-0.0 TooLarge c.from_residual-in_err-push_pieces.ensures.1 is))

pub returns-in_err-push_symbols-clause-large : goal.returns-in_err-push_symbols-clause-large
returns-in_err-push_symbols-clause-large c = λ is.
    let large = c.in_err-push_symbols.ensures.large (handed c.from_residual-in_err-push_symbols.result c.in_err-push_symbols.field-0.0 TooLarge c.from_residual-in_err-push_symbols.ensures.1 is) in
    large_symbols c.args.layout c.args.wide (strings_of c.args.layout.indexed c.args.split.now) c.args.split.now c.args.unit.now
    (subst (λ (ps : List Piece). list_any is_too_large (symbol_sections c.args.layout (piece_names c.args.wide ps)) ≡ true) c.as_slice-3.ensures large)

pub push_root-requires-clause-fit : goal.push_root-requires-clause-fit
push_root-requires-clause-fit c =
    let count = length c.args.split.now.pieces in
    let all : All (IsThere count) c.args.split.now.root = All-from_recursion (IsThere count) c.args.split.now.root c.requires.writable.imports in
    subst (λ (n : ℕ). All (IsThere n) c.as_slice-2.result.now) (sym c.requires.count) (subst (λ (es : List RootEntry). All (IsThere count) es) (sym c.as_slice-2.ensures) all)
