use Rattle.std.proofs.Common.{◌≡◌, ◌+◌, ◌-◌, ◌++◌}
use Rattle.std.specs.List.{flat_map, range_with_len}
use Rattle.object_writer.specs.Gabi.{STT_SECTION}
use Rattle.object_writer.specs.Layouts.{abbrev_number}
use Rattle.object_writer.specs.Object.{symbol_bytes}
use Rattle.object_writer.proofs.symbols.push_section_symbols.Given as goal

abbrev pub invariant-loop-number : goal.invariant-loop-number
invariant-loop-number l = record {
  end : l.end ≡ abbrev_number l.fn.layout + 1;
  symbols : l.symbols.items ++ flat_map (symbol_bytes 0 STT_SECTION) (range_with_len l.number (l.end - l.number)) ≡ l.fn.symbols.items ++ flat_map (symbol_bytes 0 STT_SECTION) (range_with_len 1 (abbrev_number l.fn.layout));
}
