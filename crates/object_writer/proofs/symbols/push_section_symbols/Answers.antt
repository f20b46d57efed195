use Rattle.std.proofs.Common.{ℕ, List, ◌+◌, ◌-◌, ◌++◌, ap, ◌∙◌, sym, append_assoc}
use Rattle.std.specs.List.{flat_map, range_with_len}
use Rattle.object_writer.specs.Gabi.{STT_SECTION}
use Rattle.object_writer.specs.Object.{symbol_bytes}
use Rattle.object_writer.proofs.TableLemmas.{range_next}
use Rattle.object_writer.proofs.symbols.push_section_symbols.Goals as goal

pub loop-number-preserved : goal.loop-number-preserved
loop-number-preserved c =
    let f : ℕ → List ℕ = symbol_bytes 0 STT_SECTION in
    let n = c.loop-number.number in
    let rest : List ℕ = flat_map f (range_with_len (n + 1) (c.abbrevs.result + 1 - (n + 1))) in
    record {
      end = c.loop-number.invariant.end;
      symbols =
          ap (λ (bs : List ℕ). bs ++ rest) c.in_ok-push_symbol.ensures
          ∙ append_assoc c.loop-number.symbols.items (f n) rest
          ∙ ap (λ ns. c.loop-number.symbols.items ++ flat_map f ns) (sym (range_next n (c.abbrevs.result + 1) c.loop-number-test.true))
          ∙ c.loop-number.invariant.symbols;
    }
