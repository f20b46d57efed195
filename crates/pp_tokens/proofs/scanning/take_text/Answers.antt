use Rattle.std.proofs.Common.{◌++◌, List, take, drop, sym, ◌∙◌, ap}
use Rattle.std.proofs.lemmas.List.{drop-drop}
use Rattle.pp_tokens.specs.Cleaning.{Char, bytes_of}
use Rattle.pp_tokens.proofs.ScanLemmas.{take-one_more}
use Rattle.pp_tokens.proofs.scanning.take_text.Goals as goal

pub loop-preserved : goal.loop-preserved
loop-preserved c = record {
  so_far = c.in_ok-take_byte.ensures.text ∙ ap (λ bs. bs ++ bytes_of (take 1 c.loop.chars)) c.loop.invariant.so_far
      ∙ ap (λ (cs : List Char). bytes_of (take c.loop.counter c.args.chars.now) ++ bytes_of (take 1 cs)) c.loop.invariant.left ∙ sym (take-one_more c.loop.counter c.args.chars.now);
  left = c.in_ok-take_byte.ensures.left ∙ ap (drop 1) c.loop.invariant.left ∙ drop-drop 1 c.loop.counter c.args.chars.now;
}
