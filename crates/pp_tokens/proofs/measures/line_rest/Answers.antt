use Rattle.std.proofs.Common.{◌≡◌, ℕ, ◌+◌, List, drop, length, length-drop, arith, ◌∙◌, ap}
use Rattle.pp_tokens.specs.Cleaning.{Char, bytes_of}
use Rattle.pp_tokens.specs.Cut.{line_rest}
use Rattle.pp_tokens.proofs.MeasureLemmas.{line-on, front-le}
use Rattle.pp_tokens.proofs.measures.line_rest.Goals as goal

pub loop-byte-init : goal.loop-byte-init
loop-byte-init c =
    let front : List ℕ = c.plain_front-plain.result.now in
    let left : c.skip.new.self ≡ drop (length front) c.args.chars.now = c.skip.ensures ∙ ap (drop (length front)) c.fork-ahead.ensures.same in
    record {
      so_far = ap (λ (cs : List Char). length front + line_rest (bytes_of cs)) left ∙ line-on front c.args.chars.now c.plain_front-plain.ensures.front c.plain_front-plain.ensures.no_feed;
      bound = omega (arith, ap length left, length-drop (length front) c.args.chars.now, front-le front c.args.chars.now c.plain_front-plain.ensures.front);
    }
