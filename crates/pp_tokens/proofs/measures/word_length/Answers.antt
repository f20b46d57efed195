use Rattle.std.proofs.Common.{◌≡◌, ℕ, ◌+◌, List, drop, length, length-drop, arith, ◌∙◌, ap}
use Rattle.std.proofs.lemmas.List.Sums.{prefix_len-le-length}
use Rattle.pp_tokens.specs.Cleaning.{Char, bytes_of}
use Rattle.pp_tokens.specs.Kinds.{is_word}
use Rattle.pp_tokens.specs.Scan.{word_length}
use Rattle.pp_tokens.proofs.MeasureLemmas.{word-on, front-le}
use Rattle.pp_tokens.proofs.measures.word_length.Goals as goal

pub loop-byte-init : goal.loop-byte-init
loop-byte-init c =
    let front : List ℕ = c.plain_front.result.now in
    let left : c.skip.new.self ≡ drop (word_length front) c.args.chars.now = c.skip.ensures ∙ ap (λ n. drop n c.fork-ahead.result) c.words_in-length.ensures ∙ ap (drop (word_length front)) c.fork-ahead.ensures.same in
    record {
      so_far = ap (λ n. n + word_length (bytes_of c.skip.new.self)) c.words_in-length.ensures ∙ ap (λ (cs : List Char). word_length front + word_length (bytes_of cs)) left ∙ word-on front c.args.chars.now c.plain_front.ensures.front;
      bound = omega (arith, c.words_in-length.ensures, ap length left, length-drop (word_length front) c.args.chars.now, prefix_len-le-length is_word front, front-le front c.args.chars.now c.plain_front.ensures.front);
    }
