use Rattle.std.proofs.Common.{◌≡◌, ◌+◌, take, Some, arith, sym, ◌∙◌, ap}
use Rattle.std.proofs.lemmas.Bool.{false_from_ne_true}
use Rattle.pp_tokens.specs.Scan.{line_feeds}
use Rattle.pp_tokens.proofs.NulLemmas.{nul_none_file, nul_some_file}
use Rattle.pp_tokens.proofs.lexing.nul_of_file.Goals as goal

pub returns-in-Some : goal.returns-in-Some
returns-in-Some c =
    let found = c.in-Some.ensures in
    let front : c.line_feeds.result ≡ line_feeds (take c.in-Some.at c.args.bytes.now) = c.line_feeds.ensures.count in
    let turned : c.line_feeds.result + 1 ≡ 1 + line_feeds (take c.in-Some.at c.args.bytes.now) = omega (arith, front) in
    ap Some turned ∙ sym (nul_some_file c.args.bytes.now c.in-Some.at 1 found.0.high found.1 (λ j h. false_from_ne_true _ (found.0.before j (omega arith) h)))

pub returns-in-None : goal.returns-in-None
returns-in-None c = sym (nul_none_file c.args.bytes.now 1 (λ j h. false_from_ne_true _ (c.in-None.ensures j (omega arith) h)))
