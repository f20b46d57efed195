use Rattle.std.proofs.Common.{◌≡◌, arith, length, take, sym, ◌∙◌, ap}
use Rattle.std.proofs.lemmas.List.{length-take-le}
use Rattle.pp_tokens.specs.Cleaning.{bytes_of}
use Rattle.pp_tokens.specs.Cut.{line_rest}
use Rattle.pp_tokens.proofs.PlainLemmas.{text_past, plain_bound, plain_line}
use Rattle.pp_tokens.proofs.chars.Chars.plain_front.Goals as goal

pub in_front-requires : goal.in_front-requires
in_front-requires c = plain_bound c.self.inside.plain c.self.inside.rest.now c.self.invariant.1

pub returns : goal.returns
returns c =
    let inside = c.self.inside in
    let long : length c.in_front.result.now ≡ inside.plain =
    ap length c.in_front.ensures ∙ length-take-le inside.plain inside.rest.now (plain_bound inside.plain inside.rest.now c.self.invariant.1) in
    record {
      front =
          c.in_front.ensures ∙ text_past inside.cleans inside.line inside.plain inside.plain inside.rest.now (omega arith) c.self.invariant.1 c.self.invariant.0
          ∙ ap (λ l. bytes_of (take inside.plain l)) c.self.view_is ∙ ap (λ n. bytes_of (take n c.args.self.now)) (sym long);
      no_feed = ap line_rest c.in_front.ensures ∙ plain_line inside.plain inside.rest.now c.self.invariant.1 ∙ sym long;
    }
