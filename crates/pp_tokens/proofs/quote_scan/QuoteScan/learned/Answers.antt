use Rattle.std.proofs.Common.{◌≡◌, None, sym, ◌∙◌, ap, subst}
use Rattle.pp_tokens.specs.Cleaning.{bytes_of}
use Rattle.pp_tokens.specs.Scan.{closing, IsKnown}
use Rattle.pp_tokens.proofs.LoneLemmas.{known-learned}
use Rattle.pp_tokens.proofs.quote_scan.QuoteScan.learned.Goals as goal
use Rattle.mac_base.proofs.Choices.{none_there}

pub returns-in-39 : goal.returns-in-39
returns-in-39 c =
    let none : closing c.args.quote (bytes_of c.args.chars.now) ≡ None = sym c.closing.ensures.value ∙ none_there c.closing.result (sym c.is_some.ensures ∙ c.if-is_some.false) in
    subst (λ n. IsKnown n c.args.self.double (bytes_of c.args.chars.now)) (sym c.line_rest-count.ensures.value)
    (record { of_single = known-learned 39 (bytes_of c.args.chars.now) (ap (λ q. closing q (bytes_of c.args.chars.now)) (sym c.in-39.is) ∙ none); of_double = c.requires.of_double })

pub returns-in-34 : goal.returns-in-34
returns-in-34 c =
    let none : closing c.args.quote (bytes_of c.args.chars.now) ≡ None = sym c.closing.ensures.value ∙ none_there c.closing.result (sym c.is_some.ensures ∙ c.if-is_some.false) in
    subst (λ n. IsKnown c.args.self.single n (bytes_of c.args.chars.now)) (sym c.line_rest-count.ensures.value)
    (record { of_single = c.requires.of_single; of_double = known-learned 34 (bytes_of c.args.chars.now) (ap (λ q. closing q (bytes_of c.args.chars.now)) (sym c.in-34.is) ∙ none) })
