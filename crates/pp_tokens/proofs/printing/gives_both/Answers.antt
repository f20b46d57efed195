use Rattle.std.proofs.Common.{List, [], ◌∷◌, ℕ, Result, Ok, Err, IsTrue, ◌↔◌, ◌∙◌, ap, subst}
use Rattle.pp_tokens.specs.declared.fault.LexFault.{LexFault}
use Rattle.pp_tokens.specs.declared.fault.LexFault.TheVariants.{OpenComment}
use Rattle.pp_tokens.specs.declared.token.Token.{Token}
use Rattle.pp_tokens.specs.Cut.{LexesText}
use Rattle.pp_tokens.specs.Printing.{SameTokens}
use Rattle.pp_tokens.proofs.PrintLemmas.{gives-iff, gives-not}
use Rattle.pp_tokens.proofs.printing.gives_both.Goals as goal

pub returns-in-Ok : goal.returns-in-Ok
returns-in-Ok c =
    let lexed = subst (λ (bytes : List ℕ). LexesText bytes (Ok c.in-Ok.found)) (c.as_slice.ensures.value ∙ c.in_ok-text.ensures) c.in-Ok.ensures in
    gives-iff c.args.first.now c.args.second.now c.in-Ok.found c.are_both.result lexed
    (subst (λ (ts : List Token). IsTrue c.are_both.result ↔ SameTokens ts (c.args.first.now ∷ c.args.second.now ∷ [])) c.as_slice-in-Ok.ensures c.are_both.ensures)

pub returns : goal.returns
returns c =
    let failed = subst (λ (r : Result (List Token) LexFault). LexesText c.as_slice.result.now r) (c.in-Err-OpenComment.is ∙ ap Err c.in-Err-OpenComment.field-0-is) c.lex_text.ensures in
    let lexed = subst (λ (bytes : List ℕ). LexesText bytes (Err (OpenComment c.in-Err-OpenComment.field-0-0))) (c.as_slice.ensures.value ∙ c.in_ok-text.ensures) failed in
    (λ is. cc, λ gives. absurd (gives-not c.args.first.now c.args.second.now (OpenComment c.in-Err-OpenComment.field-0-0) tt lexed gives))
