use Rattle.std.proofs.Common.{Err, ◌∙◌, ap, subst}
use Rattle.pp_tokens.specs.declared.fault.LexFault.TheVariants.{OpenComment}
use Rattle.pp_tokens.specs.Cut.{LexesText}
use Rattle.macro_expand.specs.States.{kind_of_only}
use Rattle.macro_expand.proofs.OneToken.{kind_given, none_given}
use Rattle.macro_expand.proofs.substitution.one_token.one_kind.Goals as goal

pub returns-in-Ok : goal.returns-in-Ok
returns-in-Ok c = c.kind_of_only.ensures ∙ ap (λ ts. kind_of_only ts c.args.text.now) c.as_slice.ensures ∙ kind_given c.args.text.now c.in-Ok.tokens c.in-Ok.ensures

pub returns-in-Err-OpenComment : goal.returns-in-Err-OpenComment
returns-in-Err-OpenComment c =
    none_given c.args.text.now (OpenComment c.in-Err-OpenComment.field-0-0) tt (subst (λ f. LexesText c.args.text.now (Err f)) c.in-Err-OpenComment.field-0-is c.in-Err-OpenComment.ensures)
