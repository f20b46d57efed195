use Rattle.std.proofs.Common.{[], sym, refl, inr, append-nil}
use Rattle.pp_tokens.proofs.KindLemmas.{clash}
use Rattle.pp_tokens.proofs.printing.put_gap.Goals as goal

pub returns-else-parted : goal.returns-else-parted
returns-else-parted c = ([], inr (refl, λ parted. absurd (clash c.in_ok-parted.parted (c.in_ok-parted.ensures.1 parted) c.if-parted.false)), sym (append-nil c.args.text.now.items))
