use Rattle.std.proofs.Common.{subst}
use Rattle.macro_expand.specs.Expansion.{expansion, single_level}
use Rattle.macro_expand.specs.Rules.{Expands, ExpandsOnce}
use Rattle.macro_expand.proofs.OneAnswer.{complete, only}
use Rattle.macro_expand.proofs.OneLevel.{complete_level, only_level}
use Rattle.macro_expand.proofs.WholeTexts.{one_whole}
use Rattle.macro_expand.proofs.laws.one_answer.Goals as goal

pub returns-clause-lists : goal.returns-clause-lists
returns-clause-lists c = λ macros here list work answer.
    (λ e. only macros here e, λ e. subst (λ r. Expands macros here list work r) e (complete macros here list work))

pub returns-clause-levels : goal.returns-clause-levels
returns-clause-levels c = λ macros here list work answer.
    (λ e. only_level macros here e, λ e. subst (λ r. ExpandsOnce macros here list work r) e (complete_level macros here list work))

pub returns-clause-texts : goal.returns-clause-texts
returns-clause-texts c = λ macros here. one_whole (Expands macros here) (expansion macros here) (complete macros here) (λ list work answer e. only macros here e)

pub returns-clause-single : goal.returns-clause-single
returns-clause-single c = λ macros here. one_whole (ExpandsOnce macros here) (single_level macros here) (complete_level macros here) (λ list work answer e. only_level macros here e)
