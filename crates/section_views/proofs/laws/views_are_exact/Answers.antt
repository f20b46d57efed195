use Rattle.section_views.proofs.Unique.{given_is_there, there_is_given}
use Rattle.section_views.proofs.laws.views_are_exact.Goals as goal

pub returns-clause-sound : goal.returns-clause-sound
returns-clause-sound c = given_is_there

pub returns-clause-complete : goal.returns-clause-complete
returns-clause-complete c = there_is_given
