use Rattle.pp_tokens.proofs.SpelledLemmas.{file-spelled, text-spelled, operators-are_punctuators, names-are_identifiers}
use Rattle.pp_tokens.proofs.laws.kinds_are_spelled.Goals as goal

pub returns-clause-file : goal.returns-clause-file
returns-clause-file c = file-spelled

pub returns-clause-text : goal.returns-clause-text
returns-clause-text c = text-spelled

pub returns-clause-operators : goal.returns-clause-operators
returns-clause-operators c = operators-are_punctuators

pub returns-clause-names : goal.returns-clause-names
returns-clause-names c = names-are_identifiers
