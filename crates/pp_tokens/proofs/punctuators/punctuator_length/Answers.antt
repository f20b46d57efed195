use Rattle.pp_tokens.specs.Cleaning.{bytes_of}
use Rattle.pp_tokens.proofs.TableLemmas.{table_is_searched}
use Rattle.pp_tokens.proofs.punctuators.punctuator_length.Goals as goal

pub returns : goal.returns
returns c = table_is_searched (bytes_of c.args.chars.now) c.window_of.result c.first_of.result c.window_of.ensures c.first_of.ensures
