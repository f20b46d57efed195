use Rattle.mac_base.proofs.InputLemmas.{bytes_at-takes, bytes_at-again, number_at-takes, number_at-again, uleb_at-takes, uleb_at-again, sleb_at-takes, sleb_at-again, text_at-takes, text_at-again}
use Rattle.mac_base.proofs.ValueLemmas.{value_at-takes, value_at-again}
use Rattle.mac_base.proofs.laws.fields_are_exact.Goals as goal

pub returns-clause-sound : goal.returns-clause-sound
returns-clause-sound c = record { bytes = bytes_at-takes; number = number_at-takes; uleb = uleb_at-takes; sleb = sleb_at-takes; text = text_at-takes; value = value_at-takes }

pub returns-clause-complete : goal.returns-clause-complete
returns-clause-complete c = record { bytes = bytes_at-again; number = number_at-again; uleb = uleb_at-again; sleb = sleb_at-again; text = text_at-again; value = value_at-again }
