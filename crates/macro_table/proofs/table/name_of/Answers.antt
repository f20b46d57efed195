use Rattle.std.specs.List.{prefix_len}
use Rattle.mac_base.specs.Names.{is_identifier_byte}
use Rattle.mac_base.proofs.TableLemmas.{take_prefix}
use Rattle.macro_table.proofs.table.name_of.Goals as goal

pub returns : goal.returns
returns c = rw c.name_length.ensures (take_prefix (prefix_len is_identifier_byte c.args.text.now) c.args.text.now)
