use Rattle.std.proofs.Common.{arith}
use Rattle.object_writer.proofs.TableLemmas.{offsets_large}
use Rattle.object_writer.proofs.tables.push_offsets.Goals as goal

pub returns-then-offsets-gt-MOST_OFFSETS-clause-large : goal.returns-then-offsets-gt-MOST_OFFSETS-clause-large
returns-then-offsets-gt-MOST_OFFSETS-clause-large c = λ _. offsets_large c.args.layout c.args.wide c.args.offsets.now (omega arith)
