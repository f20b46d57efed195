use Rattle.std.proofs.Common.{sym, ◌∙◌}
use Rattle.object_writer.specs.Elf.{section_limit}
use Rattle.object_writer.proofs.InfoLemmas.{texts_small}
use Rattle.object_writer.proofs.info.push_info.Goals as goal

pub relocations_of-requires-clause-name : goal.relocations_of-requires-clause-name
relocations_of-requires-clause-name c =
    (texts_small c.args.layout c.args.wide c.args.unit.now section_limit (sym c.is_too_large.ensures ∙ c.if-is_too_large.false)).0

pub relocations_of-requires-clause-dir : goal.relocations_of-requires-clause-dir
relocations_of-requires-clause-dir c =
    (texts_small c.args.layout c.args.wide c.args.unit.now section_limit (sym c.is_too_large.ensures ∙ c.if-is_too_large.false)).1
