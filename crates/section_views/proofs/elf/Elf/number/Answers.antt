use Rattle.std.proofs.Common.{None, Some}
use Rattle.section_views.specs.View.{section_named}
use Rattle.section_views.proofs.Keeping.{entries-number}
use Rattle.section_views.proofs.elf.Elf.number.Goals as goal

pub returns-in_err-member : goal.returns-in_err-member
returns-in_err-member c = rw c.from_residual.ensures (entries-number c.args.self.now None (section_named c.args.self.now c.args.name.now) c.in_err-member.ensures)

pub returns : goal.returns
returns c = entries-number c.args.self.now (Some c.in_ok-member.field-0) (section_named c.args.self.now c.args.name.now) c.in_ok-member.ensures
