use Rattle.std.proofs.Common.{ap, Err}
use Rattle.object_writer.specs.declared.elf.FileType.TheVariants.{Executable}
use Rattle.object_writer.specs.Linked.{linked, linked_sections}
use Rattle.object_writer.proofs.ObjectLemmas.{fault_of, answers_fault}
use Rattle.object_writer.proofs.linked.write_linked.Goals as goal

pub returns-in_err-sections : goal.returns-in_err-sections
returns-in_err-sections c =
    let fault = c.in_err-sections.field-0.0 in
    answers_fault (λ file. file) c.from_residual.result fault (linked c.args.parts.now) c.from_residual.ensures.1 (fault_of Executable (linked_sections c.args.parts.now) fault (λ is. c.in_err-sections.ensures.large (ap (λ f. Err f) is)))
