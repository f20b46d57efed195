use Rattle.std.proofs.Common.{ℕ, length, ap, subst, arith, Err}
use Rattle.mac_base.specs.Answers.{IsFaultOf}
use Rattle.object_writer.specs.declared.elf.FileType.TheVariants.{Relocatable}
use Rattle.object_writer.specs.declared.layout.Layout.{Layout}
use Rattle.object_writer.specs.Elf.{written, ran_out}
use Rattle.object_writer.specs.Strings.{strings_of}
use Rattle.object_writer.specs.Object.{sections_with, sections_of, made}
use Rattle.object_writer.proofs.ObjectLemmas.{fault_of, answers_fault, sections_few}
use Rattle.object_writer.proofs.object.written_object.Goals as goal

pub returns-in_err-sections-clause-bytes : goal.returns-in_err-sections-clause-bytes
unfolding sections_of
returns-in_err-sections-clause-bytes c =
    let layout : ℕ → Layout = λ n. record { pieces = n; indexed = c.args.forms.strx } in
    let strings = strings_of c.args.forms.strx c.args.split.now in
    let fault = c.in_err-sections.field-0.0 in
    let here : IsFaultOf ran_out (written Relocatable (sections_with (layout c.len.result) c.args.forms.wide strings c.args.split.now c.args.unit.now)) fault =
    fault_of Relocatable (sections_with (layout c.len.result) c.args.forms.wide strings c.args.split.now c.args.unit.now) fault (λ is. c.in_err-sections.ensures.large (ap (λ f. Err f) is)) in
    answers_fault (λ w. w.bytes) c.from_residual.result fault (made c.args.split.now c.args.unit.now c.args.forms) c.from_residual.ensures.1
    (subst (λ (n : ℕ). IsFaultOf ran_out (written Relocatable (sections_with (layout n) c.args.forms.wide strings c.args.split.now c.args.unit.now)) fault) c.len.ensures here)

pub write_file-requires : goal.write_file-requires
write_file-requires c =
    let layout : Layout = record { pieces = c.len.result; indexed = c.args.forms.strx } in
    omega (arith, ap length c.in_ok-sections.ensures.sections, sections_few layout c.args.forms.wide (strings_of c.args.forms.strx c.args.split.now) c.args.split.now c.args.unit.now, c.requires.few)
