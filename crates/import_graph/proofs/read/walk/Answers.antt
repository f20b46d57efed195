use Rattle.std.proofs.Common.{◌≡◌, ◌⊎◌, inr, ◌<◌, ◌≤◌, length, Err, refl, ap, subst, sym, ◌∙◌, arith}
use Rattle.std.proofs.lemmas.Result.{err_from_is_err_and}
use Rattle.mac_base.specs.SectionBytes.{bytes_of}
use Rattle.import_graph.specs.declared.fault.FileFault.{FileFault}
use Rattle.import_graph.specs.declared.fault.FileFault.TheVariants.{NoMemory as RanOut}
use Rattle.import_graph.specs.Numbers.{paths_of}
use Rattle.import_graph.specs.Tables.{FilesRead}
use Rattle.import_graph.specs.Walk.{RootWalk}
use Rattle.import_graph.proofs.RootLemmas.{lent_is, root_no_table, root_outside, root_no_unit, root_fault, root_walked}
use Rattle.import_graph.proofs.read.walk.Goals as goal

pub returns-in_err-root_files-clause-err : goal.returns-in_err-root_files-clause-err
returns-in_err-root_files-clause-err g c =
    let s = bytes_of c.args.s.now in
    let p = err_from_is_err_and c.from_residual.result c.from_residual.ensures.1 in
    rw (p.1, p.2) (root_no_table s c.args.root.now c.in_err-root_files.field-0.0 (c.in_err-root_files.ensures.err s (ap (λ (f : FilesRead). f.tables) c.new-files.ensures)))

pub returns-then-root-s-clause-err : goal.returns-then-root-s-clause-err
returns-then-root-s-clause-err g c =
    let s = bytes_of c.args.s.now in
    let root = c.args.root.now in
    let found = c.in_ok-root_files.ensures.ok s (ap (λ (f : FilesRead). f.tables) c.new-files.ensures) in
    let past : length s.macros ≤ root.macros = omega arith in
    subst (λ (f : FileFault). (f ≡ RanOut) ⊎ RootWalk s root (Err f)) (sym c.fault.ensures) (inr (root_outside s root _ (lent_is s root (paths_of c.of_root.new.self.paths c.in_ok-root_files.root_files) found.0) past))

pub returns-in_err-walk-clause-err : goal.returns-in_err-walk-clause-err
returns-in_err-walk-clause-err g c =
    let s = bytes_of c.args.s.now in
    let root = c.args.root.now in
    let tables = ap (λ (f : FilesRead). f.tables) c.new-files.ensures in
    let found = c.in_ok-root_files.ensures.ok s tables in
    let paths = paths_of c.of_root.new.self.paths c.in_ok-root_files.root_files in
    let within : root.macros < length s.macros = omega arith in
    let p = err_from_is_err_and c.from_residual-in_err-walk.result c.from_residual-in_err-walk.ensures.1 in
    rw (p.1, p.2)
    (root_no_unit s root (record { paths = paths; str_base = root.str_base; wide = root.wide }) c.in_err-walk.field-0.0 (lent_is s root paths found.0) within
    (c.in_err-walk.ensures.err s (record { paths = paths; str_base = root.str_base; wide = root.wide }) (refl, refl, c.new.ensures, refl) (c.of_root.ensures.same ∙ tables, refl, found.1)))

pub returns-in_err-walked-clause-err : goal.returns-in_err-walked-clause-err
returns-in_err-walked-clause-err g c =
    let s = bytes_of c.args.s.now in
    let root = c.args.root.now in
    let tables = ap (λ (f : FilesRead). f.tables) c.new-files.ensures in
    let found = c.in_ok-root_files.ensures.ok s tables in
    let paths = paths_of c.of_root.new.self.paths c.in_ok-root_files.root_files in
    let within : root.macros < length s.macros = omega arith in
    let p = err_from_is_err_and c.from_residual-in_err-walked.result c.from_residual-in_err-walked.ensures.1 in
    rw (p.1, p.2)
    (root_fault s root (record { paths = paths; str_base = root.str_base; wide = root.wide }) c.in_err-walked.field-0.0 (lent_is s root paths found.0) within
    (c.in_err-walked.ensures.err s (record { paths = paths; str_base = root.str_base; wide = root.wide }) root.macros
    (c.in_ok-walk.ensures.ok s (record { paths = paths; str_base = root.str_base; wide = root.wide }) (refl, refl, c.new.ensures, refl) (c.of_root.ensures.same ∙ tables, refl, found.1))))

pub returns-clause-ok : goal.returns-clause-ok
returns-clause-ok g c =
    let s = bytes_of c.args.s.now in
    let root = c.args.root.now in
    let tables = ap (λ (f : FilesRead). f.tables) c.new-files.ensures in
    let found = c.in_ok-root_files.ensures.ok s tables in
    let paths = paths_of c.of_root.new.self.paths c.in_ok-root_files.root_files in
    let within : root.macros < length s.macros = omega arith in
    root_walked s root (record { paths = paths; str_base = root.str_base; wide = root.wide }) c.in_ok-walked.walked.nodes.items c.in_ok-walked.walked.files.paths (lent_is s root paths found.0) within
    (c.in_ok-walked.ensures.ok s (record { paths = paths; str_base = root.str_base; wide = root.wide }) root.macros
    (c.in_ok-walk.ensures.ok s (record { paths = paths; str_base = root.str_base; wide = root.wide }) (refl, refl, c.new.ensures, refl) (c.of_root.ensures.same ∙ tables, refl, found.1)))
