use Rattle.std.proofs.Common.{◌≡◌, ◌-◌, List, [], length, take, ap, sym, ◌∙◌, arith}
use Rattle.mac_base.specs.declared.frames.Frame.{Frame}
use Rattle.position_table.proofs.FileLemmas.{frames_at, length_is, none_open, in_file, around_below, without_last}
use Rattle.position_table.proofs.files.Files.around.Goals as goal

pub returns-then-id-eq0-clause-files : goal.returns-then-id-eq0-clause-files
returns-then-id-eq0-clause-files c =
    let none : frames_at c.args.self.now c.args.id.index ≡ [] = ap (frames_at c.args.self.now) c.if-id-eq0.true ∙ none_open c.self.inside.items.items c.args.self.now c.self.view_is in
    none ∙ sym (ap (λ (fs : List Frame). take (length fs - 1) fs) none)

pub index-requires : goal.index-requires
index-requires c = omega (arith, length_is c.self.inside.items.items c.args.self.now c.self.view_is, c.self.inside.items.ok.0)

pub returns-clause-files : goal.returns-clause-files
returns-clause-files c =
    let file = c.index.result.now in
    let is = in_file c.self.inside.items.items c.args.self.now c.self.view_is c.args.id.index file c.self.invariant c.if-id-eq0.false c.requires c.index.ensures in
    sym (ap (λ (fs : List Frame). take (length fs - 1) fs) is ∙ without_last (frames_at c.args.self.now file.around.index) file.frame)

pub returns-clause-within : goal.returns-clause-within
returns-clause-within c =
    omega (arith, around_below c.self.inside.items.items c.args.self.now c.self.view_is c.args.id.index c.index.result.now c.self.invariant c.if-id-eq0.false c.requires c.index.ensures)
