use Rattle.std.proofs.Common.{◌≡◌, ◌++◌, List, [], reverse, ap, sym, ◌∙◌, arith}
use Rattle.std.proofs.lemmas.List.{append-nil}
use Rattle.mac_base.specs.declared.frames.Frame.{Frame}
use Rattle.position_table.proofs.FileLemmas.{frames_at, length_is, none_open, in_file, around_below, parts_more}
use Rattle.position_table.proofs.files.Files.frames.Goals as goal

pub loop-at-init : goal.loop-at-init
loop-at-init c = record {
  within = c.requires;
  parts = rw c.new-frames.ensures.items (append-nil (frames_at c.args.self.now c.args.id.index));
}

pub index-file-requires : goal.index-file-requires
index-file-requires c = omega (arith, length_is c.self.inside.items.items c.args.self.now c.self.view_is, c.self.inside.items.ok.0)

pub loop-at-smaller : goal.loop-at-smaller
loop-at-smaller c =
    around_below c.self.inside.items.items c.args.self.now c.self.view_is c.loop-at.at.index c.index-file.result.now c.self.invariant (λ is. omega arith) c.loop-at.invariant.within c.index-file.ensures

pub loop-at-preserved : goal.loop-at-preserved
loop-at-preserved c =
    let file = c.index-file.result.now in
    let some : c.loop-at.at.index ≡ 0 → ⊥ = λ is. omega arith in
    let low = around_below c.self.inside.items.items c.args.self.now c.self.view_is c.loop-at.at.index file c.self.invariant some c.loop-at.invariant.within c.index-file.ensures in
    let is = in_file c.self.inside.items.items c.args.self.now c.self.view_is c.loop-at.at.index file c.self.invariant some c.loop-at.invariant.within c.index-file.ensures in
    record {
      within = omega (arith, low);
      parts = rw c.in_ok-push.ensures.items (parts_more (frames_at c.args.self.now file.around.index) c.loop-at.frames.items (frames_at c.args.self.now c.args.id.index) file.frame (frames_at c.args.self.now c.loop-at.at.index) is c.loop-at.invariant.parts);
    }

pub returns : goal.returns
returns c =
    let zero : c.loop-at.at.index ≡ 0 = omega arith in
    let outermost : frames_at c.args.self.now c.loop-at.at.index ≡ [] = ap (frames_at c.args.self.now) zero ∙ none_open c.self.inside.items.items c.args.self.now c.self.view_is in
    c.from_vec.ensures ∙ c.reverse.ensures.items ∙ ap (λ (fs : List Frame). fs ++ reverse c.loop-at.frames.items) (sym outermost) ∙ c.loop-at.invariant.parts
