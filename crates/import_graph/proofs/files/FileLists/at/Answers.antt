use Rattle.std.proofs.Common.{Ok, length, List, ℕ, ◌<◌, ◌^◌, ◌++◌, ap, subst, sym, ◌∙◌}
use Rattle.line_names.specs.Entries.{tables_of}
use Rattle.import_graph.specs.Tables.{FilesRead, IsRange, AreRanges}
use Rattle.import_graph.proofs.RangeLemmas.{ranges_kept, new_is_range, ranges_more, ranges_same}
use Rattle.import_graph.proofs.files.FileLists.at.Goals as goal

pub returns-in-Some-clause-ok : goal.returns-in-Some-clause-ok
returns-in-Some-clause-ok c = subst (λ (v : FilesRead). IsRange v.tables v.paths c.args.off c.in-Some.range) c.self.view_is (c.self.invariant.0 c.args.off c.in-Some.range (sym c.range_at.ensures ∙ c.in-Some.is))

pub invariant_of-self : goal.invariant_of-self
invariant_of-self c = subst (λ (ps : List (List ℕ)). AreRanges (tables_of c.self.inside.tables) ps c.self.inside.known × (length ps < 2 ^ 32)) (sym c.in_err-range.ensures.err) c.self.invariant

pub invariant_of-self-in_err-insert : goal.invariant_of-self-in_err-insert
invariant_of-self-in_err-insert c =
    let kept = ranges_kept (tables_of c.self.inside.tables) c.self.inside.paths.items c.into_vec.result.items c.self.inside.known c.self.invariant.0 in
    let grown = subst (λ (ps : List (List ℕ)). AreRanges (tables_of c.self.inside.tables) ps c.self.inside.known) (sym c.in_ok-range.ensures.ok.0) kept in
    (ranges_same (tables_of c.self.inside.tables) c.append.new.paths.items c.self.inside.known c.insert.new.self grown c.in_err-insert.ensures.err, c.in_ok-range.ensures.few)

pub invariant_of-self-2 : goal.invariant_of-self-2
invariant_of-self-2 c =
    let t = tables_of c.self.inside.tables in
    let old = c.self.inside.paths.items in
    let more = c.into_vec.result.items in
    let range = c.in_ok-range.range in
    let read = c.in_ok-more.ensures ∙ ap Ok (sym c.into_vec.ensures) in
    let is = new_is_range t old more c.args.off range read c.in_ok-range.ensures.ok.1 (c.in_ok-range.ensures.ok.2 ∙ ap length c.in_ok-range.ensures.ok.0) in
    let kept = ranges_kept t old more c.self.inside.known c.self.invariant.0 in
    let grown = ranges_more t (old ++ more) c.self.inside.known c.insert.new.self c.args.off range kept is c.in_ok-insert.ensures.updates.0 in
    (subst (λ (ps : List (List ℕ)). AreRanges t ps c.insert.new.self) (sym c.in_ok-range.ensures.ok.0) grown, c.in_ok-range.ensures.few)
