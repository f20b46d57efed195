use Rattle.std.proofs.Common.{◌≡◌, ℕ, ◌+◌, List, take, drop, ap, ◌∙◌}
use Rattle.std.specs.Prelude.{slice_get}
use Rattle.mac_base.specs.Items.{Item, ends_or_reaches}
use Rattle.macro_table.specs.FileTable.{prefix, table_of}
use Rattle.position_table.specs.Scopes.{begun_file}
use Rattle.position_table.specs.Standing.{Standing, at_first, behind_all}
use Rattle.position_table.proofs.TableLemmas.{upto, table_there}
use Rattle.position_table.proofs.table.scope_at.Goals as goal

pub returns-clause-file : goal.returns-clause-file
returns-clause-file c = c.in_ok-file.ensures.file ∙ ap (λ (es : List (Item ℕ)). begun_file (slice_get es c.args.spot.now.start)) c.in_ok-entries.ensures

pub returns-clause-table : goal.returns-clause-table
returns-clause-table c =
    let items = c.args.graph.now.items in
    let start = c.args.spot.now.start in
    let line = c.args.spot.now.line in
    let first : c.pass_start.new.draft ≡ behind_all at_first (take (start + 1) items) =
    c.in_ok-file.ensures.passed ∙ ap (λ (s : Standing). behind_all s (take (start + 1) c.in_ok-entries.entries)) c.new-draft.ensures ∙ ap (λ (es : List (Item ℕ)). behind_all at_first (take (start + 1) es)) c.in_ok-entries.ensures in
    let left : c.pass_start.new.entries ≡ drop (start + 1) items = c.in_ok-file.ensures.left ∙ ap (drop (start + 1)) c.in_ok-entries.ensures in
    let second : c.pass_lines.new.draft ≡ behind_all (behind_all at_first (take (start + 1) items)) (upto (ends_or_reaches line) (drop (start + 1) items) 0) =
    c.in_ok-pass_lines.ensures ∙ ap (λ (s : Standing). behind_all s (upto (ends_or_reaches c.from.result) c.pass_start.new.entries 0)) first
    ∙ ap (λ (es : List (Item ℕ)). behind_all (behind_all at_first (take (start + 1) items)) (upto (ends_or_reaches c.from.result) es 0)) left
    ∙ ap (λ (l : ℕ). behind_all (behind_all at_first (take (start + 1) items)) (upto (ends_or_reaches l) (drop (start + 1) items) 0)) c.from.ensures in
    let there : c.pass_lines.new.draft.table ≡ table_of (prefix items start line) = ap (λ (s : Standing). s.table) second ∙ table_there items start line in
    c.in_ok-table.ensures ∙ there
