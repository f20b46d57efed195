use Rattle.std.proofs.Common.{◌≡◌, ℕ, ◌+◌, List, length, ap, sym, ◌∙◌, arith}
use Rattle.std.specs.Borrow.{Bor}
use Rattle.std.specs.Ordering.{is_eq}
use Rattle.std.proofs.lemmas.List.{length_push}
use Rattle.mac_base.specs.declared.frames.Frame.{Frame}
use Rattle.import_graph.specs.declared.spliced.Spliced.{Spliced}
use Rattle.import_graph.specs.Numbers.{item_of}
use Rattle.mac_base.specs.Items.{Item, Define, Undef, Start, End}
use Rattle.position_table.specs.declared.draft.Definition.{Definition}
use Rattle.position_table.specs.Standing.{Standing, behind_one}
use Rattle.position_table.proofs.DraftLemmas.{order, standing_of, kept_inserted, kept_removed, kept_more, behind_define, behind_undef, behind_start, behind_end}
use Rattle.position_table.proofs.draft.Draft.pass.Goals as goal

-- the standing before an entry, as the clause names it
renamed : (view old : Standing) (item : Item ℕ) (entry : Spliced) → view ≡ old → item ≡ item_of entry → behind_one view item ≡ behind_one old (item_of entry)
renamed view old item entry is same = λ i. behind_one (is i) (same i)

pub invariant_of-self : goal.invariant_of-self
invariant_of-self c =
    let definition : Definition = record { text = c.in-Define.text; line = c.in-Define.line; file = c.self.inside.innermost } in (
      c.self.invariant.0,
      rw c.in-Ok.ensures.entries (kept_inserted (length c.self.inside.files) c.self.inside.definitions.entries c.name_of.result definition (c.self.invariant.0, c.name_of.ensures) c.self.invariant.1),
    )

pub invariant_of-self-in-Undef : goal.invariant_of-self-in-Undef
invariant_of-self-in-Undef c =
    (c.self.invariant.0, rw c.remove.ensures.entries (kept_removed (length c.self.inside.files) (λ (k : Bor (List ℕ)). is_eq (order c.in-Undef.name.now k.now)) c.self.inside.definitions.entries c.self.invariant.1))

pub invariant_of-self-in-Start : goal.invariant_of-self-in-Start
invariant_of-self-in-Start c =
    let began = c.in_ok-self-inside-in-Start.ensures.ok in
    let grown : length c.begin.new.self ≡ length c.self.inside.files + 1 = ap length began.0 ∙ length_push c.self.inside.files _ in
    (omega (arith, began.1), kept_more (length c.self.inside.files) (length c.begin.new.self) c.self.inside.definitions.entries (omega arith) c.self.invariant.1)

pub returns-in-Ok : goal.returns-in-Ok
returns-in-Ok c =
    rw c.in-Ok.ensures.entries
    (behind_define c.self.inside.files c.self.inside.innermost c.self.inside.definitions.entries c.name_of.result c.in-Define.text c.in-Define.line c.name_of.ensures
    ∙ renamed (standing_of c.self.inside.files c.self.inside.innermost c.self.inside.definitions.entries) c.args.self.now (Define c.in-Define.line c.in-Define.text.now) c.args.entry c.self.view_is (ap item_of (sym c.in-Define.is)))

pub returns-in-Undef : goal.returns-in-Undef
returns-in-Undef c =
    rw c.remove.ensures.entries
    (behind_undef c.self.inside.files c.self.inside.innermost c.self.inside.definitions.entries c.in-Undef.name c.in-Undef.line (rw c.remove.ensures.entries at c.remove.ensures.updates.1)
    ∙ renamed (standing_of c.self.inside.files c.self.inside.innermost c.self.inside.definitions.entries) c.args.self.now (Undef c.in-Undef.line c.in-Undef.name.now) c.args.entry c.self.view_is (ap item_of (sym c.in-Undef.is)))

pub returns-in_ok-self-inside-in-Start : goal.returns-in_ok-self-inside-in-Start
returns-in_ok-self-inside-in-Start c =
    let began = c.in_ok-self-inside-in-Start.ensures.ok in
    ap (λ (files : List (List Frame)). standing_of files c.in_ok-self-inside-in-Start.field-0 c.self.inside.definitions.entries) began.0
    ∙ behind_start c.self.inside.files c.self.inside.innermost c.in_ok-self-inside-in-Start.field-0 c.self.inside.definitions.entries c.in-Start.line c.in-Start.file c.self.invariant.1 began.1
    ∙ renamed (standing_of c.self.inside.files c.self.inside.innermost c.self.inside.definitions.entries) c.args.self.now (Start c.in-Start.line c.in-Start.file) c.args.entry c.self.view_is (ap item_of (sym c.in-Start.is))

pub returns-in-End : goal.returns-in-End
returns-in-End c =
    behind_end c.self.inside.files c.self.inside.innermost c.around-self-inside.result c.self.inside.definitions.entries c.around-self-inside.ensures.files
    ∙ renamed (standing_of c.self.inside.files c.self.inside.innermost c.self.inside.definitions.entries) c.args.self.now End c.args.entry c.self.view_is (ap item_of (sym c.in-End.is))
