use Rattle.std.proofs.Common.{◌≡◌, [], ◌∷◌, length, map, slice_get, Some, ap, sym, ◌∙◌, rules}
use Rattle.std.specs.BTreeMap.{values}
use Rattle.std.specs.Map.Iter.{deref}
use Rattle.std.specs.FinMap as finite
use Rattle.std.proofs.lemmas.Map.Iter.{iter_turn, iter_end}
use Rattle.std.proofs.lemmas.List.{map-append}
use Rattle.mac_base.specs.Names.{name_of}
use Rattle.position_table.specs.declared.draft.Definition.{Definition}
use Rattle.position_table.specs.Standing.{pairs_of}
use Rattle.position_table.proofs.KeptLemmas.{put_all, put_push, kept_within, table_whole}
use Rattle.position_table.proofs.draft.table_in.Goals as goal

pub frames-requires : goal.frames-requires
frames-requires c =
    let here : slice_get (values c.args.definitions.now) (length c.loop-definition.yielded) ≡ Some c.in-Some.definition.now = search (rules, iter_turn) in
    kept_within (length c.args.files.now) c.args.definitions.now.entries (length c.loop-definition.yielded) c.in-Some.definition.now c.requires here

pub loop-definition-preserved : goal.loop-definition-preserved
loop-definition-preserved c =
    let definition = c.in-Some.definition in
    c.in_ok-define.ensures.ok
    ∙ (λ i. finite.insert (c.loop-definition.invariant i) (name_of definition.now.text.now) (record { text = definition.now.text.now; files = pairs_of (c.in_ok-frames.ensures i); line = definition.now.line }))
    ∙ sym (ap (put_all c.args.files.now finite.empty) (map-append (deref {X = Definition}) c.loop-definition.yielded (definition ∷ [])) ∙ put_push c.args.files.now finite.empty (map deref c.loop-definition.yielded) definition.now)

pub returns : goal.returns
returns c =
    let all : map deref c.loop-definition.yielded ≡ values c.args.definitions.now = search (rules, iter_end) in
    c.loop-definition.invariant ∙ ap (put_all c.args.files.now finite.empty) all
    ∙ table_whole c.args.files.now (length c.args.files.now) c.args.definitions.now.entries c.values-definition-items.ensures.ordered c.requires
