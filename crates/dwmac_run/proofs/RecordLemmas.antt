-- The object of what a walk has seen.
use Rattle.std.proofs.Common.{◌≡◌, List, [], ◌∷◌, map, subst, Option, Some, None, Result, Ok, Err, ℕ, refl, ap, sym, ◌∙◌}
use Rattle.std.specs.Prelude.{IfSome}
use Rattle.mac_base.specs.ItemLines.{item_of}
use Rattle.mac_base.specs.declared.events.Event.{Event}
use Rattle.mac_base.specs.declared.events.Event.TheVariants.{Define, Undef, Start, End}
use Rattle.mac_base.specs.declared.events.Events.{Events}
use Rattle.object_writer.specs.declared.object.Forms.{Forms}
use Rattle.object_writer.specs.Object.{IsWritable}
use Rattle.unit_splitter.specs.declared.pieces.Split.{Split}
use Rattle.unit_splitter.specs.Split.{split_of}
use Rattle.unit_splitter.proofs.WellMadeLemmas.{well_made}
use Rattle.pp_unit.specs.declared.request.UnitSpec.{UnitSpec}
use Rattle.pp_unit.specs.Files.{Stores}
use Rattle.pp_unit.specs.Walk.{IsWalked, AreSeen}
use Rattle.dwmac_run.specs.Answers.{Answer}
use Rattle.dwmac_run.specs.Record.{event_of, recorded, RecordAnswer}

-- the entry of an event is the event
again : (event : Event) → event_of (item_of event) ≡ event
again (Define line text) = refl
again (Undef line name) = refl
again (Start line file) = refl
again End = refl

all_again : (events : List Event) → map event_of (map item_of events) ≡ events
all_again [] = refl
all_again (event ∷ events) = ap (λ (e : Event). e ∷ map event_of (map item_of events)) (again event) ∙ ap (λ (es : List Event). event ∷ es) (all_again events)

-- what is recorded of the events of an accepted translation unit
pub record_ok : (stores : Stores) (unit : UnitSpec) (forms : Forms) (output : List ℕ) (events : Events) (o : Option Answer) → IsWalked stores unit (Ok events) →
    IfSome o (λ (a : Answer). a ≡ recorded unit.source events.files events.list forms output) → IfSome o (RecordAnswer stores unit forms output)
record_ok stores unit forms output events None walked is = tt
record_ok stores unit forms output events (Some a) walked is =
    let m = walked.0 in
    let seen = walked.2 in
    let same : events.list ≡ map event_of m.seen.items = sym (all_again events.list) ∙ ap (map event_of) seen.items in (
      Ok m,
      walked.1,
      is ∙ ap (λ (files : List (List ℕ)). recorded unit.source files events.list forms output) seen.files
          ∙ ap (λ (list : List Event). recorded unit.source m.seen.files list forms output) same,
    )

-- each split can be written
pub writable : (split : Split) (events : List Event) → split ≡ split_of events → IsWritable split
writable split events is =
    let made = well_made events in
    subst (λ (s : Split). IsWritable s) (sym is) (record { few = made.few; imports = made.imports })
