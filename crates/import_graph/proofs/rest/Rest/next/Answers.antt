use Rattle.std.proofs.Common.{◌≡◌, ◌+◌, length, Some, refl, sym, ap, ◌∙◌, arith}
use Rattle.import_graph.specs.declared.node.Link.{Link}
use Rattle.import_graph.specs.declared.node.Link.TheVariants.{Own, Import}
use Rattle.import_graph.specs.declared.rest.Place.{Place}
use Rattle.import_graph.proofs.RestLemmas.{at_link, at_end, takes_own, enters, leaves, nothing_left}
use Rattle.import_graph.proofs.StepLemmas.{enters_nearer, leaves_nearer}
use Rattle.import_graph.proofs.rest.Rest.next.Goals as goal

pub returns-in-Some-Own : goal.returns-in-Some-Own
returns-in-Some-Own c =
    let here = c.loop-spliced.self.here in
    let next : Place = record { node = here.node; next = here.next + 1 } in
    let found = sym c.link_at.ensures.link ∙ c.in-Some-Own.is ∙ ap (λ (l : Link). Some l) c.in-Some-Own.field-0-is in
    sym c.loop-spliced.invariant ∙ takes_own c.args.nodes.now here next c.loop-spliced.self.outer.items c.in-Some-Own.spliced (at_link c.args.nodes.now here next (Own c.in-Some-Own.spliced) found refl)

pub loop-spliced-smaller-in-Some-Import : goal.loop-spliced-smaller-in-Some-Import
loop-spliced-smaller-in-Some-Import c =
    let here = c.loop-spliced.self.here in let id = c.in-Some-Import.node in
    let next : Place = record { node = here.node; next = here.next + 1 } in
    let inner : Place = record { node = id; next = 0 } in
    let found = sym c.link_at.ensures.link ∙ c.in-Some-Import.is ∙ ap (λ (l : Link). Some l) c.in-Some-Import.field-0-is in
    rw c.in_ok-push-in-Some-Import.ensures.items
    (enters_nearer c.args.nodes.now here next inner c.loop-spliced.self.outer.items id c.requires (at_link c.args.nodes.now here next (Import id) found refl) refl)

pub loop-spliced-preserved-in-Some-Import : goal.loop-spliced-preserved-in-Some-Import
loop-spliced-preserved-in-Some-Import c =
    let here = c.loop-spliced.self.here in let id = c.in-Some-Import.node in
    let next : Place = record { node = here.node; next = here.next + 1 } in
    let inner : Place = record { node = id; next = 0 } in
    let found = sym c.link_at.ensures.link ∙ c.in-Some-Import.is ∙ ap (λ (l : Link). Some l) c.in-Some-Import.field-0-is in
    rw c.in_ok-push-in-Some-Import.ensures.items
    (sym (enters c.args.nodes.now here next inner c.loop-spliced.self.outer.items id c.requires (at_link c.args.nodes.now here next (Import id) found refl) refl) ∙ c.loop-spliced.invariant)

pub loop-spliced-smaller : goal.loop-spliced-smaller
loop-spliced-smaller c =
    leaves_nearer c.args.nodes.now c.loop-spliced.self.here c.in-Some.place c.loop-spliced.self.outer.items c.pop.new.self.items
    (at_end c.args.nodes.now c.loop-spliced.self.here (sym c.link_at.ensures.link ∙ c.in-None.is)) c.in-Some.ensures.items

pub loop-spliced-preserved : goal.loop-spliced-preserved
loop-spliced-preserved c =
    sym (leaves c.args.nodes.now c.loop-spliced.self.here c.in-Some.place c.loop-spliced.self.outer.items c.pop.new.self.items
    (at_end c.args.nodes.now c.loop-spliced.self.here (sym c.link_at.ensures.link ∙ c.in-None.is)) c.in-Some.ensures.items) ∙ c.loop-spliced.invariant

pub returns-in-None-pop : goal.returns-in-None-pop
returns-in-None-pop c =
    let ended = at_end c.args.nodes.now c.loop-spliced.self.here (sym c.link_at.ensures.link ∙ c.in-None.is) in
    let outer : length c.loop-spliced.self.outer.items ≡ 0 = omega (arith, c.in-None-pop.ensures.cases.0, c.loop-spliced.self.outer.ok.0) in
    let popped : length c.pop.new.self.items ≡ 0 = omega (arith, c.in-None-pop.ensures.cases.1, c.pop.new.self.ok.0) in (
      sym c.loop-spliced.invariant ∙ nothing_left c.args.nodes.now c.loop-spliced.self.here c.loop-spliced.self.outer.items ended outer,
      nothing_left c.args.nodes.now c.loop-spliced.self.here c.pop.new.self.items ended popped,
    )
