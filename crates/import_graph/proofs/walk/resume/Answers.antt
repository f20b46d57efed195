use Rattle.std.proofs.Common.{List, reverse, subst, sym}
use Rattle.import_graph.specs.declared.unit.OpenUnit.{OpenUnit}
use Rattle.import_graph.specs.Progress.{Resumes}
use Rattle.import_graph.proofs.WalkStepLemmas.{reverse_push}
use Rattle.import_graph.proofs.walk.resume.Goals as goal

pub returns-clause-ok : goal.returns-clause-ok
returns-clause-ok c =
    let is = c.in_ok-import.ensures in
    subst (λ (us : List OpenUnit). Resumes c.args.id c.args.count us (reverse c.push.new.self.items)) (sym (reverse_push c.pop.new.self.items c.args.waiting.now.items c.in-Some.outer c.in-Some.ensures.items)) (
      c.import.new.self,
      reverse_push c.pop.new.self.items c.push.new.self.items c.import.new.self c.in_ok-push.ensures.items,
      record { links = is.links; count = is.count; same = is.same; place = is.place; files = is.files },
    )
