use Rattle.std.proofs.Common.{ℕ, List, [], ◌∷◌, Option, Some, cond, ap, reverse, subst, sym, ◌∙◌}
use Rattle.std.specs.Ordering.{nat_cmp}
use Rattle.std.specs.Map.{lookup}
use Rattle.std.specs.BTreeMap.{is_at}
use Rattle.import_graph.specs.declared.node.Node.{Node}
use Rattle.import_graph.specs.declared.unit.OpenUnit.{OpenUnit}
use Rattle.import_graph.specs.declared.walk.Visit.{Visit}
use Rattle.import_graph.specs.declared.walk.Visit.TheVariants.{Open}
use Rattle.import_graph.specs.Progress.{Stands}
use Rattle.import_graph.proofs.StandLemmas.{stands_first}
use Rattle.import_graph.proofs.WalkStepLemmas.{reverse_push, lookup_kept, lent_kept}
use Rattle.import_graph.proofs.walk.Walk.start.Goals as goal

pub returns-clause-ok : goal.returns-clause-ok
returns-clause-ok c = λ s lent look lends.
    let w = c.enter.new.self in
    let unit = c.in_ok-unit.unit in
    let entered = c.in_ok-unit.ensures.entered in
    let seen = λ (q : ℕ). entered.seen q ∙ ap (λ (o : Option Visit). cond (is_at (nat_cmp c.args.at) q) (Some Open) o) (ap (lookup (is_at (nat_cmp q))) c.new.ensures.empty) in
    let first = stands_first s lent c.args.at w.files.paths w.seen unit (c.in_ok-unit.ensures.begun s lent look lends) seen in
    let listed = reverse_push w.open.items c.push.new.self.items unit c.in_ok-push.ensures.items ∙ ap (λ (us : List OpenUnit). unit ∷ reverse us) (entered.same_open ∙ c.new-3.ensures.items) in (
      lookup_kept c.args.lookup w.lookup s lent entered.same_lookup look,
      lent_kept c.args.files w.files c.args.root_files w.root_files s lent entered.more entered.same_tables entered.same_root entered.grows lends,
      subst (λ (us : List OpenUnit). Stands s lent c.args.at w.files.paths w.seen w.nodes.items us) (sym listed)
          (subst (λ (ns : List Node). Stands s lent c.args.at w.files.paths w.seen ns (unit ∷ [])) (sym (entered.same_nodes ∙ c.new-2.ensures.items)) first),
    )
