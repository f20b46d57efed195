use Rattle.std.proofs.Common.{◌≡◌, refl, subst, inl, List, [], ◌∷◌, ℕ}
use Rattle.mac_io.specs.Search.{Finds}
use Rattle.pp_unit.specs.Files.{Stores, IncludesFound, Includes, Walks}
use Rattle.pp_unit.specs.Walk.{open_limit}
use Rattle.pp_unit.specs.Stopping.{with_marks, StopComesTo}
use Rattle.pp_unit.proofs.StepLemmas.{told, stopped_out}
use Rattle.pp_unit.proofs.WalkLemmas.{stop_by}
use Rattle.pp_unit.proofs.CauseLemmas.{no_cause, handed_plain, plain_out}
use Rattle.pp_unit.proofs.UnitLemmas.{primary_found, outside_left}
use Rattle.pp_unit.proofs.unit.walk_primary.Goals as goal

pub returns-clause-walked : goal.returns-clause-walked
returns-clause-walked g c =
    let stores = g.P.Headers.stores c.args.path.now in
    let named : c.in_ok-name.name ≡ c.args.source.now = told 0 c.name_of.result c.in_ok-name.name (λ (n : List ℕ). n ≡ c.args.source.now) c.in_ok-name.ensures c.name_of.ensures.ok in
    primary_found stores (Walks stores open_limit) c.args.outer.now c.args.source.now (record { store = 0; name = c.args.source.now } ∷ []) (with_marks c.args.log []) c.primary-located.result _ _ c.as_slice-2.result.now c.include_found.result
    (subst (λ (n : List ℕ). Finds stores (record { store = 0; name = n } ∷ []) c.primary-located.result c.new-bytes.result.items c.primary-located.new.into.items) c.as_slice.ensures c.primary-located.ensures.answer)
    c.new-bytes.ensures.items c.as_slice-2.ensures.value
    (subst (λ (n : List ℕ). StopComesTo c.args.outer.now (IncludesFound stores (Walks stores open_limit) c.args.outer.now 0 n (with_marks c.args.log []) c.primary-located.result c.as_slice-2.result.now) c.include_found.result) named
    (subst (λ (s : Stores). StopComesTo c.args.outer.now (IncludesFound s (Walks s open_limit) c.args.outer.now 0 c.in_ok-name.name (with_marks c.args.log []) c.primary-located.result c.as_slice-2.result.now) c.include_found.result)
    c.primary-located.ensures.same (c.include_found.ensures.opened 199 [] (outside_left c.args.outer.now c.requires.outside))))

pub returns-clause-cause : goal.returns-clause-cause
returns-clause-cause g c = c.include_found.ensures.cause _ c.primary-located.ensures.cause

pub returns-in_err-name-clause-walked : goal.returns-in_err-name-clause-walked
returns-in_err-name-clause-walked g c =
    let stores = g.P.Headers.stores c.args.path.now in
    stop_by c.args.outer.now (Includes stores (Walks stores open_limit) c.args.outer.now 0 c.args.source.now (record { store = 0; name = c.args.source.now } ∷ []) (with_marks c.args.log [])) c.from_residual.result c.in_err-name.field-0.0 c.from_residual.ensures.1
    (inl (stopped_out 0 c.name_of.result c.in_err-name.field-0.0 c.in_err-name.ensures c.name_of.ensures.err))

pub returns-in_err-name-clause-cause : goal.returns-in_err-name-clause-cause
returns-in_err-name-clause-cause g c =
    no_cause _ _ _ refl (handed_plain 0 c.name_of.result c.in_err-name.field-0.0 c.from_residual.result c.in_err-name.ensures (plain_out c.name_of.result c.name_of.ensures.err) c.from_residual.ensures.1)
