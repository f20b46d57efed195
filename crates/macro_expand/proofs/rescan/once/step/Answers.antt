use Rattle.std.proofs.Common.{refl}
use Rattle.std.proofs.lemmas.Result.{err_from_is_err_and}
use Rattle.macro_expand.specs.declared.here.Here.{Here}
use Rattle.macro_expand.specs.declared.rescan.once.Level.{Level}
use Rattle.macro_expand.specs.Macros.{Macros, macros_of}
use Rattle.macro_expand.proofs.LevelMoves.{level_fault, level_end, level_stays, level_replaced, level_replaced_fault}
use Rattle.macro_expand.proofs.rescan.once.step.Goals as goal

pub returns-in_err-take_head-clause-err : goal.returns-in_err-take_head-clause-err
returns-in_err-take_head-clause-err c =
    let p = err_from_is_err_and c.from_residual.result c.from_residual.ensures.1 in
    rw (p.1, p.2) (level_fault (macros_of c.args.definitions.now) c.args.here.now c.args.level.now c.in_err-take_head.field-0.0 c.in_err-take_head.ensures.head)

pub returns-in_err-put-in-Replaced-clause-err : goal.returns-in_err-put-in-Replaced-clause-err
returns-in_err-put-in-Replaced-clause-err c =
    let p = err_from_is_err_and c.from_residual-in_err-put-in-Replaced.result c.from_residual-in_err-put-in-Replaced.ensures.1 in
    let M : Macros = macros_of c.args.definitions.now in
    let H : Here = c.args.here.now in
    let l : Level = c.args.level.now in
    let h = rw c.in-Replaced.is at c.in_ok-take_head.ensures.head in
    let n : Level = record l { slots = c.take_head.new.slots } in
    rw (p.1, p.2) (level_replaced_fault M H l n c.in-Replaced.call c.in_err-put-in-Replaced.field-0.0 h.0 refl refl (c.in_err-put-in-Replaced.ensures.err M H))

pub returns-in-Finished-clause-ok : goal.returns-in-Finished-clause-ok
returns-in-Finished-clause-ok c =
    let h = rw c.in-Finished.is at c.in_ok-take_head.ensures.head in
    level_end (macros_of c.args.definitions.now) c.args.here.now c.args.level.now h.0

pub returns-in_ok-push-in-Stays-clause-ok : goal.returns-in_ok-push-in-Stays-clause-ok
returns-in_ok-push-in-Stays-clause-ok c =
    let l : Level = c.args.level.now in
    let h = rw c.in-Stays.is at c.in_ok-take_head.ensures.head in
    let n : Level = record l { slots = c.take_head.new.slots; out = c.push.new.self } in
    level_stays (macros_of c.args.definitions.now) c.args.here.now l n c.in-Stays.token h.0 c.in_ok-push-in-Stays.ensures.items refl c.requires.work

pub returns-in_ok-put-in-Replaced-clause-ok : goal.returns-in_ok-put-in-Replaced-clause-ok
returns-in_ok-put-in-Replaced-clause-ok c =
    let M : Macros = macros_of c.args.definitions.now in
    let H : Here = c.args.here.now in
    let l : Level = c.args.level.now in
    let h = rw c.in-Replaced.is at c.in_ok-take_head.ensures.head in
    let n : Level = record l { slots = c.take_head.new.slots } in
    level_replaced M H l n c.put.new.level c.in-Replaced.call h.0 refl refl (c.in_ok-put-in-Replaced.ensures.ok M H)
