use Rattle.std.proofs.lemmas.Result.{err_from_is_err_and}
use Rattle.nr_prog.specs.Rules.{method_fault, methods_fault}
use Rattle.nr_prog.specs.Seen.{has}
use Rattle.nr_prog.specs.TextNumbers.{number}
use Rattle.nr_prog.proofs.SeenLaws.{has_none}
use Rattle.nr_prog.proofs.Members.{begins, walks_on, fails, walked}
use Rattle.nr_prog.proofs.form.methods.check_methods.Goals as goal

pub loop-place-init : goal.loop-place-init
loop-place-init c = begins _ _ (method_fault c.args.pool.now) c.args.pool.now c.args.methods.now _ (λ x y. has_none c.new-seen.result c.new-seen.ensures.empty (number c.args.pool.now x) (number c.args.pool.now y))

pub loop-place-preserved : goal.loop-place-preserved
loop-place-preserved c =
    walks_on _ _ (method_fault c.args.pool.now) c.args.pool.now c.args.methods.now _ c.index-methods-place.result (has c.args.pool.now c.loop-place.seen) (has c.args.pool.now c.check_method.new.seen)
    c.loop-place-test.true c.index-methods-place.is c.in_ok-check_method.ensures.fault c.in_ok-check_method.ensures.seen c.loop-place.invariant

pub returns-in_err-check_method : goal.returns-in_err-check_method
unfolding methods_fault
returns-in_err-check_method c =
    let p = err_from_is_err_and c.from_residual.result c.from_residual.ensures.1 in
    rw (p.1, p.2) (fails _ _ (method_fault c.args.pool.now) c.args.pool.now c.args.methods.now _ c.index-methods-place.result (has c.args.pool.now c.loop-place.seen) _ c.loop-place-test.true c.index-methods-place.is
    c.in_err-check_method.ensures.fault c.loop-place.invariant)

pub returns : goal.returns
unfolding methods_fault
returns c = walked _ _ (method_fault c.args.pool.now) c.args.pool.now c.args.methods.now _ _ c.loop-place-test.false c.loop-place.invariant
