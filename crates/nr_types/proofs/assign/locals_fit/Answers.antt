use Rattle.nr_types.proofs.Fitting.{fit_stops, fit_goes}
use Rattle.nr_types.proofs.assign.locals_fit.Goals as goal

pub returns-then-not-assignable : goal.returns-then-not-assignable
returns-then-not-assignable c =
    fit_stops c.args.p.now c.args.ts.now c.args.us.now c.loop-i.i c.local_type.result c.assignable.result c.loop-i-test.true c.local_type.ensures c.assignable.ensures c.loop-i.invariant c.if-not-assignable.true

pub loop-i-preserved : goal.loop-i-preserved
loop-i-preserved c =
    fit_goes c.args.p.now c.args.ts.now c.args.us.now c.loop-i.i c.local_type.result c.assignable.result c.loop-i-test.true c.local_type.ensures c.assignable.ensures c.loop-i.invariant c.if-not-assignable.false
