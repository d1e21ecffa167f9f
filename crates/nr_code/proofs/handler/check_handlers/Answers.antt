use Rattle.std.proofs.lemmas.Result.{err_from_is_err_and}
use Rattle.nr_code.specs.HandlerChecks.{handler_step, handlers_checked}
use Rattle.nr_instrs.proofs.Walks.{fails_in}
use Rattle.nr_code.proofs.handler.check_handlers.Goals as goal

pub returns-in_err-check_handler : goal.returns-in_err-check_handler
unfolding handlers_checked
returns-in_err-check_handler c =
    let p = err_from_is_err_and c.from_residual.result c.from_residual.ensures.1 in
    rw (p.1, p.2) (fails_in (handler_step c.args.class.now.pool c.args.len c.args.starts.now) c.loop-place.place c.loop-place.place c.args.handlers.now (record { start = 0; end = 0; handler = 0; catch_type = 0 }) _ _
    c.loop-place-test.true c.in_err-check_handler.ensures c.loop-place.invariant)
