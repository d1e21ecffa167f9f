use Rattle.std.proofs.lemmas.Result.{err_from_is_err_and}
use Rattle.nr_base.specs.DescReading.{params_at}
use Rattle.nr_base.proofs.DescLoops.{params_end, params_fail}
use Rattle.nr_base.proofs.desc.method.read_params.Goals as goal

pub returns-in_err-read_param : goal.returns-in_err-read_param
unfolding params_at
returns-in_err-read_param c =
    let p = err_from_is_err_and c.from_residual.result c.from_residual.ensures.1 in
    rw (p.1, p.2) (params_fail c.loop-params.params c.loop-params.cur _ _ c.in_err-read_param.ensures c.loop-params.invariant.1)

pub returns : goal.returns
unfolding params_at
returns c = params_end c.loop-params.params c.read_param.new.params c.in_ok-read_param.field-0 c.loop-params.cur c.read_param.new.cur _ c.if-branch.false c.in_ok-read_param.ensures c.loop-params.invariant.1
