use Rattle.std.proofs.lemmas.Result.{err_from_is_err_and}
use Rattle.nr_base.proofs.DescLoops.{base_fails}
use Rattle.nr_base.proofs.desc.field.read_type.Goals as goal

pub returns-in_err-base : goal.returns-in_err-base
returns-in_err-base c =
    let p = err_from_is_err_and c.from_residual-in_err-base.result c.from_residual-in_err-base.ensures.1 in
    rw (p.1, p.2) (base_fails c.loop-letter.dims c.loop-letter.at c.loop-letter.letter c.loop-letter.cur _ _ c.loop-letter-test.false c.in_err-base.ensures c.loop-letter.invariant.1)
