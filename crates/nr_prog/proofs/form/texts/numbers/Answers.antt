use Rattle.std.proofs.Common.{◌+◌, arith}
use Rattle.nr_prog.proofs.Numbered.{told_none, told_on, numbers_on}
use Rattle.nr_prog.proofs.form.texts.numbers.Goals as goal

pub loop-place-init : goal.loop-place-init
loop-place-init c = record { told = told_none c.new-firsts.result c.new-firsts.ensures.empty; numbers = c.new-numbers.ensures }

pub loop-place-preserved : goal.loop-place-preserved
loop-place-preserved c =
    let pool = c.args.pool.now in
    let e = c.index-pool-place.result in
    record {
      told = λ text. told_on pool c.loop-place.place (c.loop-place.place + 1) e _ _ text c.loop-place-test.true c.index-pool-place.is (omega arith)
          (c.in_ok-number.ensures.told text) (c.loop-place.invariant.told text);
      numbers = numbers_on pool c.loop-place.place (c.loop-place.place + 1) c.in_ok-number.field-0 e c.loop-place.firsts _ _ c.loop-place-test.true c.index-pool-place.is (omega arith)
          c.loop-place.invariant.told c.in_ok-number.ensures.found c.loop-place.invariant.numbers c.in_ok-push.ensures.ok;
    }
