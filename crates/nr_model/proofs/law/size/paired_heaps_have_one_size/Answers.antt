use Rattle.std.specs.Prelude.{◌≤◌}
use Rattle.std.proofs.Common.{arith}
use Rattle.nr_model.specs.Heaps.{cells}
use Rattle.nr_model.specs.Pairs.{Listed}
use Rattle.nr_model.proofs.Sizes.{firsts_fewer, seconds_fewer}
use Rattle.nr_model.proofs.law.size.paired_heaps_have_one_size.Goals as goal

pub returns-clause-firsts : goal.returns-clause-firsts
returns-clause-firsts c = λ pairs h k p. firsts_fewer (Listed pairs) h k p

pub returns-clause-seconds : goal.returns-clause-seconds
returns-clause-seconds c = λ pairs h k p. seconds_fewer (Listed pairs) h k p

pub returns-clause-both : goal.returns-clause-both
returns-clause-both c = λ pairs h k p f g.
    let less : cells h ≤ cells k = firsts_fewer (Listed pairs) h k p f in
    let more : cells k ≤ cells h = seconds_fewer (Listed pairs) h k p g in
    omega (arith, less, more)
