use Rattle.std.proofs.Common.{◌≡◌, ◌-◌, []}
use Rattle.nr_base.specs.Reader.{times, onto}
use Rattle.nr_classread.specs.Numbers.{u2_at}
use Rattle.nr_classread.proofs.class.read_indices.Given as goal

abbrev pub invariant-loop : goal.invariant-loop
invariant-loop l = times (onto u2_at) (l.count - l.counter) l.indices l.cur ≡ times (onto u2_at) l.count [] l.fn.cur
