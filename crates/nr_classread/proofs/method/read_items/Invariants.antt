use Rattle.std.proofs.Common.{◌≡◌, ◌-◌, []}
use Rattle.nr_base.specs.Reader.{times, onto}
use Rattle.nr_classread.specs.MemberReading.{method_at}
use Rattle.nr_classread.proofs.method.read_items.Given as goal

abbrev pub invariant-loop : goal.invariant-loop
invariant-loop l = times (onto (method_at l.pool)) (l.count - l.counter) l.methods l.cur ≡ times (onto (method_at l.pool)) l.count [] l.fn.cur
