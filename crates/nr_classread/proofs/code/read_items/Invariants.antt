use Rattle.std.proofs.Common.{◌≡◌, ◌-◌, []}
use Rattle.nr_base.specs.Reader.{times, onto}
use Rattle.nr_classread.specs.MemberReading.{handler_at}
use Rattle.nr_classread.proofs.code.read_items.Given as goal

abbrev pub invariant-loop : goal.invariant-loop
invariant-loop l = times (onto handler_at) (l.count - l.counter) l.handlers l.cur ≡ times (onto handler_at) l.count [] l.fn.cur
