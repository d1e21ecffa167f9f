use Rattle.std.proofs.Common.{◌≡◌, ◌-◌, []}
use Rattle.nr_base.specs.Reader.{times, onto}
use Rattle.nr_classread.specs.MemberReading.{field_at}
use Rattle.nr_classread.proofs.field.read_items.Given as goal

abbrev pub invariant-loop : goal.invariant-loop
invariant-loop l = times (onto (field_at l.pool)) (l.count - l.counter) l.fields l.cur ≡ times (onto (field_at l.pool)) l.count [] l.fn.cur
