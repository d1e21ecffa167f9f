use Rattle.std.proofs.Common.{◌≡◌, ◌-◌, None}
use Rattle.nr_base.specs.Reader.{times}
use Rattle.nr_classread.specs.MemberReading.{stack_map_table_at}
use Rattle.nr_classread.proofs.code.read_attributes.Given as goal

abbrev pub invariant-loop : goal.invariant-loop
invariant-loop l = times (stack_map_table_at l.pool) (l.count - l.counter) l.seen l.cur ≡ times (stack_map_table_at l.pool) l.count None l.fn.cur
