use Rattle.std.proofs.Common.{◌≡◌, ◌-◌, [], false}
use Rattle.nr_base.specs.Reader.{times}
use Rattle.nr_classread.specs.PoolReading.{next_at}
use Rattle.nr_classread.proofs.pool.read_entries.Given as goal

abbrev pub invariant-loop : goal.invariant-loop
invariant-loop l = times next_at (l.count - l.counter) (l.pool, l.is_behind_wide) l.cur ≡ times next_at l.count ([], false) l.fn.cur
