use Rattle.std.proofs.Common.{◌≡◌, ◌-◌, []}
use Rattle.nr_base.specs.Reader.{times, onto}
use Rattle.nr_code.specs.MapReading.{map_type_at}
use Rattle.nr_code.proofs.maps.types.read_types.Given as goal

abbrev pub invariant-loop : goal.invariant-loop
invariant-loop l = times (onto (map_type_at l.class.pool l.starts)) (l.count - l.counter) l.types l.cur ≡ times (onto (map_type_at l.class.pool l.starts)) l.count [] l.fn.cur
