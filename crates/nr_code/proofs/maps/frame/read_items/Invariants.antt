use Rattle.std.proofs.Common.{◌≡◌, ◌-◌, ◌≤◌, ◌^◌}
use Rattle.nr_base.specs.Reader.{times}
use Rattle.nr_prog.specs.BodyMaps.{at_entry}
use Rattle.nr_code.specs.MapReading.{frame_at}
use Rattle.nr_code.proofs.maps.frame.read_items.Given as goal

abbrev pub invariant-loop : goal.invariant-loop
invariant-loop l = record {
  so_far : times (frame_at l.class.pool l.starts) (l.count - l.counter) (record { next = l.next; locals = l.locals; maps = l.maps }) l.cur ≡ times (frame_at l.class.pool l.starts) l.count (at_entry l.fn.locals) l.fn.cur;
  next : l.next ≤ 2 ^ 16;
}
