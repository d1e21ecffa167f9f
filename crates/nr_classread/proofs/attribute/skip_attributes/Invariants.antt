use Rattle.std.proofs.Common.{◌≡◌, ◌-◌}
use Rattle.nr_base.specs.Reader.{times}
use Rattle.nr_classread.specs.AttributeReading.{ignored_at}
use Rattle.nr_classread.proofs.attribute.skip_attributes.Given as goal

abbrev pub invariant-loop : goal.invariant-loop
invariant-loop l = times ignored_at (l.count - l.counter) tt l.cur ≡ times ignored_at l.count tt l.fn.cur
