use Rattle.std.proofs.Common.{◌≡◌, ◌<◌, ◌^◌, ◌-◌, length}
use Rattle.nr_base.specs.DescReading.{type_at}
use Rattle.nr_base.proofs.desc.field.read_type.Given as goal

abbrev pub invariant-loop-letter : goal.invariant-loop-letter
invariant-loop-letter l = (length l.cur.rest < 2 ^ 16) × (type_at (255 - l.dims) l.at l.letter l.cur ≡ type_at 255 l.fn.at l.fn.letter l.fn.cur)

abbrev pub decreases-loop-letter : goal.decreases-loop-letter
decreases-loop-letter l = 255 - l.dims
