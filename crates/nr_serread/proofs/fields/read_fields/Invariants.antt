use Rattle.std.proofs.Common.{◌≡◌, length, map}
use Rattle.nr_serform.specs.StreamSlots.{placed_of}
use Rattle.nr_serread.specs.Describing.{fields_at}
use Rattle.nr_serread.proofs.fields.read_fields.Given as goal

abbrev pub invariant-loop-left : goal.invariant-loop-left
invariant-loop-left l = fields_at (map (λ a. a.1) (map placed_of l.left)) l.handles l.cur
    ≡ fields_at (map (λ a. a.1) (map placed_of l.fn.fields)) l.fn.handles l.fn.cur

abbrev pub decreases-loop-left : goal.decreases-loop-left
decreases-loop-left l = length l.left
