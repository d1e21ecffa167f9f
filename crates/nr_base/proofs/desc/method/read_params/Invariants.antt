use Rattle.std.proofs.Common.{◌≡◌, ◌<◌, ◌^◌, length, []}
use Rattle.nr_base.specs.Reader.{while_more}
use Rattle.nr_base.specs.DescReading.{param_at}
use Rattle.nr_base.proofs.desc.method.read_params.Given as goal

abbrev pub invariant-loop-params : goal.invariant-loop-params
invariant-loop-params l = (length l.cur.rest < 2 ^ 16) × (while_more param_at l.params l.cur ≡ while_more param_at [] l.fn.cur)

abbrev pub decreases-loop-params : goal.decreases-loop-params
decreases-loop-params l = length l.cur.rest
