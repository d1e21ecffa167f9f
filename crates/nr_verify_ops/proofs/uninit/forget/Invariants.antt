use Rattle.std.proofs.Common.{◌≡◌}
use Rattle.nr_verify_ops.proofs.InPlace.{changed}
use Rattle.nr_verify_ops.specs.InPlace.{one_forgotten}
use Rattle.nr_verify_ops.proofs.uninit.forget.Given as goal

abbrev pub invariant-loop-t : goal.invariant-loop-t
invariant-loop-t l = l.types ≡ changed (one_forgotten l.at) l.t-index l.fn.types
