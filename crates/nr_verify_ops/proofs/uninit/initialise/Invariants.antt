use Rattle.std.proofs.Common.{◌≡◌}
use Rattle.nr_verify_ops.proofs.InPlace.{changed}
use Rattle.nr_verify_ops.specs.InPlace.{one_initialised}
use Rattle.nr_verify_ops.proofs.uninit.initialise.Given as goal

abbrev pub invariant-loop-u : goal.invariant-loop-u
invariant-loop-u l = l.types ≡ changed (one_initialised l.t l.«class») l.u-index l.fn.types
