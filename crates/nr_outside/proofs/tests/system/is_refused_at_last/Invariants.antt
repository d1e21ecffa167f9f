use Rattle.std.proofs.Common.{◌≡◌, true}
use Rattle.nr_outside.proofs.tests.system.is_refused_at_last.Given as goal

abbrev pub invariant-sends : goal.invariant-sends
invariant-sends g l = g.W.Wire.opened l.wire ≡ true
