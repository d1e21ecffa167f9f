use Rattle.std.proofs.Common.{◌≡◌}
use Rattle.std.specs.Io.KnownBytes.{Keeps}
use Rattle.nr_outside.proofs.sink.standard.flush.Given as goal

abbrev pub invariant-tries : goal.invariant-tries
invariant-tries g l = record {
  count : l.faults ≡ l.fn.faults;
  bytes : Keeps (g.W.Write.contents l.fn.writer) (g.W.Write.contents l.writer);
}
