use Rattle.std.proofs.Common.{◌≡◌, List, ℕ, Option}
use Rattle.std.specs.Io.KnownBytes.{Appends}
use Rattle.nr_outside.proofs.write_whole.write_whole.Given as goal

abbrev pub invariant-pieces : goal.invariant-pieces
invariant-pieces g l = record {
  count : l.faults ≡ l.fn.faults;
  bytes : (end : Option (List ℕ)) → Appends (g.W.Write.contents l.writer) end l.rest → Appends (g.W.Write.contents l.fn.writer) end l.piece;
}
