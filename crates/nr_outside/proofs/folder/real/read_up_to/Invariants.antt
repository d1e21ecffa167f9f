use Rattle.std.proofs.Common.{◌≤◌, vec_len}
use Rattle.std.specs.Io.KnownBytes.{Consumes}
use Rattle.nr_outside.proofs.folder.real.read_up_to.Given as goal

abbrev pub invariant-parts : goal.invariant-parts
invariant-parts g l = record {
  bound : vec_len l.bytes ≤ l.max;
  front : Consumes (g.F.Read.remaining l.fn.file) (g.F.Read.remaining l.file) l.bytes.items;
}
