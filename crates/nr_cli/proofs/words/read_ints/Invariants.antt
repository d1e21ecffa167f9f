use Rattle.std.proofs.Common.{◌≡◌, ◌+◌, ◌≤◌, map, length, []}
use Rattle.nr_cli.specs.Words.{ints_onto}
use Rattle.nr_cli.proofs.words.read_ints.Given as goal

abbrev pub invariant-loop-rest : goal.invariant-loop-rest
invariant-loop-rest l = record {
  ints : ints_onto (map (λ w. w.now) l.rest) l.ints.items ≡ ints_onto (map (λ w. w.now) l.words) [];
  few : length l.ints.items + length l.rest ≤ 1000;
}

abbrev pub decreases-loop-rest : goal.decreases-loop-rest
decreases-loop-rest l = length l.rest
