use Rattle.std.proofs.Common.{◌≡◌, ◌∷◌, replicate, Some, None}
use Rattle.nr_streamrows.proofs.tests.roots.Given as goal

abbrev pub invariant-loop-root : goal.invariant-loop-root
invariant-loop-root l = l.roots ≡ Some 0 ∷ Some 0 ∷ replicate l._root None
