use Rattle.std.proofs.Common.{◌≡◌, take}
use Rattle.nr_link.specs.Meanings.{meanings_of}
use Rattle.nr_link.proofs.meanings.meanings_of.Given as goal

abbrev pub invariant-loop-place : goal.invariant-loop-place
invariant-loop-place l = l.meanings ≡ meanings_of l.tables (take l.place l.class.pool)
