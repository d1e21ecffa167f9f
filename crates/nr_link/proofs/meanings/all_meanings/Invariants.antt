use Rattle.std.proofs.Common.{◌≡◌, map}
use Rattle.std.specs.List.{range_with_len}
use Rattle.nr_link.specs.Meanings.{class_meanings}
use Rattle.nr_link.proofs.meanings.all_meanings.Given as goal

abbrev pub invariant-loop-class : goal.invariant-loop-class
invariant-loop-class l = l.all ≡ map (class_meanings l.tables) (range_with_len 0 l.class)
