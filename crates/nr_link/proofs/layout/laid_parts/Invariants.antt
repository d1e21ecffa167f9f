use Rattle.std.proofs.Common.{◌≡◌, map}
use Rattle.std.specs.List.{range_with_len}
use Rattle.nr_link.specs.Laid.{above_in}
use Rattle.nr_link.proofs.layout.laid_parts.Given as goal

abbrev pub invariant-loop-class : goal.invariant-loop-class
invariant-loop-class l = l.parts ≡ map (above_in l.tables) (range_with_len 0 l.class)
