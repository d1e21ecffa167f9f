use Rattle.std.proofs.Common.{◌≡◌, map, take}
use Rattle.nr_names.specs.Numbers.{number_of, texts}
use Rattle.nr_names.proofs.numbers.numbers_of.Given as goal

abbrev pub invariant-loop-entry : goal.invariant-loop-entry
invariant-loop-entry l = l.numbers ≡ map (number_of (texts l.known)) (take l.entry-index l.pool)
