use Rattle.std.proofs.Common.{◌≡◌, take}
use Rattle.nr_names.specs.Numbers.{texts}
use Rattle.nr_link.proofs.names.numbers.Given as goal

abbrev pub invariant-loop-name : goal.invariant-loop-name
invariant-loop-name l = texts l.names ≡ take l.name-index l.all
