use Rattle.std.proofs.Common.{◌≡◌, ◌++◌, drop}
use Rattle.nr_link.specs.Entries.{numbers_of}
use Rattle.nr_names.specs.Numbers.{texts}
use Rattle.nr_link.proofs.outline.numbers_of.Given as goal

abbrev pub invariant-loop-index : goal.invariant-loop-index
invariant-loop-index l =
    l.found ++ numbers_of (texts l.names) l.class.pool (drop l.index-index l.indices) ≡ numbers_of (texts l.names) l.class.pool l.indices
