use Rattle.nr_names.specs.Numbers.{texts}
use Rattle.nr_link.proofs.KeptMembers.{KeptTo}
use Rattle.nr_link.proofs.keeping.all_kept.Given as goal

abbrev pub invariant-loop-place : goal.invariant-loop-place
invariant-loop-place l = KeptTo l.tables (texts l.known) l.all l.place
