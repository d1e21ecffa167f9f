use Rattle.std.proofs.Common.{map, take}
use Rattle.nr_names.specs.Numbers.{texts}
use Rattle.nr_names.specs.Tables.{Lists}
use Rattle.nr_link.specs.Lookups.{slot_key}
use Rattle.nr_link.proofs.keeping.slots_table.Given as goal

abbrev pub invariant-loop-place : goal.invariant-loop-place
invariant-loop-place l = Lists l.table (map (slot_key (texts l.known)) (take l.place l.slots))
