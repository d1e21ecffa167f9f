use Rattle.std.proofs.Common.{map, take}
use Rattle.nr_names.specs.Numbers.{texts}
use Rattle.nr_names.specs.Tables.{Lists}
use Rattle.nr_link.specs.Lookups.{field_key}
use Rattle.nr_link.proofs.keeping.table_of_fields.Given as goal

abbrev pub invariant-loop-place : goal.invariant-loop-place
invariant-loop-place l = Lists l.table (map (field_key (texts l.known) l.holder l.class.pool) (take l.place l.fields))
