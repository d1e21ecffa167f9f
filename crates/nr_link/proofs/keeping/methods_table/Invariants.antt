use Rattle.std.proofs.Common.{◌≡◌, ◌-◌, find}
use Rattle.std.specs.List.{range_with_len}
use Rattle.std.specs.Option.{option_or}
use Rattle.nr_names.specs.declared.table.Key.{Key}
use Rattle.nr_names.specs.Numbers.{texts}
use Rattle.nr_names.specs.Tables.{has_key, place_in}
use Rattle.nr_linked.specs.Programs.{methods_of}
use Rattle.nr_link.specs.Lookups.{method_key}
use Rattle.nr_link.proofs.keeping.methods_table.Given as goal

abbrev pub invariant-loop-method : goal.invariant-loop-method
invariant-loop-method l =
    (k : Key) → option_or (place_in l.table k) (find (λ m. has_key k (method_key l.tables (texts l.known) l.class m)) (range_with_len l.method (l.end - l.method)))
    ≡ find (λ m. has_key k (method_key l.tables (texts l.known) l.class m)) (methods_of l.tables l.class)
