-- Sets of the classes and names of slots.
use Rattle.std.specs.Prelude.{ℕ, List, Bool, ◌&&◌, ◌==◌}
use Rattle.std.specs.List.{list_any}
use Rattle.std.specs.Str.{bytes_eq}
use Rattle.std.specs.BTreeSet.{BTreeSet}
use Rattle.std.specs.Borrow.{Bor}
use Rattle.nr_linked.specs.declared.program.tables.SlotInfo.{SlotInfo}

-- whether the set has the slot's class with its name
unfoldable pub has : BTreeSet (ℕ × Bor (List ℕ)) → SlotInfo → Bool
has seen t = list_any (λ k. t.declared_in == k.0 && bytes_eq t.name k.1.now) seen.keys
