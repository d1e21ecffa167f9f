use Rattle.std.proofs.Common.{◌≡◌, ◌++◌, length, map}
use Rattle.nr_serform.specs.Descriptions.{fields_table, fields_text}
use Rattle.nr_serform.specs.StreamSlots.{placed_of}
use Rattle.nr_serwrite.proofs.fields.put_fields.Given as goal

abbrev pub invariant-loop-left : goal.invariant-loop-left
invariant-loop-left l = record {
  text : l.out ++ fields_text l.handles (map (λ a. a.1) (map placed_of l.left)) ≡ l.fn.out ++ fields_text l.fn.handles (map (λ a. a.1) (map placed_of l.fn.fields));
  table : fields_table l.handles (map (λ a. a.1) (map placed_of l.left)) ≡ fields_table l.fn.handles (map (λ a. a.1) (map placed_of l.fn.fields));
}

abbrev pub decreases-loop-left : goal.decreases-loop-left
decreases-loop-left l = length l.left
