use Rattle.std.proofs.Common.{◌≡◌, ◌++◌, ◌≤◌, map, take}
use Rattle.std.specs.Vec.{vec_capacity}
use Rattle.nr_heap.specs.Forms.{form_of}
use Rattle.nr_heap.proofs.heap.make.push_forms.Given as goal

abbrev pub invariant-loop-slot : goal.invariant-loop-slot
invariant-loop-slot l = record {
  items : l.forms.items ≡ l.initial.forms.items ++ map (λ s. form_of s.kind) (take l.slot-index l.slots);
  capacity : vec_capacity l.initial.forms ≤ vec_capacity l.forms;
}
