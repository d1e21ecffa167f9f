use Rattle.std.proofs.Common.{◌+◌, ◌∙◌, ap}
use Rattle.std.proofs.lemmas.List.{length-map, length-replicate}
use Rattle.nr_linked.specs.Kinds.{array_of}
use Rattle.nr_model.specs.Heaps.{Obj}
use Rattle.nr_model.specs.Scripts.{plain}
use Rattle.nr_model.specs.Throws.{zero_of}
use Rattle.nr_heap.proofs.Makes.{array_slots, made_in_room}
use Rattle.nr_heap.proofs.heap.Heap.new_array.Goals as goal

pub returns-clause-made : goal.returns-clause-made
returns-clause-made c =
    made_in_room c.args.self.now c.room_for.new.self c.make.new.self c.make.result (c.args.len + 1) _ _
    c.in_ok-room_for.ensures.room (ap (λ n. n + 1) (length-map _ plain ∙ length-replicate c.args.len (zero_of c.args.elem))) (ap (λ vs. let o : Obj = record { kind = array_of c.args.elem; slots = vs } in o) (array_slots c.args.elem c.args.len)) c.make.ensures
