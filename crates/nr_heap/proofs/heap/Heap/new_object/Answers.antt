use Rattle.std.proofs.Common.{◌≡◌, ◌+◌, ◌∙◌, ap, sym, length, map, []}
use Rattle.std.specs.Option.{option_map_or}
use Rattle.std.proofs.lemmas.List.{length-map}
use Rattle.nr_linked.specs.Slots.{slots_of}
use Rattle.nr_model.specs.Scripts.{plain}
use Rattle.nr_model.specs.Throws.{zero_of, zeros}
use Rattle.nr_heap.specs.Contents.{object_of}
use Rattle.nr_linked.specs.Kinds.{class_kind}
use Rattle.nr_model.specs.Heaps.{Obj}
use Rattle.nr_heap.proofs.Makes.{object_slots, made_in_room}
use Rattle.nr_heap.proofs.heap.Heap.new_object.Goals as goal

pub returns-clause-made : goal.returns-clause-made
returns-clause-made c =
    let class_slots : slots_of c.args.p.now c.args.class ≡ c.as_slice-slots.result.now = ap (λ o. option_map_or (λ e. e.slots) o []) c.class.ensures ∙ sym c.as_slice-slots.ensures in
    made_in_room c.args.self.now c.room_for.new.self c.make.new.self c.make.result (c.slots-len.result + 1) _ (object_of c.args.p.now c.args.class)
    c.in_ok-room_for.ensures.room
    (ap (λ n. n + 1) (length-map (zeros c.args.p.now c.args.class) plain ∙ length-map (slots_of c.args.p.now c.args.class) (λ s. zero_of s.kind) ∙ sym c.slots-len.ensures))
    (ap (λ vs. let o : Obj = record { kind = class_kind c.args.class; slots = vs } in o)
    (object_slots c.args.class c.slots-len.result c.as_slice-slots.result.now (c.slots-len.ensures ∙ ap length class_slots)
    ∙ ap (λ ss. map plain (map (λ s. zero_of s.kind) ss)) (sym class_slots)))
    c.make.ensures
