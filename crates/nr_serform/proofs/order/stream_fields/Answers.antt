use Rattle.std.proofs.Common.{map, ap, ◌∙◌}
use Rattle.nr_serform.specs.declared.order.StreamSlot.{StreamSlot}
use Rattle.nr_serform.proofs.PlacedSlots.{places_of}
use Rattle.nr_serform.proofs.order.stream_fields.Goals as goal

pub returns : goal.returns
returns c =
    c.in_ok-places.ensures ∙ ap (map (λ (s : StreamSlot). s.place)) c.as_slice.ensures.value ∙ places_of c.in_ok-slots.slots.items _ c.in_ok-slots.ensures
