use Rattle.std.proofs.Common.{◌≡◌, ◌++◌, drop}
use Rattle.std.specs.List.{flat_map}
use Rattle.std.specs.Option.{option_to_list}
use Rattle.nr_link.specs.Entries.{slot_or_none}
use Rattle.nr_link.proofs.layout.push_slots_of.Given as goal

abbrev pub invariant-loop-field : goal.invariant-loop-field
invariant-loop-field l =
    l.slots ++ flat_map (λ f. option_to_list (slot_or_none l.tables l.place l.class.pool f)) (drop l.field-index l.fields)
    ≡ l.initial.slots ++ flat_map (λ f. option_to_list (slot_or_none l.tables l.place l.class.pool f)) l.fields
