use Rattle.std.proofs.Common.{map, ap, ◌∙◌, refl}
use Rattle.nr_serform.specs.Members.{part_of}
use Rattle.nr_serform.specs.StreamSlots.{slots_in_order}
use Rattle.nr_serform.proofs.MemberSlots.{at_member, member_within, slot_added, slots_added, sorted_parts}
use Rattle.nr_serform.proofs.order.push_in_order.Goals as goal

pub bounds-slots-place : goal.bounds-slots-place
bounds-slots-place c =
    let parts = ap (map part_of) c.deref-member-items.ensures.value
    ∙ sorted_parts c.args.slots.now c.args.«class» c.args.references c.in_ok-members.members.items c.sort.new.members.items c.in_ok-members.ensures.parts c.in_ok-sort.ensures.sorted in
    member_within _ _ _ _
    (at_member c.args.slots.now c.args.«class» c.args.references c.deref-member-items.result.now parts c.loop-member.member-index c.loop-member-test.true)

pub loop-member-preserved : goal.loop-member-preserved
loop-member-preserved c =
    let parts = ap (map part_of) c.deref-member-items.ensures.value
    ∙ sorted_parts c.args.slots.now c.args.«class» c.args.references c.in_ok-members.members.items c.sort.new.members.items c.in_ok-members.ensures.parts c.in_ok-sort.ensures.sorted in
    slot_added c.args.slots.now (slots_in_order c.args.slots.now c.args.«class» c.args.references) _ c.loop-member.member-index _
    (at_member c.args.slots.now c.args.«class» c.args.references c.deref-member-items.result.now parts c.loop-member.member-index c.loop-member-test.true)
    c.index-slots-place.result c.index-slots-place.is _ refl c.loop-member.found.items c.push.new.self.items c.in_ok-push.ensures.items c.loop-member.invariant

pub returns : goal.returns
returns c =
    let parts = ap (map part_of) c.deref-member-items.ensures.value
    ∙ sorted_parts c.args.slots.now c.args.«class» c.args.references c.in_ok-members.members.items c.sort.new.members.items c.in_ok-members.ensures.parts c.in_ok-sort.ensures.sorted in
    slots_added (slots_in_order c.args.slots.now c.args.«class» c.args.references) _ c.deref-member-items.result.now c.loop-member.found.items c.loop-member.member-index
    parts c.loop-member-test.false c.loop-member.invariant
