use Rattle.nr_capture.proofs.Nodes.{bits_more, draw_more, draw_whole, met_at, slots_start}
use Rattle.nr_capture.proofs.drawing.slots_of.Goals as goal

pub slot_of-requires : goal.slot_of-requires
slot_of-requires c = met_at c.args.names.now c.args.values.now c.loop-value.value-index _ c.loop-value-test.true c.requires

pub loop-value-preserved : goal.loop-value-preserved
loop-value-preserved c = (
  draw_more c.args.names.now c.args.values.now _ _ c.loop-value.value-index _ _ c.loop-value-test.true c.loop-value.invariant.0 c.slot_of.ensures.draws c.in_ok-push.ensures.ok,
  bits_more _ _ _ c.loop-value.invariant.1 c.slot_of.ensures.bits c.in_ok-push.ensures.ok,
)

pub returns-clause-draws : goal.returns-clause-draws
returns-clause-draws c = draw_whole c.args.names.now c.args.values.now _ c.loop-value.value-index c.loop-value-test.false c.loop-value.invariant.0

pub loop-value-init : goal.loop-value-init
loop-value-init c = slots_start c.args.names.now c.new-slots.result c.new-slots.ensures
