use Rattle.std.proofs.Common.{take}
use Rattle.nr_graph.specs.Pictures.{AllDraw}
use Rattle.nr_capture.specs.Drawing.{AllBits}
use Rattle.nr_capture.proofs.drawing.slots_of.Given as goal

abbrev pub invariant-loop-value : goal.invariant-loop-value
invariant-loop-value l = AllDraw l.names (take l.value-index l.values) l.slots × AllBits l.slots
