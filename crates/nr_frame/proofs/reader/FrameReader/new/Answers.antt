use Rattle.nr_frame.proofs.Held.{none_held}
use Rattle.nr_frame.proofs.reader.FrameReader.new.Goals as goal

pub invariant_of-result : goal.invariant_of-result
invariant_of-result c = none_held c.args.side c.new.result.items c.new.ensures.items
