use Rattle.nr_base.proofs.DescLoops.{class_ends}
use Rattle.nr_base.proofs.desc.class.skip_class.Goals as goal

pub returns : goal.returns
returns c = class_ends c.loop.begun c.read_class_letter.new.begun c.in_ok-read_class_letter.field-0 c.loop.cur c.read_class_letter.new.cur _ c.if-branch.false c.in_ok-read_class_letter.ensures c.loop.invariant
