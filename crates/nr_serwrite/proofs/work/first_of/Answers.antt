use Rattle.nr_serwrite.proofs.Items.{no_slots}
use Rattle.nr_serwrite.proofs.work.first_of.Goals as goal

pub returns-in_default : goal.returns-in_default
returns-in_default c = no_slots c.args.frame.kinds c.args.frame.slots.now c.in_default.len_below
