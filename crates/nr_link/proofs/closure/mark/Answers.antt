use Rattle.std.proofs.Common.{true, sym}
use Rattle.nr_link.proofs.Marks.{set_none}
use Rattle.nr_link.proofs.closure.mark.Goals as goal

pub returns-in_default : goal.returns-in_default
returns-in_default c = sym (set_none c.args.row.now c.args.class true (sym c.in_default.ensures.value))
