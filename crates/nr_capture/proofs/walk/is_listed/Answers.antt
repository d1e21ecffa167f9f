use Rattle.std.proofs.Common.{sym}
use Rattle.nr_graph.proofs.Walks.{has_met}
use Rattle.nr_capture.proofs.walk.is_listed.Goals as goal

pub returns-in-Some : goal.returns-in-Some
returns-in-Some c = sym (has_met c.args.names.now c.args.name (c.in-Some._place, c.in-Some.ensures))
