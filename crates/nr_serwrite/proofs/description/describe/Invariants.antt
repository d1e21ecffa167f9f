use Rattle.std.proofs.Common.{Some}
use Rattle.nr_serwrite.proofs.Heights.{height}
use Rattle.nr_serwrite.specs.Texts.{Climbs}
use Rattle.nr_serwrite.proofs.description.describe.Given as goal

abbrev pub invariant-loop-next : goal.invariant-loop-next
invariant-loop-next l = Climbs l.forms (Some l.fn.kind) l.fn.handles l.fn.out l.next l.handles l.out

abbrev pub decreases-loop-next : goal.decreases-loop-next
decreases-loop-next l = height l.forms l.next
