use Rattle.std.proofs.Common.{length}
use Rattle.nr_base.specs.Names.{units_of}
use Rattle.nr_base.proofs.NameLaws.{IsScanned}
use Rattle.nr_base.proofs.name.check.Given as goal

abbrev pub invariant-loop-cur : goal.invariant-loop-cur
invariant-loop-cur l = IsScanned l.cur (units_of l.bytes)

abbrev pub decreases-loop-cur : goal.decreases-loop-cur
decreases-loop-cur l = length l.cur.rest
