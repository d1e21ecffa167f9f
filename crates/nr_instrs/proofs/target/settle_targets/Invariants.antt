use Rattle.std.proofs.Common.{◌≡◌, [], drop}
use Rattle.nr_instrs.specs.Checks.{also, settled_target, walk}
use Rattle.nr_instrs.proofs.target.settle_targets.Given as goal

abbrev pub invariant-loop-to : goal.invariant-loop-to
invariant-loop-to l = walk (also (settled_target l.starts l.at)) l.targets (drop l.to-index l.all) ≡ walk (also (settled_target l.starts l.at)) [] l.all
