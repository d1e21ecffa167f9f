use Rattle.nr_link.specs.Declaring.{declares_method}
use Rattle.nr_link.proofs.Resolving.{NoneBelow}
use Rattle.nr_link.proofs.methods.may_find.Given as goal

abbrev pub invariant-loop-above : goal.invariant-loop-above
invariant-loop-above l = NoneBelow l.tables (declares_method l.tables l.sought.name.now l.sought.desc.now) l.class l.above
