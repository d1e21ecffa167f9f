use Rattle.std.proofs.Common.{◌≡◌, drop}
use Rattle.nr_link.specs.Marks.{set_all}
use Rattle.nr_link.proofs.closure.mark_all.Given as goal

abbrev pub invariant-loop-class : goal.invariant-loop-class
invariant-loop-class l = set_all l.row (drop l.class-index l.classes) ≡ set_all l.initial.row l.classes
