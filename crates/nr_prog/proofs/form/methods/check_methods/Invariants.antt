use Rattle.nr_prog.specs.Seen.{has}
use Rattle.nr_prog.proofs.Members.{MethodWalk}
use Rattle.nr_prog.proofs.form.methods.check_methods.Given as goal

abbrev pub invariant-loop-place : goal.invariant-loop-place
invariant-loop-place l = MethodWalk l.pool l.methods l.place (has l.pool l.seen)
