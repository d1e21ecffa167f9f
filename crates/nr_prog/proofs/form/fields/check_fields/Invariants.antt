use Rattle.nr_prog.specs.Seen.{has}
use Rattle.nr_prog.proofs.Members.{FieldWalk}
use Rattle.nr_prog.proofs.form.fields.check_fields.Given as goal

abbrev pub invariant-loop-field : goal.invariant-loop-field
invariant-loop-field l = FieldWalk l.pool l.fields l.field-index (has l.pool l.seen)
