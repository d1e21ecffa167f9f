use Rattle.std.proofs.lemmas.Result.{err_from_is_err_and}
use Rattle.nr_prog.specs.declared.member.Field.{Field}
use Rattle.nr_linkrules.specs.ClassRules.{field_fault}
use Rattle.nr_link.proofs.Walks.{fails_in_of}
use Rattle.nr_link.proofs.members.check_each_field.Goals as goal

pub returns-in_err-check_field : goal.returns-in_err-check_field
returns-in_err-check_field c =
    let p = err_from_is_err_and c.from_residual.result c.from_residual.ensures.1 in
    rw (p.1, p.2) (fails_in_of (λ (f : Field). field_fault c.args.tables.now c.args.class.now.pool f.desc) _ c.args.fields.now _ _ _ c.loop-field-test.true c.in_err-check_field.ensures c.loop-field.invariant)
