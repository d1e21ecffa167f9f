use Rattle.std.proofs.lemmas.List.{get_or_default}
use Rattle.std.proofs.lemmas.Result.{err_from_is_err_and}
use Rattle.nr_prog.specs.Rules.{field_fault, fields_fault}
use Rattle.nr_prog.specs.Seen.{has}
use Rattle.nr_prog.specs.TextNumbers.{number}
use Rattle.nr_prog.proofs.SeenLaws.{has_none}
use Rattle.nr_prog.proofs.Members.{begins, walks_on, fails, walked}
use Rattle.nr_prog.proofs.form.fields.check_fields.Goals as goal

pub loop-field-init : goal.loop-field-init
loop-field-init c = begins _ _ (λ earlier place. field_fault c.args.pool.now earlier) c.args.pool.now c.args.fields.now _ (λ x y. has_none c.new-seen.result c.new-seen.ensures.empty (number c.args.pool.now x) (number c.args.pool.now y))

pub loop-field-preserved : goal.loop-field-preserved
loop-field-preserved c =
    walks_on _ _ (λ earlier place. field_fault c.args.pool.now earlier) c.args.pool.now c.args.fields.now _ _ (has c.args.pool.now c.loop-field.seen) (has c.args.pool.now c.check_field.new.seen)
    c.loop-field-test.true (get_or_default c.args.fields.now _ _ _ c.loop-field-test.true) c.in_ok-check_field.ensures.fault c.in_ok-check_field.ensures.seen c.loop-field.invariant

pub returns-in_err-check_field : goal.returns-in_err-check_field
unfolding fields_fault
returns-in_err-check_field c =
    let p = err_from_is_err_and c.from_residual.result c.from_residual.ensures.1 in
    rw (p.1, p.2) (fails _ _ (λ earlier place. field_fault c.args.pool.now earlier) c.args.pool.now c.args.fields.now _ _ (has c.args.pool.now c.loop-field.seen) _ c.loop-field-test.true (get_or_default c.args.fields.now _ _ _ c.loop-field-test.true)
    c.in_err-check_field.ensures.fault c.loop-field.invariant)

pub returns : goal.returns
unfolding fields_fault
returns c = walked _ _ (λ earlier place. field_fault c.args.pool.now earlier) c.args.pool.now c.args.fields.now _ _ c.loop-field-test.false c.loop-field.invariant
