use Rattle.std.proofs.Common.{◌<◌, ◌^◌, arith, ap, length}
use Rattle.nr_classmake.specs.Making.{class_ref}
use Rattle.nr_classmake.proofs.Parts.{class_len, not_full}
use Rattle.nr_classmake.proofs.maker.ClassMaker.new.Goals as goal

pub returns-in_err-this_class-clause-err : goal.returns-in_err-this_class-clause-err
returns-in_err-this_class-clause-err c =
    let short : length (class_ref c.args.name.now c.new-pool.result).0 < 2 ^ 16 = omega (arith, class_len c.args.name.now c.new-pool.result, ap length c.new-pool.ensures) in
    not_full c.from_residual.result c.in_err-this_class.field-0.0 c.new-pool.result c.class_ref.new.self (class_ref c.args.name.now c.new-pool.result) c.from_residual.ensures.1 short c.in_err-this_class.ensures

pub returns-in_err-super_class-clause-err : goal.returns-in_err-super_class-clause-err
returns-in_err-super_class-clause-err c =
    let mid : length c.class_ref.new.self < 5 = omega (arith, class_len c.args.name.now c.new-pool.result, ap length c.new-pool.ensures, ap (λ p. length p.0) c.in_ok-this_class.ensures.0) in
    let short : length (class_ref c.args.super_name.now c.class_ref.new.self).0 < 2 ^ 16 = omega (arith, class_len c.args.super_name.now c.class_ref.new.self) in
    not_full c.from_residual-in_err-super_class.result c.in_err-super_class.field-0.0 c.class_ref.new.self c.class_ref-2.new.self (class_ref c.args.super_name.now c.class_ref.new.self) c.from_residual-in_err-super_class.ensures.1 short c.in_err-super_class.ensures
