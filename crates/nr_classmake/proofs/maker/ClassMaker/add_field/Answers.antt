use Rattle.nr_classmake.specs.Making.{field}
use Rattle.nr_classmake.proofs.Steps.{field_keeps}
use Rattle.nr_classmake.proofs.Parts.{back, restored_fields}
use Rattle.nr_classmake.proofs.maker.ClassMaker.add_field.Goals as goal

pub returns-in-Err : goal.returns-in-Err
returns-in-Err c =
    restored_fields _ c.args.self.now c.truncate.new.self c.push.new.self c.self.view_is
    (back (field c.args.flags c.args.name.now c.args.desc.now c.args.constant) c.in_ok-field.field c.len-mark.result c.self.inside.pool c.field.new.self c.truncate.new.self (field_keeps c.args.flags c.args.name.now c.args.desc.now c.args.constant) c.in_ok-field.ensures.0 c.len-mark.ensures.len c.truncate.ensures.first)
    c.in-Err.ensures.err
