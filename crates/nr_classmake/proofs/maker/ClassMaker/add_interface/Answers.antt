use Rattle.nr_classmake.specs.Making.{class_ref}
use Rattle.nr_classmake.proofs.Steps.{class_keeps}
use Rattle.nr_classmake.proofs.Parts.{back, restored_interfaces}
use Rattle.nr_classmake.proofs.maker.ClassMaker.add_interface.Goals as goal

pub returns-in-Err : goal.returns-in-Err
returns-in-Err c =
    restored_interfaces _ c.args.self.now c.truncate.new.self c.push.new.self c.self.view_is
    (back (class_ref c.args.name.now) c.in_ok-class.class c.len-mark.result c.self.inside.pool c.class_ref.new.self c.truncate.new.self (class_keeps c.args.name.now) c.in_ok-class.ensures.0 c.len-mark.ensures.len c.truncate.ensures.first)
    c.in-Err.ensures.err
