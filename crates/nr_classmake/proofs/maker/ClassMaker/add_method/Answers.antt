use Rattle.nr_classmake.specs.Making.{method}
use Rattle.nr_classmake.proofs.Steps.{method_keeps}
use Rattle.nr_classmake.proofs.Parts.{back, restored_methods}
use Rattle.nr_classmake.proofs.maker.ClassMaker.add_method.Goals as goal

pub returns-in-Err : goal.returns-in-Err
returns-in-Err c =
    restored_methods _ c.args.self.now c.truncate.new.self c.push.new.self c.self.view_is
    (back (method c.args.name.now c.args.desc.now c.args.code) (c.in_ok-name.name, c.in_ok-name.desc) c.len-mark.result c.self.inside.pool c.method.new.self c.truncate.new.self (method_keeps c.args.name.now c.args.desc.now c.args.code) c.in_ok-name.ensures.0 c.len-mark.ensures.len c.truncate.ensures.first)
    c.in-Err.ensures.err
