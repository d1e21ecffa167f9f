use Rattle.nr_classmake.specs.Making.{field}
use Rattle.nr_classmake.proofs.Steps.{settles}
use Rattle.nr_classmake.proofs.pool.Pool.field.Goals as goal

pub returns : goal.returns
returns c =
    settles c.try_field-made.result c.settled.result c.len-mark.result c.args.self.now c.try_field-made.new.self c.settled.new.self (field c.args.flags c.args.name.now c.args.desc.now c.args.value c.args.self.now)
    c.settled.ensures.same c.len-mark.ensures.len c.settled.ensures.ok c.settled.ensures.err c.settled.ensures.bound c.try_field-made.ensures
