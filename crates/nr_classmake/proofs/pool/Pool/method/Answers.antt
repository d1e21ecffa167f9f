use Rattle.nr_classmake.specs.Making.{method}
use Rattle.nr_classmake.proofs.Steps.{settles}
use Rattle.nr_classmake.proofs.pool.Pool.method.Goals as goal

pub returns : goal.returns
returns c =
    settles c.try_method-made.result c.settled.result c.len-mark.result c.args.self.now c.try_method-made.new.self c.settled.new.self (method c.args.name.now c.args.desc.now c.args.code.now c.args.self.now)
    c.settled.ensures.same c.len-mark.ensures.len c.settled.ensures.ok c.settled.ensures.err c.settled.ensures.bound c.try_method-made.ensures
