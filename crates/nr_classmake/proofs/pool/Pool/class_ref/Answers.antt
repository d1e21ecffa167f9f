use Rattle.nr_classmake.specs.Making.{class_ref}
use Rattle.nr_classmake.proofs.Steps.{settles}
use Rattle.nr_classmake.proofs.pool.Pool.class_ref.Goals as goal

pub returns : goal.returns
returns c =
    settles c.try_class-made.result c.settled.result c.len-mark.result c.args.self.now c.try_class-made.new.self c.settled.new.self (class_ref c.args.name.now c.args.self.now)
    c.settled.ensures.same c.len-mark.ensures.len c.settled.ensures.ok c.settled.ensures.err c.settled.ensures.bound c.try_class-made.ensures
