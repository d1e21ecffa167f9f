use Rattle.nr_classmake.specs.Places.{with_entry}
use Rattle.nr_classmake.proofs.Steps.{settles}
use Rattle.nr_classmake.proofs.pool.Pool.entry.Goals as goal

pub returns : goal.returns
returns c =
    settles c.place-made.result c.settled.result c.len-mark.result c.args.self.now c.place-made.new.self c.settled.new.self (with_entry c.args.entry c.args.self.now)
    c.settled.ensures.same c.len-mark.ensures.len c.settled.ensures.ok c.settled.ensures.err c.settled.ensures.bound c.place-made.ensures
