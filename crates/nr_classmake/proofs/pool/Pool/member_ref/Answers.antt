use Rattle.nr_classmake.specs.Making.{member_ref}
use Rattle.nr_classmake.proofs.Steps.{settles}
use Rattle.nr_classmake.proofs.pool.Pool.member_ref.Goals as goal

pub returns : goal.returns
returns c =
    settles c.try_member-made.result c.settled.result c.len-mark.result c.args.self.now c.try_member-made.new.self c.settled.new.self (member_ref c.args.tag c.args.class.now c.args.name.now c.args.desc.now c.args.self.now)
    c.settled.ensures.same c.len-mark.ensures.len c.settled.ensures.ok c.settled.ensures.err c.settled.ensures.bound c.try_member-made.ensures
