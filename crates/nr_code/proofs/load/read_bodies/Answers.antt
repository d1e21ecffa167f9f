use Rattle.nr_code.proofs.Bodies.{bodies_only}
use Rattle.nr_code.proofs.load.read_bodies.Goals as goal

pub returns-clause-only : goal.returns-clause-only
returns-clause-only c = λ bodies has. bodies_only c.args.class.now bodies c.read_all.result c.know_class.ensures.texts c.know_class.ensures.formed c.read_all.ensures.exact has
