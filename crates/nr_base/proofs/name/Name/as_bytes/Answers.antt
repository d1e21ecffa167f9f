use Rattle.nr_base.proofs.NameLaws.{legal}
use Rattle.nr_base.proofs.name.Name.as_bytes.Goals as goal

pub returns-clause-legal : goal.returns-clause-legal
returns-clause-legal c = rw (← c.self.view_is) (legal c.self.inside.bytes c.self.invariant.1 c.self.invariant.0)
