use Rattle.nr_cli.proofs.Fields.{one_more}
use Rattle.nr_cli.proofs.load.load_next.Goals as goal

pub returns-in-Ok-add-clause-readable : goal.returns-in-Ok-add-clause-readable
returns-in-Ok-add-clause-readable g c =
    one_more c.args.read.now.classes c.add.new.self.classes c.args.read.now.len c.add.new.self.len c.in-Ok.read.1 c.in-Ok.read.0 c.in-Ok-add.ensures.len c.in-Ok-add.ensures.classes c.in-Ok.ensures.readable
