use Rattle.nr_cli.proofs.Mains.{found_main}
use Rattle.nr_cli.proofs.program.found.Goals as goal

pub returns-in-Ok-clause-is_main : goal.returns-in-Ok-clause-is_main
returns-in-Ok-clause-is_main c = found_main c.args.program.now c.args.main.now c.in-Ok.method c.in-Ok.ensures.exact
