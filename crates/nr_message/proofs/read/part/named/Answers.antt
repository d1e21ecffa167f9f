use Rattle.nr_message.proofs.Names.{named_ok}
use Rattle.nr_message.proofs.read.part.named.Goals as goal

pub returns-in-Ok : goal.returns-in-Ok
returns-in-Ok c = named_ok c.args.at c.args.bytes.now c.in-Ok.name c.in-Ok.ensures.exact
