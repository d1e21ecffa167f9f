use Rattle.nr_link.proofs.AroundMethods.{no_around_fault}
use Rattle.nr_link.proofs.CodedMethods.{no_body}
use Rattle.nr_link.proofs.completion.around_of.Goals as goal

pub returns-in-None-clause-fault : goal.returns-in-None-clause-fault
returns-in-None-clause-fault c =
    no_around_fault c.args.tables.now c.args.info.now (no_body c.args.tables.now c.args.info.now c.requires.coded c.in-None.ensures)
