use Rattle.nr_model.proofs.Counting.{all_counted, grown_by}
use Rattle.nr_model.proofs.law.size.cells_are_counted.Goals as goal

pub returns-clause-all : goal.returns-clause-all
returns-clause-all c = all_counted

pub returns-clause-grown : goal.returns-clause-grown
returns-clause-grown c = grown_by
