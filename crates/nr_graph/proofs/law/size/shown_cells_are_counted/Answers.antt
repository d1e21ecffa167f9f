use Rattle.nr_graph.proofs.Sized.{all_cells, shown_cells}
use Rattle.nr_graph.proofs.law.size.shown_cells_are_counted.Goals as goal

pub returns-clause-named : goal.returns-clause-named
returns-clause-named c = λ p h names g s. shown_cells p names h g s

pub returns-clause-all : goal.returns-clause-all
returns-clause-all c = λ p h names g s just. all_cells p names h g s just
