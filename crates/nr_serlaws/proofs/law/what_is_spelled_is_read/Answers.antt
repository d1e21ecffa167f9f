use Rattle.nr_serlaws.proofs.Corollaries.{one_graph, refused_spells_none}
use Rattle.nr_serlaws.proofs.Rewhole.{spelled_is_read}
use Rattle.nr_serlaws.proofs.law.what_is_spelled_is_read.Goals as goal

pub returns-clause-read : goal.returns-clause-read
returns-clause-read c = spelled_is_read

pub returns-clause-one : goal.returns-clause-one
returns-clause-one c = one_graph

pub returns-clause-none : goal.returns-clause-none
returns-clause-none c = refused_spells_none
