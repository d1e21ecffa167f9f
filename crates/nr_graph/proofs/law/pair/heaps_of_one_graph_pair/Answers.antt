use Rattle.std.specs.List.{zip}
use Rattle.nr_graph.proofs.Along.{reverse_like}
use Rattle.nr_graph.proofs.Starts.{calls_pair, listed_alike, starts_pair}
use Rattle.nr_model.specs.Pairs.{Listed}
use Rattle.nr_graph.proofs.law.pair.heaps_of_one_graph_pair.Goals as goal

pub returns-clause-calls : goal.returns-clause-calls
returns-clause-calls c = λ p h k us vs names others g linked fits a b like. calls_pair p linked names others g fits h k a b us vs like

pub returns-clause-starts : goal.returns-clause-starts
returns-clause-starts c = λ p h k m us vs names others g s t linked fits a b like. starts_pair p linked names others g fits h k a b us vs like m s t

pub returns-clause-values : goal.returns-clause-values
returns-clause-values c = λ names others us vs ss d e. listed_alike names others d e

pub returns-clause-last_first : goal.returns-clause-last_first
returns-clause-last_first c = λ names others us vs like. reverse_like (Listed (zip names others)) like
