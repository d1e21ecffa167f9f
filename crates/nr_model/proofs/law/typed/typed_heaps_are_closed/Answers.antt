use Rattle.nr_model.proofs.TypedClosed.{typed_closed, arguments_there, result_there}
use Rattle.nr_model.proofs.law.typed.typed_heaps_are_closed.Goals as goal

pub returns-clause-heap : goal.returns-clause-heap
returns-clause-heap c = λ p h t. typed_closed p h t

pub returns-clause-arguments : goal.returns-clause-arguments
returns-clause-arguments c = λ p h m args x b held. arguments_there p h m args b x held

pub returns-clause-results : goal.returns-clause-results
returns-clause-results c = λ p h result v x r e. result_there p h result v r x e
