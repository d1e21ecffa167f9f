use Rattle.nr_typed.proofs.LocalAnswers.{own_typed, restored_is_typed, fated_stand}
use Rattle.nr_typed.proofs.law.asks.local_answers_are_typed.Goals as goal

pub returns-clause-own : goal.returns-clause-own
returns-clause-own c = λ p service result s t e facts typed st step o. own_typed p facts typed result service s t e st step o

pub returns-clause-runs : goal.returns-clause-runs
returns-clause-runs c = λ p service faulted result n k s t calls facts typed st run q. fated_stand p facts typed result service faulted n k s t calls st run q

pub returns-clause-restored : goal.returns-clause-restored
returns-clause-restored c = λ p service result s t e facts typed st step o. restored_is_typed p facts typed result service s t e st step o
