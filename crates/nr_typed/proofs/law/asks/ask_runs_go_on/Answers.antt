use Rattle.nr_typed.proofs.Asking.{answered}
use Rattle.nr_typed.proofs.Remote.{asks_or_steps}
use Rattle.nr_typed.proofs.law.asks.ask_runs_go_on.Goals as goal

pub returns-clause-progress : goal.returns-clause-progress
returns-clause-progress c = λ p service result s facts typed st ends. asks_or_steps p facts typed result service s st ends

pub returns-clause-answers : goal.returns-clause-answers
returns-clause-answers c = λ p service result s asks answer facts typed st q. answered p facts typed result service s asks st answer q
