use Rattle.nr_typed.proofs.Asking.{ask_runs_stand, ask_runs_give}
use Rattle.nr_typed.proofs.law.asks.ask_runs_stand.Goals as goal

pub returns-clause-stands : goal.returns-clause-stands
returns-clause-stands c = λ p service result k s t calls facts typed st run q. ask_runs_stand p facts typed result service k s t calls st run q

pub returns-clause-results : goal.returns-clause-results
returns-clause-results c = λ p service result k s t calls v facts typed st run q e. ask_runs_give p facts typed result service k s t calls v st run q e
