use Rattle.nr_model.proofs.AskOutcomes.{ask_outcome_joins, outcome_from_there, ask_outcome_ends, ask_outcome_keeps}
use Rattle.nr_model.proofs.Limits.{limited_keeps}
use Rattle.nr_model.proofs.law.ask.outcomes_come_of_limited_runs.Goals as goal

pub returns-clause-joined : goal.returns-clause-joined
returns-clause-joined c = λ p service k budget n f s m t calls more r o. ask_outcome_joins p service k budget n f s m t calls more r o

pub returns-clause-alone : goal.returns-clause-alone
returns-clause-alone c = λ p service k budget n f s m t r o. outcome_from_there p service s m t k budget n f r o

pub returns-clause-ends : goal.returns-clause-ends
returns-clause-ends c = λ p service budget n s t calls o. ask_outcome_ends p service s t calls budget n o

pub returns-clause-kept : goal.returns-clause-kept
returns-clause-kept c = λ p service k s t calls r e. limited_keeps p service s t calls k r e

pub returns-clause-left : goal.returns-clause-left
returns-clause-left c = λ p service budget n f s t calls o e. ask_outcome_keeps p service s t calls budget n f o e
