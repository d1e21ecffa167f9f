use Rattle.nr_model.proofs.PairedCalls.{call_starts, calls_restorable, call_outcomes}
use Rattle.nr_model.proofs.law.call.paired_calls_go_alike.Goals as goal

pub returns-clause-starts : goal.returns-clause-starts
returns-clause-starts c = λ p pairs h k m us vs s t a bs bt. call_starts pairs h k us vs a p m s t bs bt

pub returns-clause-restorable : goal.returns-clause-restorable
returns-clause-restorable c = λ p pairs h k us vs a r. calls_restorable pairs h k us vs a p r

pub returns-clause-outcomes : goal.returns-clause-outcomes
returns-clause-outcomes c = λ p pairs h k m us vs budget n f s' a size o. call_outcomes p pairs h k m us vs budget n f s' a size o
