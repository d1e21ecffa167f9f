use Rattle.nr_model.proofs.Limits.{outcome_keeps, call_keeps}
use Rattle.nr_model.proofs.law.outcome.outcomes_keep_limits.Goals as goal

pub returns-clause-states : goal.returns-clause-states
returns-clause-states c = λ p s t budget n f o e. outcome_keeps p s t budget n f o e

pub returns-clause-calls : goal.returns-clause-calls
returns-clause-calls c = λ p h m args budget n f t o size. call_keeps p h m args budget n f t size o
