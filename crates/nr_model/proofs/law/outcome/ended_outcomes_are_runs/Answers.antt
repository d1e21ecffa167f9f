use Rattle.nr_model.proofs.Outcomes.{outcome_run}
use Rattle.nr_model.proofs.Limits.{call_run}
use Rattle.nr_model.proofs.law.outcome.ended_outcomes_are_runs.Goals as goal

pub returns-clause-states : goal.returns-clause-states
returns-clause-states c = λ p s t budget n o. outcome_run p s t budget n o

pub returns-clause-calls : goal.returns-clause-calls
returns-clause-calls c = λ p h m args budget n t o. call_run p h m args budget n t o
