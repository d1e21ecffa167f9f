use Rattle.nr_model.proofs.Smaller.{pairs_as_well, pairs_call_as_well}
use Rattle.nr_model.proofs.law.outcome.smaller_heaps_do_as_well.Goals as goal

pub returns-clause-states : goal.returns-clause-states
returns-clause-states c = pairs_as_well

pub returns-clause-calls : goal.returns-clause-calls
returns-clause-calls c = λ p pairs h k m us vs s t s' b n f bs bt a smaller not_full o. pairs_call_as_well p pairs h k m us vs s t bs bt a smaller s' b n f not_full o
