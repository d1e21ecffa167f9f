use Rattle.nr_model.proofs.Outcomes.{pairs_outcome, pairs_outcome_cells, pairs_outcome_too, pairs_call, pairs_call_cells, pairs_call_too}
use Rattle.nr_model.proofs.law.outcome.outcomes_keep_pairs.Goals as goal

pub returns-clause-kept : goal.returns-clause-kept
returns-clause-kept c = λ p pairs s t s' t' b n k f g a size o u. pairs_outcome p pairs s t s' b n f a size o t' k g u

pub returns-clause-both_come : goal.returns-clause-both_come
returns-clause-both_come c = pairs_outcome_too

pub returns-clause-calls : goal.returns-clause-calls
returns-clause-calls c = λ p pairs h k m us vs s t s' t' b n l f g bs bt a size. pairs_call p pairs h k m us vs s t bs bt a size s' t' b n l f g

pub returns-clause-one_size : goal.returns-clause-one_size
returns-clause-one_size c = λ p pairs s t s' t' b n k f g a size o u. pairs_outcome_cells p pairs s t s' b n f a size o t' k g u

pub returns-clause-calls_one_size : goal.returns-clause-calls_one_size
returns-clause-calls_one_size c = λ p pairs h k m us vs s t s' t' b n l f g bs bt a size. pairs_call_cells p pairs h k m us vs s t bs bt a size s' t' b n l f g

pub returns-clause-calls_both_come : goal.returns-clause-calls_both_come
returns-clause-calls_both_come c = λ p pairs h k m us vs s t s' b n f bs bt a size. pairs_call_too p pairs h k m us vs s t bs bt a size s' b n f
