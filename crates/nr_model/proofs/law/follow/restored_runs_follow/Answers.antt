use Rattle.std.specs.Prelude.{None}
use Rattle.nr_model.proofs.Kept.{PairsOf, states_match}
use Rattle.nr_model.proofs.Paths.{none_some}
use Rattle.nr_model.proofs.Smaller.{passes_too}
use Rattle.nr_model.proofs.Following.{follow, end_reached, more_steps, next_call, step_passes, answer_passes}
use Rattle.nr_model.proofs.law.follow.restored_runs_follow.Goals as goal

pub returns-clause-follows : goal.returns-clause-follows
returns-clause-follows c = λ p service pairs k j s t s' t' calls others. follow p service pairs j k s t s' t' calls others

pub returns-clause-ends : goal.returns-clause-ends
returns-clause-ends c = λ p service pairs k j s t s' t' calls others f e. end_reached p service pairs s s' t t' calls others k j f e

pub returns-clause-goes_on : goal.returns-clause-goes_on
returns-clause-goes_on c = λ p service pairs k j s t s' t' calls others f e n. more_steps p service pairs s s' t t' calls others k j f e n

pub returns-clause-asks : goal.returns-clause-asks
returns-clause-asks c = λ p service pairs k j s t s' t' calls others f e a. next_call p service pairs s s' t t' calls others k j f e a

pub returns-clause-starts : goal.returns-clause-starts
returns-clause-starts c = λ p pairs s t a size e. passes_too p (PairsOf pairs s t a) s t None (states_match pairs s t a) size e none_some

pub returns-clause-steps : goal.returns-clause-steps
returns-clause-steps c = λ p service pairs k j s t s' t' n calls others f e no_ask d. step_passes p service pairs s s' t t' calls others k j f e n no_ask d

pub returns-clause-answers : goal.returns-clause-answers
returns-clause-answers c = λ p service pairs k j s t s' t' n calls others i f e ls b r. answer_passes p service pairs s s' t t' calls others k j f e ls n i b r
