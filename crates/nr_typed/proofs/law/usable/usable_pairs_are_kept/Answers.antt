use Rattle.nr_typed.proofs.UsablePairs.{all_usable}
use Rattle.nr_typed.proofs.UsableSteps.{steps_usable, runs_usable, run_too, ends_together}
use Rattle.nr_typed.proofs.law.usable.usable_pairs_are_kept.Goals as goal

pub returns-clause-steps : goal.returns-clause-steps
returns-clause-steps c = λ p ps result second s t s' t' facts typed x y a q r. steps_usable p facts typed result second ps s t s' t' x y a q r

pub returns-clause-runs : goal.returns-clause-runs
returns-clause-runs c = λ p n ps result second s t s' t' facts typed x y a q r. runs_usable p facts typed result second n ps s t s' t' x y a q r

pub returns-clause-both_run : goal.returns-clause-both_run
returns-clause-both_run c = λ p n ps result second s t s' facts typed x y a r. run_too p facts typed result second n ps s t s' x y a r

pub returns-clause-one_length : goal.returns-clause-one_length
returns-clause-one_length c = λ p n k ps result second s t s' t' facts typed x y a q r e f. ends_together p facts typed result second n k ps s t s' t' x y a q r e f

pub returns-clause-all_places : goal.returns-clause-all_places
returns-clause-all_places c = λ p ps result s t typed x a. all_usable p typed.frames ps s t result x a
