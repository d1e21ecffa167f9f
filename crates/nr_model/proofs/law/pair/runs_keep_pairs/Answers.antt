use Rattle.nr_model.proofs.Kept.{pairs_kept, pairs_grown, pairs_run_too, pairs_one_length}
use Rattle.nr_model.proofs.law.pair.runs_keep_pairs.Goals as goal

pub returns-clause-kept : goal.returns-clause-kept
returns-clause-kept c = λ p n pairs s t s' t' a r q. pairs_kept p n pairs s t s' a r t' q

pub returns-clause-both_run : goal.returns-clause-both_run
returns-clause-both_run c = pairs_run_too

pub returns-clause-one_length : goal.returns-clause-one_length
returns-clause-one_length c = λ p n k pairs s t s' t' a r q. pairs_one_length p n pairs s t s' a r k t' q

pub returns-clause-grown : goal.returns-clause-grown
returns-clause-grown c = λ p n pairs s t s' t' a r q. pairs_grown p n pairs s t s' a r t' q
