use Rattle.nr_model.proofs.OwnRuns.{pairs_ends_alike}
use Rattle.nr_model.proofs.law.remote.local_calls_end_alike.Goals as goal

pub returns : goal.returns
returns c = λ p service faulted pairs k l s t s' t' calls others. pairs_ends_alike p service faulted pairs k l s t s' t' calls others
