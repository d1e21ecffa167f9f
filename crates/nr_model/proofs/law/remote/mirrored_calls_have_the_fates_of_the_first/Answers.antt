use Rattle.nr_model.proofs.Fates.{mirrored_fates}
use Rattle.nr_model.proofs.law.remote.mirrored_calls_have_the_fates_of_the_first.Goals as goal

pub returns : goal.returns
returns c = λ p faulted n calls others w m. mirrored_fates p faulted n calls others w m
