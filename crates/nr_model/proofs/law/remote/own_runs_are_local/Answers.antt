use Rattle.nr_model.proofs.AllLocal.{all_own}
use Rattle.nr_model.proofs.law.remote.own_runs_are_local.Goals as goal

pub returns : goal.returns
returns c = all_own
