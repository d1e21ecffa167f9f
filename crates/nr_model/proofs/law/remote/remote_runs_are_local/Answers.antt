use Rattle.nr_model.proofs.AllLocal.{pairs_all_local}
use Rattle.nr_model.proofs.law.remote.remote_runs_are_local.Goals as goal

pub returns : goal.returns
returns c = pairs_all_local
