use Rattle.nr_model.proofs.Mirrors.{pairs_mirrored}
use Rattle.nr_model.proofs.law.remote.remote_runs_are_mirrored.Goals as goal

pub returns : goal.returns
returns c = pairs_mirrored
