use Rattle.nr_model.proofs.Plain.{plain_run, plain_local}
use Rattle.nr_model.proofs.law.local.local_runs_without_copies.Goals as goal

pub returns : goal.returns
returns c = λ p h m args n t all. (plain_run p h args all m n t, plain_local p h args all m n t)
