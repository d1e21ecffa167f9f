use Rattle.nr_model.proofs.Restores.{same}
use Rattle.nr_model.proofs.law.restore.restores_are_local.Goals as goal

pub returns : goal.returns
returns c = λ p n pairs h r s t s' t' u v w. same p n pairs h s t s' t' u v r w
