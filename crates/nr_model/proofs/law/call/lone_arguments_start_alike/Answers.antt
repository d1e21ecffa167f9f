use Rattle.nr_model.proofs.Lone.{lone_starts}
use Rattle.nr_model.proofs.law.call.lone_arguments_start_alike.Goals as goal

pub returns : goal.returns
returns c = λ p m x y o s t plain bs bt. lone_starts o plain p m x y s t bs bt
