use Rattle.nr_model.proofs.PairedEnds.{closed_pair}
use Rattle.nr_model.proofs.law.pair.closed_states_pair_with_themselves.Goals as goal

pub returns : goal.returns
returns c = λ s closed held. closed_pair s closed held
