use Rattle.nr_model.proofs.PairedEnds.{one_class}
use Rattle.nr_model.proofs.law.pair.paired_ends_throw_one_class.Goals as goal

pub returns : goal.returns
returns c = λ pairs s t a o p e f. one_class pairs s t a o p e f
