use Rattle.nr_linkrules.proofs.Reached.{reaches_above}
use Rattle.nr_linkrules.proofs.law.what_is_reached_is_above.Goals as goal

pub returns : goal.returns
returns c = λ P short. reaches_above P short
