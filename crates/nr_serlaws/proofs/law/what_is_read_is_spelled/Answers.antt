use Rattle.nr_serlaws.proofs.Whole.{read_is_spelled}
use Rattle.nr_serlaws.proofs.law.what_is_read_is_spelled.Goals as goal

pub returns : goal.returns
returns c = λ p roots bytes g facts fits e. read_is_spelled p facts roots bytes g fits e
