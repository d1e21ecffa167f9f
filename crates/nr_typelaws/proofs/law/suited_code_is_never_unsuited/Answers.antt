use Rattle.nr_typelaws.proofs.Never.{never_unsuited}
use Rattle.nr_typelaws.proofs.law.suited_code_is_never_unsuited.Goals as goal

pub returns : goal.returns
returns c = λ p n m at laid suited is q. never_unsuited p laid suited n m at is q
