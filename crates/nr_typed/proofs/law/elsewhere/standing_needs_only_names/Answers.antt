use Rattle.nr_typed.proofs.Elsewhere.{stands_elsewhere}
use Rattle.nr_typed.proofs.law.elsewhere.standing_needs_only_names.Goals as goal

pub returns : goal.returns
returns c = λ p frames result s h st n th. stands_elsewhere p frames result s h n th st
