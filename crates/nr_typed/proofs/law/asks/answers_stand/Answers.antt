use Rattle.nr_typed.proofs.Asking.{asked_stands}
use Rattle.nr_typed.proofs.law.asks.answers_stand.Goals as goal

pub returns : goal.returns
returns c = λ p service result s t e facts typed st step q. asked_stands p facts typed result service s t e st step q
