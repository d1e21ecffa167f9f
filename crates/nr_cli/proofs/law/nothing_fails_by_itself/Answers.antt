use Rattle.nr_cli.proofs.CodeReading.{loaded_avoids}
use Rattle.nr_cli.proofs.Ends.{nothing_failed}
use Rattle.nr_cli.proofs.law.nothing_fails_by_itself.Goals as goal

pub returns : goal.returns
returns c = nothing_failed (λ bytes. (loaded_avoids bytes).avoids)
