use Rattle.nr_typed.proofs.Progress.{progress, preservation, runs_stand}
use Rattle.nr_typed.proofs.law.progress.well_typed_programs_go_on.Goals as goal

pub returns-clause-progress : goal.returns-clause-progress
returns-clause-progress c = λ p result s facts typed st ends. progress p facts typed result s st ends

pub returns-clause-preservation : goal.returns-clause-preservation
returns-clause-preservation c = λ p result s t facts typed st step. preservation p facts typed result s t st step

pub returns-clause-runs : goal.returns-clause-runs
returns-clause-runs c = λ p result n s t facts typed st run. runs_stand p facts typed result n s t st run
