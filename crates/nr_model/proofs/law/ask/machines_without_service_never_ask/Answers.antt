use Rattle.std.specs.Prelude.{None}
use Rattle.std.proofs.Common.{sym, subst}
use Rattle.nr_model.specs.Asks.{AskRun}
use Rattle.nr_model.proofs.AskOutcomes.{asks_run, run_asks, ask_outcome_alone, alone_asks_outcome}
use Rattle.nr_model.proofs.law.ask.machines_without_service_never_ask.Goals as goal

pub returns-clause-runs : goal.returns-clause-runs
returns-clause-runs c = λ p k s t calls. ((λ r. asks_run p s t calls k r), (λ r. subst (λ es. AskRun p None s es k t) (sym r.0) (run_asks p k s t r.1)))

pub returns-clause-outcomes : goal.returns-clause-outcomes
returns-clause-outcomes c = λ p budget n f s t calls. ((λ o. ask_outcome_alone p s t calls budget n f o), (λ o. alone_asks_outcome p s t calls budget n f o))
