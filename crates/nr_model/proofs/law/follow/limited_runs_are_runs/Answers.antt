use Rattle.nr_model.proofs.Following.{asks_join, limited_join, limited_is_run}
use Rattle.nr_model.proofs.law.follow.limited_runs_are_runs.Goals as goal

pub returns-clause-joined : goal.returns-clause-joined
returns-clause-joined c = λ p service j k s m t calls more r q. asks_join p service j k s m t calls more r q

pub returns-clause-limited_joined : goal.returns-clause-limited_joined
returns-clause-limited_joined c = λ p service j k s m t calls more r q. limited_join p service j k s m t calls more r q

pub returns-clause-run : goal.returns-clause-run
returns-clause-run c = λ p service k s t calls r. limited_is_run p service s t calls k r
