use Rattle.nr_model.proofs.OwnCalls.{own_local}
use Rattle.nr_model.proofs.law.remote.own_calls_are_local.Goals as goal

pub returns : goal.returns
returns c = own_local
