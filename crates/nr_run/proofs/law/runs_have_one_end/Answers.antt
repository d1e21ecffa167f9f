use Rattle.nr_run.proofs.OneEnd.{runs_end}
use Rattle.nr_run.proofs.law.runs_have_one_end.Goals as goal

pub returns : goal.returns
returns c = λ p m ints budget r q x y. runs_end p m ints budget r q x y
