use Rattle.nr_run.proofs.Texts.{printed_part}
use Rattle.nr_run.proofs.law.stopped_runs_print_a_part.Goals as goal

pub returns : goal.returns
returns c = λ p m ints budget printed r stops x. printed_part p m ints budget printed r stops x
