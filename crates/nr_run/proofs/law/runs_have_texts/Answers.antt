use Rattle.nr_run.proofs.Texts.{ended_text, one_text}
use Rattle.nr_run.proofs.law.runs_have_texts.Goals as goal

pub returns-clause-ended : goal.returns-clause-ended
returns-clause-ended c = λ p m ints budget r n x e. ended_text p m ints budget r n x e

pub returns-clause-one : goal.returns-clause-one
returns-clause-one c = λ p m ints text other x y. one_text p m ints text other x y
