use Rattle.nr_links.proofs.OneMethod.{one_program}
use Rattle.nr_links.proofs.law.classes_make_one_program.Goals as goal

pub returns : goal.returns
returns c = λ classes P Q all links others. one_program classes P Q all links others
