use Rattle.nr_graph.proofs.Copied.{copies_picture}
use Rattle.nr_graph.proofs.law.copy.copies_look_the_same.Goals as goal

pub returns : goal.returns
returns c = λ p h k us vs names g copies there pic. copies_picture p h k us vs copies there names g pic
