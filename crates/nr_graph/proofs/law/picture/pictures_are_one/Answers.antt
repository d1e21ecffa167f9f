use Rattle.nr_graph.proofs.Along.{covers}
use Rattle.nr_graph.proofs.Pictured.{in_order, one_graph, one_picture, picture, reached}
use Rattle.nr_graph.proofs.Ways.{reached_listed}
use Rattle.nr_graph.proofs.law.picture.pictures_are_one.Goals as goal

pub returns-clause-one : goal.returns-clause-one
returns-clause-one c = one_picture

pub returns-clause-by_names : goal.returns-clause-by_names
returns-clause-by_names c = one_graph

pub returns-clause-in_order : goal.returns-clause-in_order
returns-clause-in_order c = in_order

pub returns-clause-picture : goal.returns-clause-picture
returns-clause-picture c = picture

pub returns-clause-reached : goal.returns-clause-reached
returns-clause-reached c = reached

pub returns-clause-whole : goal.returns-clause-whole
returns-clause-whole c = λ p h vs names g x linked fits d. reached_listed p h names g d.shown (covers p linked g fits) vs d.roots x
