use Rattle.nr_graph.proofs.Along.{covers}
use Rattle.nr_graph.proofs.Ways.{lists_shared}
use Rattle.nr_graph.proofs.law.listed.listed_nodes_are_shared.Goals as goal

pub returns : goal.returns
returns c = λ p h vs names nodes g i x linked fits d lists e. lists_shared p h names g d.shown (covers p linked g fits) vs d.roots nodes lists i x e
