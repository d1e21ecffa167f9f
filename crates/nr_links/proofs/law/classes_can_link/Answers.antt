use Rattle.nr_links.proofs.ExampleDecoded.{decoded}
use Rattle.nr_links.proofs.ExampleLinks.{links}
use Rattle.nr_links.proofs.ExampleTyped.{typed}
use Rattle.nr_links.proofs.law.classes_can_link.Goals as goal

pub returns-clause-decoded : goal.returns-clause-decoded
returns-clause-decoded c = decoded

pub returns-clause-linked : goal.returns-clause-linked
returns-clause-linked c = links

pub returns-clause-typed : goal.returns-clause-typed
returns-clause-typed c = typed
