use Rattle.nr_classmake.proofs.Calls.{class_made, class_next, place_made}
use Rattle.nr_classmake.proofs.Entries.{entry_there}
use Rattle.nr_classmake.proofs.law.calls_make_the_class.Goals as goal

pub returns : goal.returns
returns c = record { all = class_made; next = class_next; places = place_made; entries = entry_there }
