use Rattle.nr_model.proofs.Counting.{part_exists}
use Rattle.nr_model.proofs.PairedCalls.{parts_paired, parts_one_size, parts_kinds, part_of_itself}
use Rattle.nr_model.proofs.law.call.parts_are_paired.Goals as goal

pub returns-clause-exists : goal.returns-clause-exists
returns-clause-exists c = part_exists

pub returns-clause-whole : goal.returns-clause-whole
returns-clause-whole c = λ h part us i. part_of_itself h us part i

pub returns-clause-paired : goal.returns-clause-paired
returns-clause-paired c = λ pairs others h k part other us vs a i j listed. parts_paired pairs h k us vs a part other i j others listed

pub returns-clause-one_size : goal.returns-clause-one_size
returns-clause-one_size c = λ pairs h k part other us vs a i j. parts_one_size pairs h k us vs a part other i j

pub returns-clause-kinds : goal.returns-clause-kinds
returns-clause-kinds c = λ pairs h k part other us vs y q a i j e. parts_kinds pairs h k us vs a part other i j y q e
