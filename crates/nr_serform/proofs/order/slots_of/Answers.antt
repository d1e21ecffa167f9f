use Rattle.std.proofs.Common.{◌≡◌, Some, rules}
use Rattle.nr_linked.specs.Programs.{class_at}
use Rattle.nr_serform.proofs.order.slots_of.Goals as goal

pub returns-in-Some-clause-few : goal.returns-in-Some-clause-few
returns-in-Some-clause-few c =
    let at : class_at c.args.program.now c.args.«class» ≡ Some c.in-Some.info.now = search rules in
    rw c.as_slice.ensures (c.tables.ensures.facts.linked.classes c.args.«class» c.in-Some.info.now at).few_slots
