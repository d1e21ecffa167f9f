use Rattle.nr_linked.specs.Slots.{slots_of}
use Rattle.nr_names.specs.Numbers.{texts}
use Rattle.nr_link.proofs.Looked.{place_told}
use Rattle.nr_link.proofs.sites.slots.place_of_slot.Goals as goal

pub returns-in-Some-clause-place : goal.returns-in-Some-clause-place
returns-in-Some-clause-place c =
    place_told c.args.tables.now (texts c.args.lookup.now.texts) c.args.sought.now c.requires.sought c.args.holder c.in-Some.key (slots_of c.args.tables.now c.args.class) c.place_by_key.result c.in-Some.ensures c.place_by_key.ensures
