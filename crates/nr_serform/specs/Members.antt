-- Fields and methods as the code has them: each by its name and its descriptor, with a number.
use Rattle.std.specs.Prelude.{◌<◌, ◌^◌, length}
use Rattle.nr_serform.specs.declared.members.Member.{Member}
use Rattle.nr_serform.specs.ClassNumbers.{Part}

abbrev pub part_of : Member → Part
part_of m = record { name = m.name.now; flags = m.number; desc = m.desc.now }

-- the lengths of its texts fit 16 bits
pub record IsShort (m : Member) : Type 0 where
  pub name : length m.name.now < 2 ^ 16
  pub desc : length m.desc.now < 2 ^ 16
