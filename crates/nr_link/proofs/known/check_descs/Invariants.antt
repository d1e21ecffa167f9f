use Rattle.std.proofs.Common.{◌≡◌, drop}
use Rattle.nr_linkrules.specs.ClassRules.{desc_fault}
use Rattle.nr_linkrules.specs.Faults.{first_of}
use Rattle.nr_link.proofs.known.check_descs.Given as goal

abbrev pub invariant-loop-desc : goal.invariant-loop-desc
invariant-loop-desc l = first_of (desc_fault l.tables) (drop l.desc-index l.descs) ≡ first_of (desc_fault l.tables) l.descs
