use Rattle.std.proofs.Common.{◌≡◌, drop, false}
use Rattle.nr_base.specs.LegalNames.{class_from}
use Rattle.nr_base.proofs.name.legal.is_class.Given as goal

abbrev pub invariant-loop-byte : goal.invariant-loop-byte
invariant-loop-byte l = class_from l.begun (drop l.byte-index l.name) ≡ class_from false l.name
