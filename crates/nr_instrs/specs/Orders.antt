-- Instructions that were read, in the order of their offsets.
use Rattle.std.specs.Prelude.{List}
use Rattle.nr_prog.specs.Offsets.{IsAscendingBy}
use Rattle.nr_instrs.specs.declared.raw.RawInstr.{RawInstr}

abbrev pub AreInOrder : List RawInstr → Type 0
AreInOrder raws = IsAscendingBy (λ r. r.at) raws
