use Rattle.std.proofs.Common.{◌≡◌, ◌++◌, map, take}
use Rattle.std.specs.List.{flat_map}
use Rattle.nr_serform.specs.ClassNumbers.{method_part_text}
use Rattle.nr_serform.specs.Members.{part_of}
use Rattle.nr_serform.proofs.parts.put_methods.Given as goal

abbrev pub invariant-loop-part : goal.invariant-loop-part
invariant-loop-part l = l.put ≡ l.fn.put ++ flat_map method_part_text (map part_of (take l.part-index l.part-items))
