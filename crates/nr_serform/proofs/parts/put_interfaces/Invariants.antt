use Rattle.std.proofs.Common.{◌≡◌, ◌++◌, map, take}
use Rattle.std.specs.List.{flat_map}
use Rattle.nr_serform.specs.ClassNumbers.{dotted_text}
use Rattle.nr_serform.proofs.parts.put_interfaces.Given as goal

abbrev pub invariant-loop-name : goal.invariant-loop-name
invariant-loop-name l = l.put ≡ l.fn.put ++ flat_map dotted_text (map (λ name. name.now) (take l.name-index l.name-items))
