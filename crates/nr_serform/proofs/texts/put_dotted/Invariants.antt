use Rattle.std.proofs.Common.{◌≡◌, ◌++◌, length, map, take}
use Rattle.std.specs.Int.{w16, to_be_bytes}
use Rattle.nr_serform.specs.ClassNumbers.{with_dot}
use Rattle.nr_serform.proofs.texts.put_dotted.Given as goal

abbrev pub invariant-loop-byte : goal.invariant-loop-byte
invariant-loop-byte l = l.put ≡ l.fn.put ++ (to_be_bytes w16 (length l.text) ++ map with_dot (take l.byte-index l.text))
