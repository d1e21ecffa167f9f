use Rattle.std.specs.Prelude.{string_bytes}
use Rattle.nr_machine.proofs.Units.{Array}
use Rattle.nr_machine.proofs.printing.text_of_chars.Given as goal

abbrev pub invariant-loop-at : goal.invariant-loop-at
invariant-loop-at l = Array l.heap.objects l.name l.count (string_bytes l.text) l.high l.at
