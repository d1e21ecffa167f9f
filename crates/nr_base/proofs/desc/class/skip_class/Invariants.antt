use Rattle.std.proofs.Common.{◌≡◌, false, length}
use Rattle.nr_base.specs.Reader.{while_more}
use Rattle.nr_base.specs.DescReading.{class_letter_at}
use Rattle.nr_base.proofs.desc.class.skip_class.Given as goal

abbrev pub invariant-loop : goal.invariant-loop
invariant-loop l = while_more class_letter_at l.begun l.cur ≡ while_more class_letter_at false l.fn.cur

abbrev pub decreases-loop : goal.decreases-loop
decreases-loop l = length l.cur.rest
