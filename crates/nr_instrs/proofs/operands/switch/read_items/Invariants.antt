use Rattle.std.proofs.Common.{◌≡◌, ◌-◌, []}
use Rattle.nr_base.specs.Reader.{times}
use Rattle.nr_instrs.specs.OperandReading.{pair_at}
use Rattle.nr_instrs.proofs.operands.switch.read_items.Given as goal

abbrev pub invariant-loop : goal.invariant-loop
invariant-loop l = times (pair_at l.at) (l.count - l.counter) (l.keys, l.targets) l.cur ≡ times (pair_at l.at) l.count ([], []) l.fn.cur
