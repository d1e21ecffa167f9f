use Rattle.std.proofs.Common.{◌≡◌, ◌-◌, []}
use Rattle.std.specs.Int.{w32}
use Rattle.nr_base.specs.Reader.{times, onto}
use Rattle.nr_instrs.specs.Numbers.{branch_at}
use Rattle.nr_instrs.proofs.operands.switch.read_targets.Given as goal

abbrev pub invariant-loop : goal.invariant-loop
invariant-loop l = times (onto (branch_at w32 l.at)) (l.count - l.counter) l.targets l.cur ≡ times (onto (branch_at w32 l.at)) l.count [] l.fn.cur
