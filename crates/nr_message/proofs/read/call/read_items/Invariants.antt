use Rattle.std.proofs.Common.{◌≡◌, ◌-◌, []}
use Rattle.nr_base.specs.Reader.{times, onto}
use Rattle.nr_message.specs.Reading.{arg_at}
use Rattle.nr_message.proofs.read.call.read_items.Given as goal

abbrev pub invariant-loop : goal.invariant-loop
invariant-loop l = times (onto arg_at) (l.count - l.counter) l.args l.cur ≡ times (onto arg_at) l.count [] l.fn.cur
