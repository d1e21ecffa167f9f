-- The faults of messages, and what of them is told by other faults. The project's own rule.
use Rattle.std.specs.Prelude.{Bool, true, false}
use Rattle.nr_base.specs.declared.cur.Short.{Short}
use Rattle.nr_message.specs.declared.fault.MessageFault.{MessageFault}
use Rattle.nr_message.specs.declared.fault.MessageFault.TheVariants as faults

-- want of memory may come at any time
abbrev pub is_free : MessageFault → Bool
is_free faults.NoMemory = true
is_free e = false

abbrev pub of_short : Short → MessageFault
of_short s = faults.Short s.at
