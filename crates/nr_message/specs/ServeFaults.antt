-- The numbers of the faults that end a call: the project's own table.
use Rattle.std.specs.Prelude.{ℕ}
use Rattle.nr_message.specs.declared.serve_fault.ServeFault.{ServeFault}
use Rattle.nr_message.specs.declared.serve_fault.ServeFault.TheVariants.{NoSuchMethod, Thrown, BudgetSpent, TooDeep, HeapFull, NotSendable, ReplyTooLong, OutputTooLong, BadRequest, NoMemory}

abbrev pub number_of : ServeFault → ℕ
number_of NoSuchMethod = 1
number_of (Thrown class) = 2
number_of BudgetSpent = 3
number_of TooDeep = 4
number_of HeapFull = 5
number_of (NotSendable class) = 6
number_of ReplyTooLong = 7
number_of OutputTooLong = 8
number_of (BadRequest code) = 9
number_of NoMemory = 10
