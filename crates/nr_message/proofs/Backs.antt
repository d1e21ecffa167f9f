-- What is a text of a message is read as the message.
use Rattle.std.proofs.Common.{◌≡◌, ℕ, List, Ok}
use Rattle.nr_base.proofs.Laws.{whole_only}
use Rattle.nr_message.specs.declared.message.Hello.{Hello}
use Rattle.nr_message.specs.declared.message.Call.{Call}
use Rattle.nr_message.specs.declared.message.Reply.{Reply}
use Rattle.nr_message.specs.declared.fault.MessageFault.TheVariants as faults
use Rattle.nr_message.specs.Text.{hello, call, reply}
use Rattle.nr_message.specs.Reading.{hello_of, call_of, reply_of}
use Rattle.nr_message.proofs.Lasts.{only_last}
use Rattle.nr_message.proofs.Hellos.{hello_law}
use Rattle.nr_message.proofs.Calls.{call_last}
use Rattle.nr_message.proofs.Replies.{reply_last}

pub hello_back : (m : Hello) (bytes : List ℕ) → hello m bytes → hello_of bytes ≡ Ok m
hello_back m bytes g = whole_only faults.Trailing hello_law bytes m g

pub call_back : (m : Call) (bytes : List ℕ) → call m bytes → call_of bytes ≡ Ok m
call_back m bytes g = only_last faults.Trailing call_last bytes m g

pub reply_back : (m : Reply) (bytes : List ℕ) → reply m bytes → reply_of bytes ≡ Ok m
reply_back m bytes g = only_last faults.Trailing reply_last bytes m g
