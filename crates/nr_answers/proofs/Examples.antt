-- Answers worked out by hand.
use Rattle.std.proofs.Common.{◌≡◌, ℕ, List, [], ◌∷◌, refl}
use Rattle.nr_linked.specs.declared.program.tables.ProgramTables.{ProgramTables}
use Rattle.nr_base.specs.Reader.{whole, bind, with_fault}
use Rattle.nr_message.specs.declared.fault.MessageFault.TheVariants as faults
use Rattle.nr_message.specs.Reading.{call_at}
use Rattle.nr_answers.specs.Answers.{Replies, refused}
use Rattle.nr_answers.specs.Batches.{in_rounds, round_of}
use Rattle.nr_answers.specs.Requests.{unread}

pub three_bytes : (P : ProgramTables) (service version : ℕ) → Replies P service version (0 ∷ 0 ∷ 0 ∷ []) 0 (0 ∷ 0 ∷ 0 ∷ 0 ∷ 9 ∷ 1 ∷ [])
unfolding whole call_at bind with_fault
three_bytes P service version = refused (unread {e = faults.Short 0} refl) refl

pub three_jobs : (a b c : List ℕ) → in_rounds ((record { round = round_of 9000; text = a }) ∷ (record { round = round_of 10; text = b }) ∷ (record { round = round_of 5000; text = c }) ∷ [])
    ≡ (record { round = 1; text = b }) ∷ (record { round = 2; text = c }) ∷ (record { round = 3; text = a }) ∷ []
three_jobs a b c = refl
