-- A server has said all that it says before it waits for more (the project's own).
use Rattle.std.specs.Prelude.{◌≡◌, ℕ, ◌+◌, Bool, true, false, List, [], ◌∷◌, ◌++◌, take}
use Rattle.nr_linked.specs.declared.program.tables.ProgramTables.{ProgramTables}
use Rattle.nr_outside.specs.declared.wire.event.Event.{Event}
use Rattle.nr_outside.specs.declared.wire.event.Event.TheVariants.{Sent, SendFailed, Received, ReceiveFailed}
use Rattle.nr_answers.specs.Connections.{ConnectionText, Peer}

-- how many bytes the events on one connection sent, and received

abbrev pub bytes_sent : List Event → ℕ
bytes_sent [] = 0
bytes_sent (Sent n ∷ es) = n + bytes_sent es
bytes_sent (SendFailed n ∷ es) = n + bytes_sent es
bytes_sent (e ∷ es) = bytes_sent es

abbrev pub bytes_received : List Event → ℕ
bytes_received [] = 0
bytes_received (Received n ∷ es) = n + bytes_received es
bytes_received (e ∷ es) = bytes_received es

abbrev pub is_receive : Event → Bool
is_receive (Received n) = true
is_receive ReceiveFailed = true
is_receive e = false

-- Before each receive, also one that fails, what was sent is what the server says to the bytes received until then.
abbrev pub AnswersInTime : ProgramTables → Peer → List Event → List ℕ → List ℕ → Type 0
AnswersInTime P s events received sent = (front back : List Event) (e : Event) → events ≡ front ++ e ∷ back → is_receive e ≡ true
    → ConnectionText P s (take (bytes_received front) received) (take (bytes_sent front) sent)
