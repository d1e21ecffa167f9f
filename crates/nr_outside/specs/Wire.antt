-- What a wire tells.
use Rattle.std.specs.Prelude.{◌≡◌, ℕ, ◌≤◌, Bool, true, false, List, [], ◌∷◌, ◌++◌, length, take, Result, Ok, Err}
use Rattle.nr_outside.specs.declared.fault.Fault.{Fault}
use Rattle.nr_outside.specs.declared.fault.Fault.TheVariants.{Failed, NoMemory}
use Rattle.nr_outside.specs.declared.wire.event.Event.{Event}
use Rattle.nr_outside.specs.declared.wire.event.Event.TheVariants.{Opened, Sent, SendFailed, Received, ReceiveFailed}

-- one connection: what was sent on it, what it gave, and what it is still to give
pub record Connection : Type 0 where
  pub sent : List ℕ
  pub given : List ℕ
  pub to_come : List ℕ

-- all connections, the open one last
abbrev pub connections : Bool → List Connection → List ℕ → List ℕ → List ℕ → List Connection
connections true past sent given to_come = past ++ (record { sent = sent; given = given; to_come = to_come }) ∷ []
connections false past sent given to_come = past

-- The address is added, but where memory ran out.
abbrev pub AddressesGrow : List (List ℕ) → List (List ℕ) → List ℕ → Result Unit Fault → Type 0
AddressesGrow old new addr (Ok done) = new ≡ old ++ addr ∷ []
AddressesGrow old new addr (Err Failed) = new ≡ old ++ addr ∷ []
AddressesGrow old new addr (Err NoMemory) = new ≡ old

-- The first bytes to come are given, and none where the call is refused.
abbrev pub Gives : List ℕ → List ℕ → List ℕ → List ℕ → Result ℕ Fault → List ℕ → Type 0
Gives given to_come given' to_come' (Ok n) into = (given' ≡ given ++ take n into) × (to_come ≡ take n into ++ to_come')
Gives given to_come given' to_come' (Err fault) into = (given' ≡ given) × (to_come' ≡ to_come)

-- An opening is an event where it succeeds.
abbrev pub OpenIsTold : List Event → List Event → Result Unit Fault → Type 0
OpenIsTold old new (Ok done) = new ≡ old ++ Opened ∷ []
OpenIsTold old new (Err fault) = new ≡ old

-- some first bytes of the piece were sent before the failure, and the event has their number
pub record SendStopped (old new : List Event) (sent sent' piece : List ℕ) : Type 0 where
  pub count : ℕ
  pub fits : count ≤ length piece
  pub added : sent' ≡ sent ++ take count piece
  pub told : new ≡ old ++ SendFailed count ∷ []

-- A send is an event, but where memory ran out.
abbrev pub SendIsTold : List Event → List Event → List ℕ → List ℕ → List ℕ → Result Unit Fault → Type 0
SendIsTold old new sent sent' piece (Ok done) = new ≡ old ++ Sent (length piece) ∷ []
SendIsTold old new sent sent' piece (Err Failed) = SendStopped old new sent sent' piece
SendIsTold old new sent sent' piece (Err NoMemory) = new ≡ old

-- A receive is an event, but where memory ran out.
abbrev pub ReceiveIsTold : List Event → List Event → Result ℕ Fault → Type 0
ReceiveIsTold old new (Ok n) = new ≡ old ++ Received n ∷ []
ReceiveIsTold old new (Err Failed) = new ≡ old ++ ReceiveFailed ∷ []
ReceiveIsTold old new (Err NoMemory) = new ≡ old

-- What was given and is to come is a text that may be said to what was sent.
abbrev pub IsAnswered : (List ℕ → List ℕ → Type 0) → List ℕ → List ℕ → List ℕ → Type 0
IsAnswered says sent given to_come = says sent (given ++ to_come)
