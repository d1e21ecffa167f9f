-- What became of a job of a host, from its adding to its taking (the project's own).
use Rattle.std.specs.Prelude.{◌≡◌, ℕ, ◌==◌, ◌||◌, Bool, false, List, [], ◌∷◌, ◌++◌, if◌then◌else◌}
use Rattle.nr_linked.specs.declared.program.tables.ProgramTables.{ProgramTables}
use Rattle.nr_answers.specs.Hosts.{Added, Event, HeldJobs, HostRun, Taken, TurnedTo}

-- what was answered to each turn of the job with this number, in order
abbrev pub turn_answers : ℕ → List Event → List Bool
turn_answers key [] = []
turn_answers key (TurnedTo k runs ∷ es) = if k == key then runs ∷ turn_answers key es else turn_answers key es
turn_answers key (e ∷ es) = turn_answers key es

-- whether the job with this number was taken
abbrev pub is_taken : ℕ → List Event → Bool
is_taken key [] = false
is_taken key (Taken k text ∷ es) = (k == key) || is_taken key es
is_taken key (e ∷ es) = is_taken key es

-- Among the events of a host a job with the request was added, each of its turns was answered so, and then it gave the text.
pub record History (P : ProgramTables) (service : ℕ) (events : List Event) (version : ℕ) (body : List ℕ) (turns : List Bool)
    (text : List ℕ) : Type 0 where
  pub first : HeldJobs
  pub last : HeldJobs
  pub ran : HostRun P service first events last
  pub key : ℕ
  pub before : List Event
  pub between : List Event
  pub later : List Event
  pub parts : events ≡ before ++ Added key version body ∷ (between ++ Taken key text ∷ later)
  pub kept : is_taken key between ≡ false
  pub answers : turns ≡ turn_answers key between
