-- What a host does with jobs that take turns (the project's own). Its state is the jobs by their numbers.
use Rattle.std.specs.Prelude.{◌≡◌, ◌⊎◌, ℕ, suc, ◌-◌, ◌*◌, ◌<◌, ◌≤◌, Bool, true, false, List, [], ◌∷◌, Option, Some, None, is_some, count_by, slice_index_or}
use Rattle.nr_linked.specs.declared.program.tables.ProgramTables.{ProgramTables}
use Rattle.nr_answers.specs.Answers.{Replies, no_memory_text}
use Rattle.nr_answers.specs.Batches.{turn_steps, round_of}
use Rattle.nr_answers.specs.Jobs.{TellsPrinted}
use Rattle.nr_answers.specs.Progress.{HasMore}

-- ---- a job that is held

-- its request, how often it was turned, and whether want of memory ended it
pub record Held : Type 0 where
  pub version : ℕ
  pub body : List ℕ
  pub turns : ℕ
  pub failed : Bool

-- its run goes on after its turns
pub record Runs (P : ProgramTables) (service : ℕ) (h : Held) : Type 0 where
  pub well : h.failed ≡ false
  pub more : HasMore P service h.body (turn_steps * h.turns)

-- What a done job gives: the reply whose steps its turns made, of which none came after the round of the reply. Where want
-- of memory ended it, that was before its first turn, or in a turn before which it still ran.
pub data Gives (P : ProgramTables) (service : ℕ) (h : Held) : List ℕ → Type 0 where
  its_reply : {text : List ℕ} (steps : ℕ) → h.failed ≡ false → Replies P service h.version h.body steps text
      → steps ≤ turn_steps * h.turns → h.turns ≤ round_of steps → Gives P service h text
  gives_up : {text : List ℕ} → h.failed ≡ true → (h.turns ≡ 0) ⊎ HasMore P service h.body (turn_steps * (h.turns - 1))
      → text ≡ no_memory_text h.body → Gives P service h text

abbrev pub IsDone : ProgramTables → ℕ → Held → Type 0
IsDone P service h = (text : List ℕ) × Gives P service h text

-- ---- the jobs by their numbers

abbrev pub HeldJobs : Type 0
HeldJobs = List (Option Held)

abbrev pub job_at : HeldJobs → ℕ → Option Held
job_at jobs key = slice_index_or jobs key None

abbrev pub held_count : HeldJobs → ℕ
held_count jobs = count_by is_some jobs

abbrev pub max_jobs : ℕ
max_jobs = 16

-- at one number the jobs differ so, and nowhere else
pub record Moves (jobs jobs' : HeldJobs) (key : ℕ) (was now : Option Held) : Type 0 where
  pub before : job_at jobs key ≡ was
  pub after : job_at jobs' key ≡ now
  pub others : (other : ℕ) → (other ≡ key → ⊥) → job_at jobs' other ≡ job_at jobs other

-- a job that wasn't turned yet; want of memory may have ended it as it was opened
abbrev pub new_job : ℕ → List ℕ → Bool → Held
new_job version body failed = record { version = version; body = body; turns = 0; failed = failed }

-- the job after one turn more, in which it may have met want of memory
abbrev pub turned_once : Held → Bool → Held
turned_once h failed = record { version = h.version; body = h.body; turns = suc h.turns; failed = failed }

-- ---- events, each with what was answered

pub data Event : Type 0 where
  Added : (key version : ℕ) (body : List ℕ) → Event  -- a job was added under this number
  NoRoom : Event  -- none was, since as many are held as may be
  TurnedTo : (key : ℕ) (runs : Bool) → Event  -- a job was turned, and runs on or is done
  Taken : (key : ℕ) (text : List ℕ) → Event  -- a done job gave its reply, and isn't held any more
  StillRuns : (key : ℕ) → Event  -- a job wasn't taken, since it runs
  NotHeld : (key : ℕ) → Event  -- no job has this number

-- An event leads from jobs to jobs. A turn changes no job that is done, and a call that is refused changes nothing.
pub data HostStep (P : ProgramTables) (service : ℕ) (jobs : HeldJobs) : Event → HeldJobs → Type 0 where
  added : {key version : ℕ} {body : List ℕ} {jobs' : HeldJobs} (failed : Bool) → held_count jobs < max_jobs
      → Moves jobs jobs' key None (Some (new_job version body failed)) → HostStep P service jobs (Added key version body) jobs'
  no_room : max_jobs ≤ held_count jobs → HostStep P service jobs NoRoom jobs
  turned_on : {key : ℕ} (h : Held) {jobs' : HeldJobs} → Runs P service h → Runs P service (turned_once h false)
      → Moves jobs jobs' key (Some h) (Some (turned_once h false)) → HostStep P service jobs (TurnedTo key true) jobs'
  turned_out : {key : ℕ} (h : Held) (failed : Bool) {jobs' : HeldJobs} → Runs P service h → IsDone P service (turned_once h failed)
      → Moves jobs jobs' key (Some h) (Some (turned_once h failed)) → HostStep P service jobs (TurnedTo key false) jobs'
  turned_done : {key : ℕ} (h : Held) → job_at jobs key ≡ Some h → IsDone P service h → HostStep P service jobs (TurnedTo key false) jobs
  taken : {key : ℕ} {text : List ℕ} (h : Held) {jobs' : HeldJobs} → Gives P service h text → Moves jobs jobs' key (Some h) None
      → HostStep P service jobs (Taken key text) jobs'
  still_runs : {key : ℕ} (h : Held) → job_at jobs key ≡ Some h → Runs P service h → HostStep P service jobs (StillRuns key) jobs
  not_held : {key : ℕ} → job_at jobs key ≡ None → HostStep P service jobs (NotHeld key) jobs

-- events, one after the other
pub data HostRun (P : ProgramTables) (service : ℕ) : HeldJobs → List Event → HeldJobs → Type 0 where
  no_event : {jobs : HeldJobs} → HostRun P service jobs [] jobs
  one_event : {jobs mid jobs' : HeldJobs} {e : Event} {es : List Event} → HostStep P service jobs e mid → HostRun P service mid es jobs'
      → HostRun P service jobs (e ∷ es) jobs'

-- what a host tells to have been printed by the job with this number
abbrev pub HostPrints : ProgramTables → ℕ → HeldJobs → ℕ → List ℕ → Type 0
HostPrints P service jobs key bytes =
    (h : Held) × (job_at jobs key ≡ Some h) × TellsPrinted P service h.body (turn_steps * h.turns) h.failed bytes
