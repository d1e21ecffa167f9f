-- Jobs: requests whose runs are made by turns of some steps (the project's own).
use Rattle.std.specs.Prelude.{◌≡◌, ℕ, ◌≤◌, Bool, true, false, List, []}
use Rattle.nr_linked.specs.declared.program.tables.ProgramTables.{ProgramTables}
use Rattle.nr_answers.specs.Answers.{Replies}
use Rattle.nr_answers.specs.Progress.{HasMore, HasSteps, PrintsBy}

-- a job as its callers see it
pub record Job : Type 0 where
  pub version : ℕ  -- of the messages, in which it is answered
  pub body : List ℕ  -- the request
  pub turned : ℕ  -- how many steps its turns were to make
  pub steps : ℕ  -- how many it tells to have
  pub failed : Bool  -- whether want of memory ended it

-- its run goes on after the steps of its turns, and it tells of these
pub record IsRunning (P : ProgramTables) (service : ℕ) (j : Job) : Type 0 where
  pub well : j.failed ≡ false
  pub told : j.steps ≡ j.turned
  pub more : HasMore P service j.body j.turned

-- its turns made all its steps, of which it tells, and this is its reply
pub record IsMade (P : ProgramTables) (service : ℕ) (j : Job) (text : List ℕ) : Type 0 where
  pub well : j.failed ≡ false
  pub reply : Replies P service j.version j.body j.steps text
  pub made : j.steps ≤ j.turned

-- want of memory ended it, and it tells of no more steps than its request has
pub record HasFailed (P : ProgramTables) (service : ℕ) (j : Job) : Type 0 where
  pub failed : j.failed ≡ true
  pub steps : HasSteps P service j.body j.steps

-- What a job with so many steps turned tells to have printed: what its run has printed after them; where want of memory
-- ended it, nothing, or what its run has printed after some of them.
pub data TellsPrinted (P : ProgramTables) (service : ℕ) (body : List ℕ) (turned : ℕ) : Bool → List ℕ → Type 0 where
  as_turned : {bytes : List ℕ} → PrintsBy P service body turned bytes → TellsPrinted P service body turned false bytes
  nothing : {bytes : List ℕ} → bytes ≡ [] → TellsPrinted P service body turned true bytes
  some_of : {bytes : List ℕ} (k : ℕ) → k ≤ turned → PrintsBy P service body k bytes → TellsPrinted P service body turned true bytes
