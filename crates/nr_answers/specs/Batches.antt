-- Batches: calls that are answered together, each in its round (the project's own).
use Rattle.std.specs.Prelude.{◌≡◌, ◌⊎◌, ℕ, suc, ◌+◌, ◌*◌, ◌/◌, List, [], ◌∷◌, ◌++◌, length, max, nat_le}
use Rattle.std.specs.Int.{w32, to_be_bytes}
use Rattle.std.specs.List.{flat_map}
use Rattle.nr_linked.specs.declared.program.tables.ProgramTables.{ProgramTables}
use Rattle.nr_frame.specs.declared.kind.FrameKind.{FrameKind}
use Rattle.nr_frame.specs.declared.kind.FrameKind.TheVariants as frame_kinds
use Rattle.nr_frame.specs.Kinds.{code_of}
use Rattle.nr_graph.specs.Sorted.{sorted}
use Rattle.nr_answers.specs.Answers.{Replies, no_memory_text}
use Rattle.nr_answers.specs.Progress.{HasMore}

-- how many steps a job makes in a round at most
abbrev pub turn_steps : ℕ
turn_steps = 4096

-- the round in which a job with so many steps is done: at least the first
abbrev pub round_of : ℕ → ℕ
round_of steps = max 1 ((steps + 4095) / turn_steps)

-- a call of a batch: the version that was in force when it was read, and its body
pub record Gathered : Type 0 where
  pub version : ℕ
  pub body : List ℕ

-- an answer, and the round in which it is there
pub record Timed : Type 0 where
  pub round : ℕ
  pub text : List ℕ

-- The reply comes in the round of its steps; want of memory in the first, or in one before which the job still runs.
pub data Times (P : ProgramTables) (service : ℕ) (c : Gathered) : Timed → Type 0 where
  in_time : {steps : ℕ} {t : Timed} → Replies P service c.version c.body steps t.text → t.round ≡ round_of steps → Times P service c t
  gave_up : {t : Timed} (before : ℕ) → (before ≡ 0) ⊎ HasMore P service c.body (turn_steps * before) → t.round ≡ suc before
      → t.text ≡ no_memory_text c.body → Times P service c t

-- one answer for each call
pub data AllTimed (P : ProgramTables) (service : ℕ) : List Gathered → List Timed → Type 0 where
  no_call : AllTimed P service [] []
  one_call : {c : Gathered} {t : Timed} {cs : List Gathered} {ts : List Timed} → Times P service c t → AllTimed P service cs ts
      → AllTimed P service (c ∷ cs) (t ∷ ts)

-- by rounds; those of one round stay in their order
abbrev pub in_rounds : List Timed → List Timed
in_rounds ts = sorted (λ s t. nat_le s.round t.round) ts

abbrev pub frame_text : FrameKind → List ℕ → List ℕ
frame_text kind body = to_be_bytes w32 (length body) ++ code_of kind ∷ body

abbrev pub reply_frames : List Timed → List ℕ
reply_frames ts = flat_map (λ t. frame_text frame_kinds.Reply t.text) ts

-- what is said to a batch
pub record SaidToBatch (P : ProgramTables) (service : ℕ) (cs : List Gathered) (text : List ℕ) : Type 0 where
  pub answers : List Timed
  pub timed : AllTimed P service cs answers
  pub said : text ≡ reply_frames (in_rounds answers)
