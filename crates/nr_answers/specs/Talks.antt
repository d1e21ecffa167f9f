-- What a client sends that sends a hello and then whole batches, and what it is told (the project's own).
use Rattle.std.specs.Prelude.{◌≡◌, ℕ, ◌+◌, ◌≤◌, List, [], ◌∷◌, ◌++◌, length, map}
use Rattle.std.specs.List.{AllByRecursion, flat_map}
use Rattle.nr_linked.specs.declared.program.tables.ProgramTables.{ProgramTables}
use Rattle.nr_frame.specs.declared.kind.FrameKind.TheVariants as frame_kinds
use Rattle.nr_answers.specs.Answers.{max_body}
use Rattle.nr_answers.specs.Batches.{frame_text}
use Rattle.nr_answers.specs.Connections.{Peer, hello_frame, max_batch}

-- a body that fits a frame
abbrev pub IsShort : List ℕ → Type 0
IsShort body = length body ≤ max_body

-- ---- what it sends

-- the bodies of the calls of a batch
pub record IsBatch (bodies : List (List ℕ)) : Type 0 where
  pub few : length bodies ≤ max_batch
  pub short : AllByRecursion IsShort bodies

-- a frame for each call, and a go
abbrev pub batch_frames : List (List ℕ) → List (List ℕ)
batch_frames bodies = map (frame_text frame_kinds.Call) bodies ++ frame_text frame_kinds.Go [] ∷ []

abbrev pub all_frames : List (List (List ℕ)) → List (List ℕ)
all_frames [] = []
all_frames (b ∷ bs) = batch_frames b ++ all_frames bs

-- the frames of the whole talk
abbrev pub talk_frames : List ℕ → List (List (List ℕ)) → List (List ℕ)
talk_frames hello batches = frame_text frame_kinds.Hello hello ∷ all_frames batches

abbrev pub call_count : List (List (List ℕ)) → ℕ
call_count [] = 0
call_count (b ∷ bs) = length b + call_count bs

-- ---- what it is told

-- the text is so many reply frames
pub record AreReplies (count : ℕ) (text : List ℕ) : Type 0 where
  pub bodies : List (List ℕ)
  pub many : length bodies ≡ count
  pub short : AllByRecursion IsShort bodies
  pub whole : text ≡ flat_map (frame_text frame_kinds.Reply) bodies

-- a hello, and so many replies
pub record IsTalk (P : ProgramTables) (s : Peer) (count : ℕ) (text : List ℕ) : Type 0 where
  pub version : ℕ
  pub rest : List ℕ
  pub replies : AreReplies count rest
  pub whole : text ≡ hello_frame P s version ++ rest
