-- What a responder stands for: the server's side of one connection, between two calls (the project's own).
use Rattle.std.specs.Prelude.{◌≡◌, ◌⊎◌, ℕ, ◌-◌, ◌+◌, ◌<◌, ◌≤◌, List, [], ◌∷◌, ◌++◌, length, take, All, Option, Some, None}
use Rattle.std.specs.List.{AllByRecursion}
use Rattle.nr_linked.specs.declared.program.tables.ProgramTables.{ProgramTables}
use Rattle.nr_frame.specs.declared.fault.FrameFault.{FrameFault}
use Rattle.nr_frame.specs.declared.kind.Side.TheVariants.{Server}
use Rattle.nr_frame.specs.Headers.{frame_len}
use Rattle.nr_frame.specs.Splits.{IsFrame, texts_of}
use Rattle.nr_answers.specs.Batches.{Gathered, Timed, Times, reply_frames, in_rounds}
use Rattle.nr_answers.specs.Connections.{ConnectionText, Holding, Peer, SaysAll, WholeFrames, at_start, max_frames}
use Rattle.nr_answers.specs.Hosts.{Held, IsDone, Runs}

pub record Responding : Type 0 where
  pub program : ProgramTables
  pub peer : Peer
  pub unread : List ℕ  -- what was fed and isn't yet read as frames
  pub fault : Option FrameFault  -- the kept fault of a header
  pub holding : Holding  -- the version in force, and the calls of the open batch
  pub due : List Held  -- the jobs of the closed batch that are still to be answered, in their order
  pub rounds : ℕ  -- how many rounds of that batch were made
  pub frames : ℕ  -- how many whole frames were read

-- a responder to which nothing was fed
abbrev pub start_of : ProgramTables → Peer → Responding
start_of P s = record { program = P; peer = s; unread = []; fault = None; holding = at_start; due = []; rounds = 0; frames = 0 }

-- ---- what is still to be said

abbrev pub call_of : Held → Gathered
call_of h = record { version = h.version; body = h.body }

-- a job that is done is answered in the round that was made, one that runs in a later one
pub data DueIn (P : ProgramTables) (service rounds : ℕ) (h : Held) : Timed → Type 0 where
  ready : {t : Timed} → IsDone P service h → Times P service (call_of h) t → t.round ≡ rounds → DueIn P service rounds h t
  waits : {t : Timed} → Runs P service h → Times P service (call_of h) t → rounds < t.round → DueIn P service rounds h t

pub data AllDue (P : ProgramTables) (service rounds : ℕ) : List Held → List Timed → Type 0 where
  none_due : AllDue P service rounds [] []
  one_due : {h : Held} {t : Timed} {hs : List Held} {ts : List Timed} → DueIn P service rounds h t → AllDue P service rounds hs ts
      → AllDue P service rounds (h ∷ hs) (t ∷ ts)

-- the frames to come, where `more` is fed after what is held; behind a header that breaks a rule nothing is taken
abbrev pub FramesToCome : Option FrameFault → List ℕ → List ℕ → List (List ℕ) → Type 0
FramesToCome None unread more texts = WholeFrames (unread ++ more) texts
FramesToCome (Some f) unread more texts = All (IsFrame Server) texts × (texts_of texts ≡ unread)

-- The text may still be said, where `more` is fed and nothing else.
pub record MaySay (r : Responding) (more text : List ℕ) : Type 0 where
  pub answers : List Timed
  pub due : AllDue r.program r.peer.service r.rounds r.due answers
  pub texts : List (List ℕ)
  pub frames : FramesToCome r.fault r.unread more texts
  pub back : List ℕ
  pub after : Holding
  pub said : SaysAll r.program r.peer r.holding (take (max_frames - r.frames) texts) back after
  pub whole : text ≡ reply_frames (in_rounds answers) ++ back

-- ---- what a call does

-- these bytes were given: whatever may be said from now on, may be said behind them from before
pub record Goes (r : Responding) (bytes : List ℕ) (r' : Responding) : Type 0 where
  pub program : r'.program ≡ r.program
  pub peer : r'.peer ≡ r.peer
  pub goes : (more text : List ℕ) → MaySay r' more text → MaySay r more (bytes ++ text)

-- the piece was fed: whatever may be said where more follows, may be said from before where the piece and more follow
pub record Feeds (r : Responding) (piece : List ℕ) (r' : Responding) : Type 0 where
  pub program : r'.program ≡ r.program
  pub peer : r'.peer ≡ r.peer
  pub fed : (more text : List ℕ) → MaySay r' more text → MaySay r (piece ++ more) text

-- whatever is fed, something may be said
abbrev pub CanSay : Responding → Type 0
CanSay r = (more : List ℕ) → (text : List ℕ) × MaySay r more text

-- nothing is to be said before more is fed
pub record IsQuiet (r : Responding) : Type 0 where
  pub none_due : r.due ≡ []
  pub no_frame : (frame_len r.unread ≡ None) ⊎ (max_frames < r.frames)

-- neither a part of a frame nor an open batch is held
pub record IsAtEdge (r : Responding) : Type 0 where
  pub all_read : r.unread ≡ []
  pub no_batch : r.holding.gathered ≡ []

-- what falls with each frame that is given
abbrev pub load : Responding → ℕ
load r = length r.due + length r.holding.gathered + length r.unread

-- ---- the pace of rounds

-- A job that is due is done, and was turned in the round that was made last, or in the first round needn't have been; or it
-- runs, and was turned once in each round.
pub data IsPaced (P : ProgramTables) (service rounds : ℕ) (h : Held) : Type 0 where
  done_now : 1 ≤ rounds → IsDone P service h → (h.turns ≡ rounds) ⊎ ((h.turns ≡ 0) × (rounds ≡ 1)) → IsPaced P service rounds h
  runs_yet : Runs P service h → h.turns ≡ rounds → IsPaced P service rounds h

abbrev pub ArePaced : Responding → Type 0
ArePaced r = AllByRecursion (IsPaced r.program r.peer.service r.rounds) r.due

-- ---- a whole connection

-- where a connection stands: whatever may be said from now on completes what was sent to a text for what was received
abbrev pub Stands : ProgramTables → Peer → Responding → List ℕ → List ℕ → Type 0
Stands P s r received sent = (more text : List ℕ) → MaySay r more text → ConnectionText P s (received ++ more) (sent ++ text)
