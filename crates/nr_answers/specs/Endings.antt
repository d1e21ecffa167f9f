-- How a connection ends, by the bytes that a server received on it (the project's own). What it sent is a whole text.
use Rattle.std.specs.Prelude.{◌≡◌, ◌≢◌, ◌⊎◌, ℕ, ◌<◌, ◌≤◌, List, [], length, Some, None}
use Rattle.nr_linked.specs.declared.program.tables.ProgramTables.{ProgramTables}
use Rattle.nr_frame.specs.declared.fault.FrameFault.{FrameFault}
use Rattle.nr_frame.specs.declared.kind.Side.TheVariants.{Server}
use Rattle.nr_frame.specs.Headers.{broken_at}
use Rattle.nr_answers.specs.Connections.{ConnectionText, Peer, max_frames}

-- they end at an edge: with a whole frame, and no batch is open
pub record EndsAtEdge (P : ProgramTables) (s : Peer) (received sent : List ℕ) : Type 0 where
  pub text : ConnectionText P s received sent
  pub few : length text.texts ≤ max_frames
  pub all : text.frames.rest ≡ []
  pub no_batch : text.holding.gathered ≡ []

-- they end within a frame, or a batch is open
pub record EndsWithin (P : ProgramTables) (s : Peer) (received sent : List ℕ) : Type 0 where
  pub text : ConnectionText P s received sent
  pub few : length text.texts ≤ max_frames
  pub good : broken_at Server text.frames.rest ≡ None
  pub within : (text.frames.rest ≢ []) ⊎ (text.holding.gathered ≢ [])

-- a header among them breaks a rule so, before there are too many frames
pub record EndsBroken (P : ProgramTables) (s : Peer) (fault : FrameFault) (received sent : List ℕ) : Type 0 where
  pub text : ConnectionText P s received sent
  pub few : length text.texts ≤ max_frames
  pub broken : broken_at Server text.frames.rest ≡ Some fault

-- there are more frames than are answered
pub record EndsFull (P : ProgramTables) (s : Peer) (received sent : List ℕ) : Type 0 where
  pub text : ConnectionText P s received sent
  pub many : max_frames < length text.texts
