-- What a server says on a connection (the project's own).
use Rattle.std.specs.Prelude.{◌≡◌, ◌≢◌, ◌⊎◌, ℕ, suc, ◌<◌, ◌≤◌, min, List, [], ◌∷◌, ◌++◌, length, take, All, Some, None, Result, Ok, Err, nat_le, if◌then◌else◌}
use Rattle.nr_linked.specs.declared.program.tables.ProgramTables.{ProgramTables}
use Rattle.nr_linked.specs.KindTexts.{class_name}
use Rattle.nr_frame.specs.declared.kind.FrameKind.TheVariants as frame_kinds
use Rattle.nr_frame.specs.declared.kind.Side.TheVariants.{Server}
use Rattle.nr_frame.specs.Headers.{FrameOf, broken_at, frame_len, frame_of}
use Rattle.nr_frame.specs.Kinds.{code_of}
use Rattle.nr_frame.specs.Splits.{IsFrame, texts_of}
use Rattle.nr_message.specs.declared.fault.MessageFault.{MessageFault}
use Rattle.nr_message.specs.declared.message.Hello.{Hello}
use Rattle.nr_message.specs.Reading.{hello_of}
use Rattle.nr_message.specs.Whole.{IsHello}
use Rattle.nr_message.specs.Writing.{hello_text}
use Rattle.nr_answers.specs.Batches.{Gathered, SaidToBatch, frame_text}

-- ---- a server, and what it holds between frames

-- the class that it serves, the digest of its classes, and the highest version of the messages that it knows
pub record Peer : Type 0 where
  pub service : ℕ
  pub digest : List ℕ
  pub top : ℕ

abbrev pub own_hello : ProgramTables → Peer → ℕ → Hello
own_hello P s version = record { version = version; digest = s.digest; service = class_name P s.service }

-- there are two versions, it knows the first, and its hello has a text
pub record IsPeer (P : ProgramTables) (s : Peer) : Type 0 where
  pub least : 1 ≤ s.top
  pub most : s.top ≤ 2
  pub hello : IsHello (own_hello P s s.top)

-- the version in force, and the calls of the open batch
pub record Holding : Type 0 where
  pub version : ℕ
  pub gathered : List Gathered

abbrev pub at_start : Holding
at_start = record { version = 1; gathered = [] }

-- the version after a hello: the smaller of its own and the server's highest; 1 where it can't be read or has version 0
abbrev pub agreed : ℕ → Result Hello MessageFault → ℕ
agreed top (Ok m) = if nat_le 1 m.version then min m.version top else 1
agreed top (Err e) = 1

abbrev pub hello_frame : ProgramTables → Peer → ℕ → List ℕ
hello_frame P s version = frame_text frame_kinds.Hello (hello_text (own_hello P s version))

-- ---- frames

abbrev pub max_batch : ℕ
max_batch = 16

-- the open batch, and behind it the call in the frame
abbrev pub with_call : Holding → FrameOf → List Gathered
with_call h f = h.gathered ++ (record { version = h.version; body = f.body }) ∷ []

-- what is said to one frame, and what is held then
pub data Says (P : ProgramTables) (s : Peer) (h : Holding) (f : FrameOf) : List ℕ → Holding → Type 0 where
  -- a hello is answered at once, also within a batch
  greeted : {h' : Holding} {text : List ℕ} → f.kind ≡ code_of frame_kinds.Hello → h' ≡ record h { version = agreed s.top (hello_of f.body) }
      → text ≡ hello_frame P s h'.version → Says P s h f text h'
  -- a call is kept
  gathered : {h' : Holding} {text : List ℕ} → f.kind ≡ code_of frame_kinds.Call → suc (length h.gathered) < max_batch
      → h' ≡ record h { gathered = with_call h f } → text ≡ [] → Says P s h f text h'
  -- and the sixteenth closes the batch
  filled : {h' : Holding} {text : List ℕ} → f.kind ≡ code_of frame_kinds.Call → max_batch ≤ suc (length h.gathered)
      → SaidToBatch P s.service (with_call h f) text → h' ≡ record h { gathered = [] } → Says P s h f text h'
  -- a go closes the batch; where no call is gathered nothing is said
  closed : {h' : Holding} {text : List ℕ} → f.kind ≡ code_of frame_kinds.Go → SaidToBatch P s.service h.gathered text
      → h' ≡ record h { gathered = [] } → Says P s h f text h'

-- what is said to frames, one behind the other; each is given as its bytes
pub data SaysAll (P : ProgramTables) (s : Peer) : Holding → List (List ℕ) → List ℕ → Holding → Type 0 where
  no_frame : {h : Holding} → SaysAll P s h [] [] h
  one_frame : {h mid h' : Holding} {t front back text : List ℕ} {ts : List (List ℕ)} {f : FrameOf} → frame_of t ≡ Some f
      → Says P s h f front mid → SaysAll P s mid ts back h' → text ≡ front ++ back → SaysAll P s h (t ∷ ts) text h'

-- ---- whole connections

-- how many frames of a connection are answered
abbrev pub max_frames : ℕ
max_frames = 65536

-- the whole frames of the bytes: up to the first header that breaks a rule, or a frame that isn't whole
pub record WholeFrames (bytes : List ℕ) (texts : List (List ℕ)) : Type 0 where
  pub rest : List ℕ
  pub whole : bytes ≡ texts_of texts ++ rest
  pub each : All (IsFrame Server) texts
  pub stops : (broken_at Server rest ≢ None) ⊎ (frame_len rest ≡ None)

-- The text is what a server says to the bytes that it received. A batch that stays open isn't answered.
pub record ConnectionText (P : ProgramTables) (s : Peer) (received text : List ℕ) : Type 0 where
  pub texts : List (List ℕ)
  pub frames : WholeFrames received texts
  pub holding : Holding
  pub said : SaysAll P s at_start (take max_frames texts) text holding
