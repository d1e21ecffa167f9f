-- What a reader of frames stands for, and what a piece does to it.
use Rattle.std.specs.Prelude.{◌≡◌, ◌+◌, ◌≤◌, ℕ, List, [], ◌++◌, length, take, drop, Option, None, Some}
use Rattle.nr_frame.specs.Headers.{frame_len}
use Rattle.nr_frame.specs.Splits.{Splits, CutsOff}
use Rattle.nr_frame.specs.declared.kind.Side.{Side}
use Rattle.nr_frame.specs.declared.fault.FrameFault.{FrameFault}

-- its side, the bytes that were fed and not yet given, and its kept fault
pub record Reading : Type 0 where
  pub side : Side
  pub unread : List ℕ
  pub fault : Option FrameFault

-- a reader to which nothing was fed
abbrev pub start_of : Side → Reading
start_of side = record { side = side; unread = []; fault = None }

-- what a reader holds from `start` on has no header that breaks a rule, and behind the whole frames it has
-- so many bytes
pub record IsHeld (side : Side) (start rest : ℕ) (bytes : List ℕ) : Type 0 where
  pub bound : start + rest ≤ length bytes
  pub splits : Splits side (drop start bytes)
  pub rest_is : length splits.rest ≡ rest

-- how a piece changes a reader: not at all where it keeps a fault, else it is appended, up to the first
-- header that breaks a rule
pub record IsFed (old : Reading) (piece : List ℕ) (new : Reading) : Type 0 where
  pub same : new.side ≡ old.side
  pub kept : (f : FrameFault) → old.fault ≡ Some f → new ≡ old
  pub taken : old.fault ≡ None → new.fault ≡ None → new.unread ≡ old.unread ++ piece
  pub splits : old.fault ≡ None → new.fault ≡ None → Splits old.side new.unread
  pub cut : (f : FrameFault) → old.fault ≡ None → new.fault ≡ Some f → CutsOff old.side (old.unread ++ piece) new.unread f

-- how a reader changes where the frame with this text is given: it is the first one, and the rest stays
pub record IsGiven (old : Reading) (text : List ℕ) (new : Reading) : Type 0 where
  pub first : frame_len old.unread ≡ Some (length text)
  pub text_is : text ≡ take (length text) old.unread
  pub rest : new ≡ record old { unread = drop (length text) old.unread }
