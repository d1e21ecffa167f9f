-- What happens to a reader: pieces are fed to it and frames are taken from it, in any order.
use Rattle.std.specs.Prelude.{◌≡◌, ℕ, List, [], ◌∷◌, ◌++◌, None}
use Rattle.nr_frame.specs.declared.kind.Side.{Side}
use Rattle.nr_frame.specs.Headers.{frame_len}
use Rattle.nr_frame.specs.Splits.{texts_of}
use Rattle.nr_frame.specs.Reading.{Reading, start_of, IsFed, IsGiven}

-- a piece was fed, or a frame with this text was given
pub data Event : Type 0 where
  Fed : (piece : List ℕ) → Event
  Given : (text : List ℕ) → Event

-- all that was fed, as one text
abbrev pub fed_of : List Event → List ℕ
fed_of [] = []
fed_of (Fed piece ∷ events) = piece ++ fed_of events
fed_of (Given text ∷ events) = fed_of events

-- the frames that were given, in order
abbrev pub given_of : List Event → List (List ℕ)
given_of [] = []
given_of (Fed piece ∷ events) = given_of events
given_of (Given text ∷ events) = text ∷ given_of events

-- these events lead from one reader to the other
abbrev pub Leads : Reading → List Event → Reading → Type 0
Leads old [] new = new ≡ old
Leads old (Fed piece ∷ events) new = (mid : Reading) × IsFed old piece mid × Leads mid events new
Leads old (Given text ∷ events) new = (mid : Reading) × IsGiven old text mid × Leads mid events new

-- the frames given and the bytes held are one text, and the fault is one; where both have given all whole
-- frames, the frames given are the same
pub record AreAlike (one : List Event) (new : Reading) (two : List Event) (other : Reading) : Type 0 where
  pub bytes : texts_of (given_of one) ++ new.unread ≡ texts_of (given_of two) ++ other.unread
  pub fault : new.fault ≡ other.fault
  pub frames : frame_len new.unread ≡ None → frame_len other.unread ≡ None → given_of one ≡ given_of two

-- it makes no difference how a text was cut into pieces, and when its frames were taken
abbrev pub CutsAgree : Type 0
CutsAgree = (side : Side) (one two : List Event) (new other : Reading) → Leads (start_of side) one new
    → Leads (start_of side) two other → fed_of one ≡ fed_of two → AreAlike one new two other
