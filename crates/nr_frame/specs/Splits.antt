-- Bytes as frames, one behind the other.
use Rattle.std.specs.Prelude.{◌≡◌, ℕ, List, ◌++◌, length, take, drop, flat_map, All, None, Some}
use Rattle.nr_frame.specs.Headers.{broken_at, frame_len}
use Rattle.nr_frame.specs.declared.kind.Side.{Side}
use Rattle.nr_frame.specs.declared.fault.FrameFault.{FrameFault}

-- these bytes are one frame that the side reads
pub record IsFrame (side : Side) (bytes : List ℕ) : Type 0 where
  pub good : broken_at side bytes ≡ None
  pub whole : frame_len bytes ≡ Some (length bytes)

abbrev pub texts_of : List (List ℕ) → List ℕ
texts_of texts = flat_map (λ t. t) texts

-- the bytes are whole frames, and then less than one, with no header that breaks a rule
pub record Splits (side : Side) (bytes : List ℕ) : Type 0 where
  pub texts : List (List ℕ)
  pub rest : List ℕ
  pub whole : bytes ≡ texts_of texts ++ rest
  pub each : All (IsFrame side) texts
  pub good : broken_at side rest ≡ None
  pub partial : frame_len rest ≡ None

-- the same, with the place where the whole frames end
pub record SplitsAt (side : Side) (bytes : List ℕ) (at : ℕ) : Type 0 where
  pub texts : List (List ℕ)
  pub front : take at bytes ≡ texts_of texts
  pub each : All (IsFrame side) texts
  pub good : broken_at side (drop at bytes) ≡ None
  pub partial : frame_len (drop at bytes) ≡ None

-- the front of the bytes is whole frames, and the header behind it breaks a rule so
pub record CutsOff (side : Side) (bytes front : List ℕ) (fault : FrameFault) : Type 0 where
  pub texts : List (List ℕ)
  pub rest : List ℕ
  pub whole : bytes ≡ texts_of texts ++ rest
  pub each : All (IsFrame side) texts
  pub broken : broken_at side rest ≡ Some fault
  pub kept : front ≡ texts_of texts
