-- Frames, by the first five bytes: the length of the body in four, the most significant first, and the
-- kind (the project's own format).
use Rattle.std.specs.Prelude.{◌≡◌, ℕ, ◌+◌, List, [], ◌∷◌, ◌++◌, length, take, Option, None, Some, nat_le, if◌then◌else◌}
use Rattle.std.specs.Int.{w32, from_be_bytes}
use Rattle.nr_frame.specs.Kinds.{reads_code}
use Rattle.nr_frame.specs.declared.kind.Side.{Side}
use Rattle.nr_frame.specs.declared.fault.FrameFault.{FrameFault}
use Rattle.nr_frame.specs.declared.fault.FrameFault.TheVariants.{FrameTooLong, FrameKind}

pub record FrameOf : Type 0 where
  pub kind : ℕ
  pub body : List ℕ

-- the length that four bytes spell
abbrev pub word_of : ℕ → ℕ → ℕ → ℕ → ℕ
word_of a b c d = from_be_bytes w32 (a ∷ b ∷ c ∷ d ∷ [])

-- how a length and a kind break a rule, the length first
abbrev pub broken_by : Side → ℕ → ℕ → Option FrameFault
broken_by side len code =
    if nat_le len 4194304 then (if reads_code side code then None else Some (FrameKind code)) else Some (FrameTooLong len)

-- how the header in front breaks a rule; nothing is said of less than a header
abbrev pub broken_at : Side → List ℕ → Option FrameFault
broken_at side (a ∷ b ∷ c ∷ d ∷ code ∷ rest) = broken_by side (word_of a b c d) code
broken_at side bytes = None

-- how many bytes the frame in front has, where it is whole
abbrev pub frame_len : List ℕ → Option ℕ
frame_len (a ∷ b ∷ c ∷ d ∷ code ∷ rest) =
    if nat_le (word_of a b c d) (length rest) then Some (word_of a b c d + 5) else None
frame_len bytes = None

-- the frame in front, where it is whole
abbrev pub frame_of : List ℕ → Option FrameOf
frame_of (a ∷ b ∷ c ∷ d ∷ code ∷ rest) =
    if nat_le (word_of a b c d) (length rest) then Some (record { kind = code; body = take (word_of a b c d) rest }) else None
frame_of bytes = None

-- these bytes are one frame, with this kind and this body
pub record IsFrameWith (code : ℕ) (content bytes : List ℕ) : Type 0 where
  pub whole : frame_len bytes ≡ Some (length bytes)
  pub content_is : frame_of bytes ≡ Some (record { kind = code; body = content })
  pub good : (side : Side) → broken_at side bytes ≡ (if reads_code side code then None else Some (FrameKind code))

-- whatever follows these bytes, the frame in front is this one
pub record IsGivenBack (code : ℕ) (content bytes : List ℕ) : Type 0 where
  pub whole : (rest : List ℕ) → frame_len (bytes ++ rest) ≡ Some (length bytes)
  pub content_is : (rest : List ℕ) → frame_of (bytes ++ rest) ≡ Some (record { kind = code; body = content })
  pub good : (side : Side) (rest : List ℕ) → broken_at side (bytes ++ rest) ≡ (if reads_code side code then None else Some (FrameKind code))
